-- The lookup: the plan that a plane gives for a word, and what the call answers for anything as identifier and any bytes as plane.
-- Assumes nothing.
use Rattle.std.specs.Prelude.{ℕ, Bool, cond, List, [], ltb, length, get_or, Result, Ok, Err, Option, Some, None}
use Rattle.std.specs.Option.{unwrap_or}
use Rattle.std.proofs.Math.Option as found
use Rattle.answer.specs.Numbers.{Answer}
use Rattle.lists.specs.Entries.{desk_plan, find}
use Rattle.gf2.specs.Vectors.{product}
use Rattle.hash.specs.Mix.{mix_of}
use Rattle.answer.specs.declared.Cause.TheVariants.{WrongPlane}
use Rattle.identifier.specs.Identifier.{Token, read_of}
use Rattle.identifier.specs.Place.{second_of, threshold_at, bucket_at}
use Rattle.plane.specs.Record.{format1, PlaneBucket}
use Rattle.plane.specs.Plane.{Plane, wrong_at, plane_from}

-- the bucket of the vector v, of one level; the default is never met where there is a bucket
abbrev pub bucket_of : List PlaneBucket → ℕ → PlaneBucket
bucket_of bs v = get_or bs (bucket_at (length bs) (mix_of v)) (record { bound = 0; sols = [] })

-- document 01's test that a level holds v: its threshold is below the bound of its bucket
abbrev pub holds : List PlaneBucket → ℕ → Bool
holds bs v = ltb (threshold_at (mix_of v)) (bucket_of bs v).bound

-- what a level gives for v, if it holds v: bit c of the plan is the parity of (v AND solution word c)
unfoldable pub level_plan : List PlaneBucket → ℕ → Option ℕ
level_plan bs v = cond (holds bs v) (Some (product (bucket_of bs v).sols v)) None

-- the plan that the base list gives, if it has the word; else the desk's (document 02, order 3)
abbrev pub or_desk : found.Option ℕ → ℕ
or_desk found.none = desk_plan
or_desk (found.some p) = p

-- the plan of a vector of level 2: of that level if it holds the vector, else of the base list
unfoldable pub second_plan : Plane → ℕ → ℕ
second_plan P v = unwrap_or (level_plan P.level2 v) (or_desk (find v P.base))

-- the plan of the word w: of level 1 if it holds w, else as w'
unfoldable pub plan_from : Plane → ℕ → ℕ
plan_from P w = unwrap_or (level_plan P.level1 w) (second_plan P (second_of w))

-- cause 10, or the plan of the word w
abbrev pub looked : List ℕ → ℕ → Result (Unit {0}) ℕ → Answer
looked p w (Err at) = Err (WrongPlane at)
looked p w (Ok u) = Ok (plan_from (plane_from format1 p) w)

-- causes 15, 1 and 2, by what the identifier is read as, else the word is looked up
abbrev pub lookup_read : List ℕ → Answer → Answer
lookup_read p (Err e) = Err e
lookup_read p (Ok w) = looked p w (wrong_at format1 p)

-- the lookup: causes 15, 1, 2, 10
unfoldable pub lookup_call : Token → List ℕ → Answer
lookup_call id p = lookup_read p (read_of id)
