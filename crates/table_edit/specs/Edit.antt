-- What a change and a withdrawal do to the bucket or the base list that has the word, to the live count and to the totals.
-- Assumes nothing.
use Rattle.std.specs.Prelude.{ℕ, ◌+◌, ◌^◌, ◌≤◌, ◌<◌, ◌≡◌, Bool, true, List, length, get_or}
use Rattle.lists.specs.Entries.{Entry, update, remove, assignable}
use Rattle.lists.specs.Totals.{one_more, one_less}
use Rattle.hash.specs.Mix.{mix_of}
use Rattle.bucket.specs.declared.Bucket.{Bucket}
use Rattle.bucket.specs.Bucket as B
use Rattle.model.specs.Model.{Call, change, withdraw}
use Rattle.table.specs.Table.{Table, total_numbers, touch}
use Rattle.table.specs.Layout.{totals_at}
use Rattle.table.specs.Calls.{rows, solutions}
use Rattle.table_edit.specs.declared.Edit.{Edit}
use Rattle.table_edit.specs.declared.Edit.TheVariants.{Change, Withdraw}

-- the bucket of the vector v after it
abbrev pub on_bucket : Edit → ℕ → Bucket → Bucket
on_bucket (Change p) v b = B.changed rows v p b
on_bucket Withdraw v b = B.without rows v b

-- the base list after it
abbrev pub on_base : Edit → ℕ → List Entry → List Entry
on_base (Change p) v es = update (record { word = v; plan = p }) es
on_base Withdraw v es = remove v es

-- the table after it, but for the live count and the totals
abbrev pub touched : Edit → ℕ → Table → Table
touched e w T = touch rows solutions mix_of T w (on_bucket e) (on_base e)

-- how many words are live no more after it
abbrev pub leaving : Edit → ℕ
leaving (Change p) = 0
leaving Withdraw = 1

-- the totals after it, where the word had the plan q
abbrev pub recounted : Edit → ℕ → List ℕ → List ℕ
recounted (Change p) q ts = one_more p (one_less q ts)
recounted Withdraw q ts = one_less q ts

-- the numbers of the table with these totals
abbrev pub recounted_in : Edit → ℕ → List ℕ → List ℕ
recounted_in (Change p) q t = one_more (totals_at + p) (one_less (totals_at + q) t)
recounted_in Withdraw q t = one_less (totals_at + q) t

-- the call for it, of the identifier or word i
abbrev pub asked : {I : Type 0} → Edit → I → Call I
asked (Change p) i = change i p
asked Withdraw i = withdraw i

-- the plan that it gives, if it gives one, may be given
abbrev pub edit_allowed : Edit → Bool
edit_allowed (Change p) = assignable p
edit_allowed Withdraw = true

-- the totals of t can be moved so: that of q is not 0, and there is room for one more in each
pub record Movable (d : Edit) (q : ℕ) (t : List ℕ) : Type 0 where
  pub long : totals_at + total_numbers ≤ length t
  pub fits : q < total_numbers
  pub some : 0 < get_or t (totals_at + q) 0
  pub plan : edit_allowed d ≡ true
  pub room : (p : ℕ) → p < total_numbers → get_or (one_less (totals_at + q) t) (totals_at + p) 0 + 1 < 2 ^ 64
