-- `patch_check::check_base` meets its contract: each kind is looked at where nothing before it is wrong.
-- Assumes nothing.
use mathlib.Core.Path.{◌≡◌, ◌∙◌}
use mathlib.Core.List.{List}
use Prim.Native.Nat.{ℕ, ◌+◌, ◌*◌, ◌≤◌}
use native.Mathlib.Omega.{arith}
use lib.ListN.{length, drop}
use Rattle.std.specs.Prelude.{Ok}
use Rattle.std.proofs.lemmas.Result.{err_from_is_err_and}
use Rattle.plane.specs.Record.{format1}
use Rattle.plane.specs.Plane.{plane_from, end_wrong}
use Rattle.plane.specs.Fits.{Fits}
use Rattle.plane.proofs.Exact.{read_fits}
use Rattle.patch.specs.Base.{remove_all}
use Rattle.patch.specs.Record.{gone_kind, gone_length, new_length}
use Rattle.patch_check.specs.Steps.{base_wrong}
use Rattle.patch.specs.Patch.{patched}
use Rattle.patch.specs.Wrong.{patch_from, gone_at, gone_wrong, news_wrong, run}
use Rattle.patch.proofs.Base.{remove-all_ascending, remove-all-length}
use Rattle.patch_check.proofs.Checked.{was-wrong, was-right, Gone, News, kept_is, news-start, base_is, end-start, end-scan}
use Rattle.patch_check.proofs.check_base.Goals.{After-entries, In_ok-remove_gone, After-run-news, In_ok-enter_news}
use Rattle.patch_check.proofs.check_base.Goals as goal

-- kind 7 is looked at as defined
abbrev seven : (p d : List ℕ) (first count : ℕ) → (first ≡ gone_at format1 d) × (first ≤ length d)
    → count ≡ run gone_kind gone_length (length d) (drop first d) → Fits format1 (plane_from format1 p) → Gone format1 (plane_from format1 p) d
seven p d first count r e f = record { first = first; count = count; starts = r.0; room = r.1; counted = e; ascending = f.ascending }

facts : (c : After-entries) → Fits format1 (plane_from format1 c.args.plane.now.bytes.now)
facts c = read_fits format1 c.args.plane.now.bytes.now c.args.plane.now.right c.args.plane.now.octets

-- nothing is wrong in kind 7, and what stays of the base list
module _ (c : In_ok-remove_gone) (f : Fits format1 (plane_from format1 c.args.plane.now.bytes.now)) where
  abbrev s : Gone format1 (plane_from format1 c.args.plane.now.bytes.now) c.args.d.now
  s = seven _ _ _ _ (c.requires.0, c.requires.1) c.run-gone.ensures f

  kept : (gone_wrong format1 (plane_from format1 c.args.plane.now.bytes.now) c.args.d.now ≡ Ok tt)
      × (c.remove_gone.new.kept ≡ remove_all (patch_from format1 c.args.d.now).gone (plane_from format1 c.args.plane.now.bytes.now).base)
  kept = was-right _ _ (kept_is format1 _ _ s (c.entries.ensures.0 ∙ c.load_base.ensures) c.in_ok-remove_gone.ensures)

  start : c.args.first + c.run-gone.result * gone_length ≤ length c.args.d.now
  start = news-start format1 _ _ s kept.0

-- kind 8 is looked at as defined
abbrev eight : (c : After-run-news) → Fits format1 (plane_from format1 c.args.plane.now.bytes.now)
    → gone_wrong format1 (plane_from format1 c.args.plane.now.bytes.now) c.args.d.now ≡ Ok tt → News format1 (plane_from format1 c.args.plane.now.bytes.now) c.args.d.now
eight c f r = record { gone = seven _ _ _ _ (c.requires.0, c.requires.1) c.run-gone.ensures f; right = r; count = c.run-news.result; counted = c.run-news.ensures }

pub remove_gone-requires : goal.remove_gone-requires
remove_gone-requires c =
    let a = (goal.at.remove_gone-requires c).After-entries in
    let f = facts a in
    rw (a.entries.ensures.0, a.load_base.ensures) (c.requires.1, f.few, f.ascending, c.new-kept.ensures)

pub returns-in_err-remove_gone : goal.returns-in_err-remove_gone
returns-in_err-remove_gone c =
    let a = (goal.at.returns-in_err-remove_gone c).After-entries in
    let e = err_from_is_err_and c.from_residual.result c.from_residual.ensures.1 in
    rw (e.1, e.2, was-wrong _ _ (kept_is format1 _ _ (seven _ _ _ _ (c.requires.0, c.requires.1) c.run-gone.ensures (facts a)) (c.entries.ensures.0 ∙ c.load_base.ensures) c.in_err-remove_gone.ensures))

pub overflow_mul-news_at : goal.overflow_mul-news_at
overflow_mul-news_at c = record { fits = omega (arith, start c (facts (goal.at.overflow_mul-news_at c).After-entries)) }

pub overflow_add-news_at : goal.overflow_add-news_at
overflow_add-news_at c = let a = goal.at.overflow_add-news_at c in record { fits = omega (arith, start a.In_ok-remove_gone (facts a.After-entries)) }

pub enter_news-requires : goal.enter_news-requires
enter_news-requires c =
    let a = goal.at.enter_news-requires c in
    let f = facts a.After-entries in
    let k = kept a.In_ok-remove_gone f in
    let gone = (patch_from format1 c.args.d.now).gone in
    let base = (plane_from format1 c.args.plane.now.bytes.now).base in
    rw (c.entries-2.ensures.0, c.load_base.ensures, c.entries-3.ensures.0, k.1)
    (start a.In_ok-remove_gone f, omega (arith, f.few, remove-all-length gone base), f.ascending, remove-all_ascending gone base f.ascending, c.requires.2)

pub returns-in_err-enter_news : goal.returns-in_err-enter_news
returns-in_err-enter_news c =
    let a = goal.at.returns-in_err-enter_news c in
    let f = facts a.After-entries in
    let k = kept a.In_ok-remove_gone f in
    let n = eight a.After-run-news f k.0 in
    let r = base_is format1 _ _ n (c.entries-2.ensures.0 ∙ c.load_base.ensures) (c.entries-3.ensures.0 ∙ k.1) c.in_err-enter_news.ensures in
    let e = err_from_is_err_and c.from_residual-in_err-enter_news.result c.from_residual-in_err-enter_news.ensures.1 in
    rw (e.1, e.2, k.0, was-wrong _ _ r)

-- nothing is wrong in kind 8, and what comes of the base list
module _ (c : In_ok-enter_news) (f : Fits format1 (plane_from format1 c.args.plane.now.bytes.now))
    (k : (gone_wrong format1 (plane_from format1 c.args.plane.now.bytes.now) c.args.d.now ≡ Ok tt)
    × (c.remove_gone.new.kept ≡ remove_all (patch_from format1 c.args.d.now).gone (plane_from format1 c.args.plane.now.bytes.now).base)) where
  abbrev n : News format1 (plane_from format1 c.args.plane.now.bytes.now) c.args.d.now
  n = record { gone = seven _ _ _ _ (c.requires.0, c.requires.1) c.run-gone.ensures f; right = k.0; count = c.run-news.result; counted = c.run-news.ensures }

  entered : (news_wrong format1 (plane_from format1 c.args.plane.now.bytes.now) c.args.d.now ≡ Ok tt)
      × (c.enter_news.new.new ≡ (patched (plane_from format1 c.args.plane.now.bytes.now) (patch_from format1 c.args.d.now)).base)
  entered = was-right _ _ (base_is format1 _ _ n (c.entries-2.ensures.0 ∙ c.load_base.ensures) (c.entries-3.ensures.0 ∙ k.1) c.in_ok-enter_news.ensures)

  ends : c.args.first + c.run-gone.result * gone_length + c.run-news.result * new_length ≤ length c.args.d.now
  ends = end-start format1 _ _ n entered.0

  end_is : end_wrong (c.args.first + c.run-gone.result * gone_length + c.run-news.result * new_length) (drop (c.args.first + c.run-gone.result * gone_length + c.run-news.result * new_length) c.args.d.now)
      ≡ base_wrong format1 (plane_from format1 c.args.plane.now.bytes.now) c.args.d.now
  end_is = end-scan format1 _ _ n entered.0

pub overflow_mul-news : goal.overflow_mul-news
overflow_mul-news c =
    let a = goal.at.overflow_mul-news c in
    let f = facts a.After-entries in
    record { fits = omega (arith, ends c f (kept a.In_ok-remove_gone f)) }

pub overflow_add-news_at-2 : goal.overflow_add-news_at-2
overflow_add-news_at-2 c =
    let a = goal.at.overflow_add-news_at-2 c in
    let f = facts a.After-entries in
    record { fits = omega (arith, ends a.In_ok-enter_news f (kept a.In_ok-remove_gone f)) }

pub end_wrong-requires : goal.end_wrong-requires
end_wrong-requires c =
    let a = goal.at.end_wrong-requires c in
    let f = facts a.After-entries in
    ends a.In_ok-enter_news f (kept a.In_ok-remove_gone f)

pub returns : goal.returns
returns c =
    let a = goal.at.returns c in
    let f = facts a.After-entries in
    let k = kept a.In_ok-remove_gone f in
    rw (c.end_wrong.ensures ∙ end_is a.In_ok-enter_news f k, (entered a.In_ok-enter_news f k).1)
