-- `patch_make::put_base` meets its contract.
-- Assumes nothing.
use mathlib.Core.Path.{◌≡◌, ap, ◌∙◌}
use native.Mathlib.Omega.{arith}
use lib.ListN.{length}
use Rattle.codec.proofs.Part.{length-written}
use Rattle.plane.specs.Record.{format1}
use Rattle.plane.specs.Plane.{plane_from}
use Rattle.plane.proofs.Exact.{read_fits}
use Rattle.patch_make.proofs.Whole.{gone_most, put_both}
use Rattle.patch_make.proofs.put_base.Goals as goal

pub put_gone-news_at-requires : goal.put_gone-news_at-requires
put_gone-news_at-requires c =
    let p = read_fits format1 c.args.old.now.bytes.now c.args.old.now.right c.args.old.now.octets in
    let q = read_fits format1 c.args.new.now.bytes.now c.args.new.now.right c.args.new.now.octets in
    rw (c.entries.ensures.0, c.load_base.ensures, c.entries-2.ensures.0, c.load_base-2.ensures) (p.ascending, q.ascending, omega (arith, p.few, c.requires))

pub put_news-requires : goal.put_news-requires
put_news-requires c =
    let p = read_fits format1 c.args.old.now.bytes.now c.args.old.now.right c.args.old.now.octets in
    let q = read_fits format1 c.args.new.now.bytes.now c.args.new.now.right c.args.new.now.octets in
    let m = gone_most c.entries.result.now c.entries-2.result.now in
    let n : length c.entries.result.now ≡ length (plane_from format1 c.args.old.now.bytes.now).base = ap length (c.entries.ensures.0 ∙ c.load_base.ensures) in
    rw (c.entries-3.ensures.0, c.load_base.ensures, c.entries-4.ensures.0, c.load_base-2.ensures)
    (p.ascending, q.ascending, omega (arith, c.requires, c.put_gone-news_at.ensures.0, m, n, p.few, q.few, ap length c.put_gone-news_at.ensures.1 ∙ length-written c.args.first _ c.args.out.now))

pub returns : goal.returns
returns c =
    let b = c.entries.ensures.0 ∙ c.load_base.ensures in
    let a = c.entries-2.ensures.0 ∙ c.load_base-2.ensures in
    let b₁ = c.entries-3.ensures.0 ∙ c.load_base.ensures in
    let a₁ = c.entries-4.ensures.0 ∙ c.load_base-2.ensures in
    put_both c.args.first c.put_gone-news_at.result c.put_news.result _ _ c.args.out.now c.put_gone-news_at.new.out c.put_news.new.out (rw (b, a) at c.put_gone-news_at.ensures) (rw (b₁, a₁) at c.put_news.ensures)
