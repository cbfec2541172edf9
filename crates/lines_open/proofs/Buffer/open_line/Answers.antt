-- `lines_open::Buffer::open_line` meets its contract: only the numbers that the opened table needs are lent.
-- Assumes nothing.
use Rattle.std.proofs.Common.{◌≡◌, length, take, true, sym, ◌∙◌, rules}
use Rattle.table.specs.Layout.{in_range, longest}
use Rattle.table.specs.Calls.{rows, solutions}
use Rattle.lines_open.specs.Buffer.{held_in}
use Rattle.lines_open.proofs.Opening.{part_length, beyond_part, part_whole, opening_says, opening_leaves, open_refused}
use Rattle.lines_open.proofs.Buffer.open_line.Goals as goal

pub returns-then-in_range : goal.returns-then-in_range
returns-then-in_range c =
    let b = c.args.self.now in
    let i : in_range c.args.b1 c.args.b2 ≡ true = sym c.in_range.ensures ∙ c.if-in_range.true in
    let l : length b.numbers ≡ longest rows solutions = search rules in
    let k : length c.open.new.t ≡ length (take c.length_of-n.result b.numbers) = search rules in
    let n = c.length_of-n.result in
    let m : length c.open.new.t ≡ n = k ∙ part_length c.args.b1 c.args.b2 n b.numbers i c.length_of-n.ensures l in
    record {
      output = opening_says c.args.b1 c.args.b2 n b.numbers i c.length_of-n.ensures l (held_in b) c.open.result c.open.new.t c.open.ensures;
      state = opening_leaves c.args.b1 c.args.b2 n b.numbers i c.length_of-n.ensures l (held_in b) c.open.result c.open.new.t c.open.ensures k;
      fits = part_whole n b.numbers c.open.new.t m;
      stays = beyond_part n b.numbers c.open.new.t m;
    }

pub returns : goal.returns
returns c =
    open_refused c.args.b1 c.args.b2 c.args.self.now (sym c.in_range.ensures ∙ c.if-in_range.false) c.requires
