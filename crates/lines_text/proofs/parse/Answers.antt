-- `lines_text::parse` meets its contract: a fifth field is too many.
-- Assumes nothing.
use Rattle.std.proofs.Common.{sym}
use Rattle.lines_text.proofs.Parted.{command_over}
use Rattle.lines_text.proofs.parse.Goals as goal

pub returns-in-Some-split_once-clause-means : goal.returns-in-Some-split_once-clause-means
returns-in-Some-split_once-clause-means c =
    sym (command_over _ _ _ _ _ _ _ _ _ c.in_ok-word.ensures.parts c.in_ok-second.ensures.parts c.in-Some.ensures.parts c.in-Some-split_once.ensures.parts)
