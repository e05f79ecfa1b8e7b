-- The copy is what was gone over so far.
use Rattle.std.proofs.Common.{◌≡◌}
use Rattle.std.proofs.Math.ListN.{take}
use Rattle.st_hosted.proofs.copies.copy_replies.Given as goal

abbrev pub invariant-loop-tag : goal.invariant-loop-tag
invariant-loop-tag l = l.copy ≡ take l.tag-index l.it
