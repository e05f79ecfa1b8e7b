use Rattle.st_core.proofs.StateLemmas.{ended_keeps}
use Rattle.st_core.proofs.engine.Core.end_at.Goals as goal

-- it can come about
pub invariant_of-core : goal.invariant_of-core
invariant_of-core g c =
    rw (c.new-2.ensures, c.new-3.ensures, c.new-4.ensures)
    (ended_keeps c.args.opening.id c.args.opening.now c.args.opening.first c.args.reason c.terminate-word.result c.requires.moment c.requires.greatest)
