use Rattle.std.proofs.Common.{rules}
use Rattle.st_post_counter.proofs.StepLemmas.{adds}
use Rattle.st_post_counter.proofs.counter.Counter.add_picked.Goals as goal

pub swap-requires : goal.swap-requires
swap-requires g c = (search rules, search rules, adds _ _ _ _ _ _ c.requires.one (search rules) (search rules))
