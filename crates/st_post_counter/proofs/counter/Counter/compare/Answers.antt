use Rattle.std.proofs.Common.{rules}
use Rattle.st_post_counter.proofs.StepLemmas.{compares}
use Rattle.st_post_counter.proofs.counter.Counter.compare.Goals as goal

pub load-requires : goal.load-requires
load-requires g c = (search rules, search rules, compares _ _ _ _ (search rules))
