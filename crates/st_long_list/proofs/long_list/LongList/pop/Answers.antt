use Rattle.std.proofs.Common.{arith}
use Rattle.st_long_list.proofs.TierLemmas.{popped}
use Rattle.st_long_list.proofs.long_list.LongList.pop.Goals as goal

pub returns-clause-items : goal.returns-clause-items
returns-clause-items g c =
    popped c.args.self.now c.remove.new.self c.saturating_sub-place.result c.remove.result (omega arith) c.remove.ensures.value c.remove.ensures.removed c.remove.ensures.unchanged
