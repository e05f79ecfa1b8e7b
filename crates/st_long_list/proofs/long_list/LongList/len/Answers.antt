use Rattle.std.proofs.Common.{sym}
use Rattle.st_long_list.proofs.TierLemmas.{length_of_items}
use Rattle.st_long_list.proofs.long_list.LongList.len.Goals as goal

pub returns : goal.returns
returns g c = rw (← c.self.view_is) (sym (length_of_items (λ tier. tier.items) c.self.inside.tiers.items c.self.inside.len c.self.invariant.packed))
