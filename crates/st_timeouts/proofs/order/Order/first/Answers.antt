use Rattle.std.proofs.Common.{◌≡◌, ◌-◌, suc, length, arith}
use Rattle.st_timeouts.proofs.FallingLemmas.{first_reversed}
use Rattle.st_timeouts.proofs.order.Order.first.Goals as goal

pub returns : goal.returns
returns c =
    let keys = c.self.inside.keys.items in
    let last : suc (c.len-count.result - 1) ≡ length keys = omega (arith, c.len-count.ensures, c.if-count-eq0.false) in
    rw (← c.self.view_is) (first_reversed keys (c.len-count.result - 1) c.key_at.result c.key_at.ensures last)
