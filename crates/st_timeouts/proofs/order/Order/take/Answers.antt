use Rattle.std.proofs.Common.{◌≡◌, ◌-◌, ◌<◌, suc, length, reverse, ap, ◌∙◌, arith}
use Rattle.std.specs.Prelude.{is_some}
use Rattle.std.specs.List.{remove}
use Rattle.std.proofs.lemmas.List.{length-reverse}
use Rattle.st_timeouts.proofs.FallingLemmas.{in_order_others, first_reversed, others_reversed, on_some, shorter}
use Rattle.st_timeouts.proofs.order.Order.take.Goals as goal

pub invariant_of-self : goal.invariant_of-self
invariant_of-self c =
    let keys = c.self.inside.keys.items in
    let last : suc (c.len-count.result - 1) ≡ length keys = omega (arith, c.len-count.ensures, c.if-count-eq0.false) in
    let others = others_reversed keys (c.len-count.result - 1) c.key_at-first.result c.key_at-first.ensures last in
    let new = on_some c.remove.result _ (ap is_some (c.remove.ensures.value ∙ c.key_at-first.ensures)) c.remove.ensures.removed in
    rw (new, others) (in_order_others (reverse keys) c.self.invariant)

pub returns-clause-first : goal.returns-clause-first
returns-clause-first c =
    let keys = c.self.inside.keys.items in
    let last : suc (c.len-count.result - 1) ≡ length keys = omega (arith, c.len-count.ensures, c.if-count-eq0.false) in
    rw (← c.self.view_is) (first_reversed keys (c.len-count.result - 1) c.key_at-first.result c.key_at-first.ensures last)

pub returns-clause-others : goal.returns-clause-others
returns-clause-others c =
    let keys = c.self.inside.keys.items in
    let last : suc (c.len-count.result - 1) ≡ length keys = omega (arith, c.len-count.ensures, c.if-count-eq0.false) in
    let others = others_reversed keys (c.len-count.result - 1) c.key_at-first.result c.key_at-first.ensures last in
    let new = on_some c.remove.result _ (ap is_some (c.remove.ensures.value ∙ c.key_at-first.ensures)) c.remove.ensures.removed in
    rw (new, ← c.self.view_is) others

pub returns-clause-places : goal.returns-clause-places
returns-clause-places c =
    let keys = c.self.inside.keys.items in
    let place = c.len-count.result - 1 in
    let within : place < length keys = omega (arith, c.len-count.ensures, c.if-count-eq0.false) in
    let new = on_some c.remove.result _ (ap is_some (c.remove.ensures.value ∙ c.key_at-first.ensures)) c.remove.ensures.removed in
    rw (new, ← c.self.view_is, length-reverse (remove keys place), length-reverse keys)
    (let fewer = shorter keys place within in omega (arith, fewer))
