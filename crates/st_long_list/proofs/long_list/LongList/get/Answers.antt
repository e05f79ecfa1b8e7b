use Rattle.std.proofs.Common.{◌%◌, ◌/◌, sym, ◌∙◌, arith}
use Rattle.st_long_list.proofs.TierLemmas.{got_in, got_past, lent_is_got}
use Rattle.st_long_list.proofs.long_list.LongList.get.Goals as goal

pub returns-in_err-tier : goal.returns-in_err-tier
returns-in_err-tier g c =
    let place = c.args.place in
    let found = rw c.deref.ensures.value at c.in_err-tier.ensures.lookup in
    let past = got_past (λ tier. tier.items) c.self.inside.tiers.items c.self.inside.len (place / 512) (place % 512) place (omega arith) found.3 c.self.invariant.packed in
    rw (c.from_residual.ensures, ← c.self.view_is) (sym past)

pub returns : goal.returns
returns g c =
    let place = c.args.place in
    let tier = c.in_ok-tier.tier.now in
    let found = rw c.deref.ensures.value at c.in_ok-tier.ensures.lookup in
    let inside = got_in (λ tier. tier.items) c.self.inside.tiers.items c.self.inside.len (place / 512) (place % 512) place tier (omega arith) (omega arith) found.3.0 found.1 c.self.invariant.packed in
    rw (← c.self.view_is) (lent_is_got tier.items (place % 512) c.get-2.result c.get-2.ensures.item ∙ sym inside)
