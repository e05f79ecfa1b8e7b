-- The reply that is taken out is the one that was looked at.
use Rattle.std.proofs.Common.{◌≤◌, ℕ, List, length, sym, subst}
use Rattle.zumelivon.proofs.described.collect.Goals as goal

pub write-requires : goal.write-requires
write-requires c =
    subst (λ (bytes : List ℕ). length bytes ≤ length c.args.room.now) (sym c.bytes_of.ensures)
    (c.if-is_too_long.ensures.fits c.in-Some-Reply.reply
    (c.in-Some-Reply.ensures.shown c.in-Some.core.now (sym c.in-Some.ensures.value) c.in-Some-Reply.reply c.in-Some-Reply.field-0-is))
