-- The reply that is taken out is the one that was looked at.
use Rattle.std.proofs.Common.{sym}
use Rattle.zumelivon.proofs.taking.collect.Goals as goal

pub write_content-requires : goal.write_content-requires
write_content-requires c =
    c.if-is_too_long.ensures.fits c.in-Some-Reply.reply
    (c.in-Some-Reply.ensures.shown c.in-Some.core.now (sym c.in-Some.ensures.value) c.in-Some-Reply.reply c.in-Some-Reply.field-0-is)
