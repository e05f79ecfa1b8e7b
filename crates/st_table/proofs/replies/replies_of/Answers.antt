use Rattle.std.proofs.Common.{arith}
use Rattle.st_table.specs.Lent.{hears}
use Rattle.st_table.specs.Rules.{reply_of}
use Rattle.st_table.proofs.AskLemmas.{one_more}
use Rattle.st_table.proofs.replies.replies_of.Goals as goal

-- one ask more
pub loop-ask-preserved : goal.loop-ask-preserved
loop-ask-preserved c =
    one_more (reply_of (hears c.args.at) c.args.before.now c.args.registers.now) c.args.asks.now c.loop-ask.ask-index c.ask-item.result c.loop-ask.replies c.in_ok-replies.replies c.in_ok-asked.asked
    (omega arith) c.ask-item.is c.loop-ask.invariant c.in_ok-asked.ensures c.in_ok-replies.ensures
