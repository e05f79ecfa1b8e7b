use Rattle.std.proofs.Common.{sym, append-nil}
use Rattle.st_events.proofs.Given.{given}
use Rattle.st_core.proofs.AddedLemmas.{enter-replies}
use Rattle.st_core.proofs.added.add_entered.Goals as goal

pub returns-in-Stop-clause-added : goal.returns-in-Stop-clause-added
returns-in-Stop-clause-added g c = rw c.in-Stop.is (sym (append-nil c.args.actions.now))

pub returns-in_ok-add_replies-in-StopAndReply-clause-added : goal.returns-in_ok-add_replies-in-StopAndReply-clause-added
returns-in_ok-add_replies-in-StopAndReply-clause-added g c =
    rw (c.in-StopAndReply.is, enter-replies c.in-StopAndReply.replies) c.in_ok-add_replies-in-StopAndReply.ensures

-- what comes in fits in memory
pub add_actions-requires : goal.add_actions-requires
add_actions-requires g c = (search given, (search given, c.requires.enter_actions_fit))

pub add_actions-requires-in-KeepStateAndData : goal.add_actions-requires-in-KeepStateAndData
add_actions-requires-in-KeepStateAndData g c = (search given, (search given, c.requires.enter_actions_fit))

pub add_replies-requires : goal.add_replies-requires
add_replies-requires g c = (search given, (c.requires.replies_fit, c.requires.replies_fit))
