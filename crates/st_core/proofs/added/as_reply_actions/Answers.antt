use Rattle.std.proofs.Common.{◌++◌, ap, ◌∙◌}
use Rattle.st_core.specs.Callbacks.{reply_actions}
use Rattle.st_events.proofs.Given.{given}
use Rattle.st_core.proofs.added.as_reply_actions.Goals as goal

-- what comes in fits in memory
pub add_replies-requires : goal.add_replies-requires
add_replies-requires g c = (search given, (c.requires.replies_fit, c.requires.replies_fit))

-- there were none before
pub returns : goal.returns
returns g c = c.in_ok-add_replies.ensures ∙ ap (λ actions. actions ++ reply_actions c.args.replies) c.new-actions.ensures
