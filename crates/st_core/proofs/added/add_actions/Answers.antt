use Rattle.std.proofs.Common.{◌++◌, ap, ◌∙◌}
use Rattle.st_actions.specs.Joined.{as_actions}
use Rattle.st_events.proofs.Given.{given}
use Rattle.st_core.proofs.AddedLemmas.{action_in, actions_in}
use Rattle.st_core.proofs.added.add_actions.Goals as goal

pub push-requires : goal.push-requires
push-requires g c = search given

pub loop-action-preserved : goal.loop-action-preserved
loop-action-preserved g c = record {
  all = action_in (c.args.actions.now ++ as_actions c.args.more) c.loop-action.actions c.push.new.self c.loop-action.action-iterator c.next.new.self c.in-Some.action
      c.as_action.result c.in-Some.ensures.steps c.as_action.ensures c.in_ok-push.ensures.pushed c.loop-action.invariant.all;
}

pub loop-action-init : goal.loop-action-init
loop-action-init g c = record {
  all = ap (λ actions. c.args.actions.now ++ as_actions actions)
      (c.into_iter-action-iterator.ensures.into_iter_gives ∙ (c.take_each-action-items.ensures.elements ∙ c.into_places-left.ensures.elements));
}

pub returns : goal.returns
returns g c =
    actions_in (c.args.actions.now ++ as_actions c.args.more) c.loop-action.actions c.loop-action.action-iterator c.in-None.ensures.steps.0 c.loop-action.invariant.all
