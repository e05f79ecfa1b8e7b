use Rattle.std.proofs.Common.{◌++◌, ap, ◌∙◌}
use Rattle.st_core.specs.Callbacks.{reply_actions}
use Rattle.st_events.proofs.Given.{given}
use Rattle.st_core.proofs.AddedLemmas.{reply_in, replies_in}
use Rattle.st_core.proofs.added.add_replies.Goals as goal

pub push-requires : goal.push-requires
push-requires g c = search given

pub loop-tag-preserved : goal.loop-tag-preserved
loop-tag-preserved g c = record {
  all = reply_in (c.args.actions.now ++ reply_actions c.args.replies) c.loop-tag.actions c.push.new.self c.loop-tag.tag-iterator c.next.new.self (c.in-Some.tag, c.in-Some.content)
      c.in-Some.ensures.steps c.in_ok-push.ensures.pushed c.loop-tag.invariant.all;
}

pub loop-tag-init : goal.loop-tag-init
loop-tag-init g c = record {
  all = ap (λ replies. c.args.actions.now ++ reply_actions replies)
      (c.into_iter-tag-iterator.ensures.into_iter_gives ∙ (c.take_each-tag-items.ensures.elements ∙ c.into_places-left.ensures.elements));
}

pub returns : goal.returns
returns g c =
    replies_in (c.args.actions.now ++ reply_actions c.args.replies) c.loop-tag.actions c.loop-tag.tag-iterator c.in-None.ensures.steps.0 c.loop-tag.invariant.all
