use Rattle.std.proofs.Common.{false, [], ◌∷◌, ◌++◌, ◌||◌, arith, refl, sym, ap, ◌∙◌, append-nil, reverse, unwrap_or}
use Rattle.st_events.specs.declared.action.Action.TheVariants.{Reply, Postpone, NextEvent, Set, Cancel, Update, Send, Hibernate}
use Rattle.st_events.specs.declared.asked.Asked.TheVariants as asked
use Rattle.st_events.specs.Timers.{same_timer}
use Rattle.st_actions.specs.Plan.{replies_of, postpone_of, inserts_of, settings_of, sends_of}
use Rattle.st_actions.proofs.PlanLemmas.{one_fewer, taken_before, one_before, first_decides, asked_before, planned_whole}
use Rattle.st_actions.proofs.planning.plan.Goals as goal

-- the layout of each list is a hypothesis
pub len-count-requires : goal.len-count-requires
len-count-requires g c = c.requires.actions_fit

pub with_reserved-requires : goal.with_reserved-requires
with_reserved-requires g c = c.requires.replies_fit

pub with_reserved-requires-2 : goal.with_reserved-requires-2
with_reserved-requires-2 g c = c.requires.inserts_fit

pub with_reserved-requires-3 : goal.with_reserved-requires-3
with_reserved-requires-3 g c = c.requires.settings_fit

pub with_reserved-requires-4 : goal.with_reserved-requires-4
with_reserved-requires-4 g c = c.requires.sends_fit

pub pop-requires : goal.pop-requires
pop-requires g c = c.requires.actions_fit

pub in_order-replies-requires : goal.in_order-replies-requires
in_order-replies-requires g c = (c.requires.replies_fit, c.requires.replies_fit)

pub in_order-inserts-requires : goal.in_order-inserts-requires
in_order-inserts-requires g c = (c.requires.inserts_fit, c.requires.inserts_fit)

pub in_order-settings-requires : goal.in_order-settings-requires
in_order-settings-requires g c = (c.requires.settings_fit, c.requires.settings_fit)

pub in_order-sends-requires : goal.in_order-sends-requires
in_order-sends-requires g c = (c.requires.sends_fit, c.requires.sends_fit)

-- nothing was taken
pub loop-action-init : goal.loop-action-init
loop-action-init g c =
    let replies = ap (λ b. b.items) c.in-Ok-with_reserved.ensures.reserved in
    let inserts = ap (λ b. b.items) c.in-Ok-with_reserved-2.ensures.reserved in
    let settings = ap (λ b. b.items) c.in-Ok-with_reserved-3.ensures.reserved in
    let sends = ap (λ b. b.items) c.in-Ok-with_reserved-4.ensures.reserved in
    let replies_reserved = ap (λ b. b.reserved) c.in-Ok-with_reserved.ensures.reserved in
    let inserts_reserved = ap (λ b. b.reserved) c.in-Ok-with_reserved-2.ensures.reserved in
    let settings_reserved = ap (λ b. b.reserved) c.in-Ok-with_reserved-3.ensures.reserved in
    let sends_reserved = ap (λ b. b.reserved) c.in-Ok-with_reserved-4.ensures.reserved in (
      [],
      record {
        whole = append-nil c.args.actions;
        replies = ap reverse replies;
        postpone = λ given. refl;
        inserts = ap reverse inserts;
        settings = ap reverse settings;
        sends = ap reverse sends;
        noted = c.in-Ok.ensures.empty;
        reserved_for_replies = omega (arith, replies_reserved, c.len-count.ensures.length);
        reserved_for_inserts = omega (arith, inserts_reserved, c.len-count.ensures.length);
        reserved_for_settings = omega (arith, settings_reserved, c.len-count.ensures.length);
        reserved_for_sends = omega (arith, sends_reserved, c.len-count.ensures.length);
        room = omega (arith, c.in-Ok.ensures.room, c.len-count.ensures.length);
      },
    )

pub loop-action-smaller-in-Reply : goal.loop-action-smaller-in-Reply
loop-action-smaller-in-Reply g c = omega (arith, one_fewer _ _ _ c.in-Some.ensures.popped)

pub loop-action-smaller-in-Postpone : goal.loop-action-smaller-in-Postpone
loop-action-smaller-in-Postpone g c = omega (arith, one_fewer _ _ _ c.in-Some.ensures.popped)

pub loop-action-smaller-in-NextEvent : goal.loop-action-smaller-in-NextEvent
loop-action-smaller-in-NextEvent g c = omega (arith, one_fewer _ _ _ c.in-Some.ensures.popped)

pub loop-action-smaller-in-Set : goal.loop-action-smaller-in-Set
loop-action-smaller-in-Set g c = omega (arith, one_fewer _ _ _ c.in-Some.ensures.popped)

pub loop-action-smaller-in-Cancel : goal.loop-action-smaller-in-Cancel
loop-action-smaller-in-Cancel g c = omega (arith, one_fewer _ _ _ c.in-Some.ensures.popped)

pub loop-action-smaller-in-Update : goal.loop-action-smaller-in-Update
loop-action-smaller-in-Update g c = omega (arith, one_fewer _ _ _ c.in-Some.ensures.popped)

pub loop-action-smaller-in-Send : goal.loop-action-smaller-in-Send
loop-action-smaller-in-Send g c = omega (arith, one_fewer _ _ _ c.in-Some.ensures.popped)

pub loop-action-smaller : goal.loop-action-smaller
loop-action-smaller g c = omega (arith, one_fewer _ _ _ c.in-Some.ensures.popped)

pub push-requires : goal.push-requires
push-requires g c =
    let fewer = one_fewer _ _ _ c.in-Some.ensures.popped in
    (c.requires.replies_fit, omega (arith, fewer, c.loop-action.invariant.1.reserved_for_replies))

pub push-requires-in-NextEvent : goal.push-requires-in-NextEvent
push-requires-in-NextEvent g c =
    let fewer = one_fewer _ _ _ c.in-Some.ensures.popped in
    (c.requires.inserts_fit, omega (arith, fewer, c.loop-action.invariant.1.reserved_for_inserts))

pub ask-requires : goal.ask-requires
ask-requires g c =
    let fewer = one_fewer _ _ _ c.in-Some.ensures.popped in
    (c.requires.settings_fit, (c.requires.settings_fit, (omega (arith, fewer, c.loop-action.invariant.1.reserved_for_settings), omega (arith, fewer, c.loop-action.invariant.1.room))))

pub ask-requires-in-Cancel : goal.ask-requires-in-Cancel
ask-requires-in-Cancel g c =
    let fewer = one_fewer _ _ _ c.in-Some.ensures.popped in
    (c.requires.settings_fit, (c.requires.settings_fit, (omega (arith, fewer, c.loop-action.invariant.1.reserved_for_settings), omega (arith, fewer, c.loop-action.invariant.1.room))))

pub ask-requires-in-Update : goal.ask-requires-in-Update
ask-requires-in-Update g c =
    let fewer = one_fewer _ _ _ c.in-Some.ensures.popped in
    (c.requires.settings_fit, (c.requires.settings_fit, (omega (arith, fewer, c.loop-action.invariant.1.reserved_for_settings), omega (arith, fewer, c.loop-action.invariant.1.room))))

pub push-requires-in-Send : goal.push-requires-in-Send
push-requires-in-Send g c =
    let fewer = one_fewer _ _ _ c.in-Some.ensures.popped in
    (c.requires.sends_fit, omega (arith, fewer, c.loop-action.invariant.1.reserved_for_sends))

pub loop-action-preserved-in-Reply : goal.loop-action-preserved-in-Reply
loop-action-preserved-in-Reply g c =
    let taken = c.loop-action.invariant.0 in
    let kept = c.loop-action.invariant.1 in
    let fewer = one_fewer _ _ _ c.in-Some.ensures.popped in
    let popped = c.in-Some.ensures.popped ∙ ap (λ action. c.pop.new.self ++ action ∷ []) c.in-Reply.is in
    let reserved = ap (λ b. b.reserved) c.push.ensures.pushed in (
      Reply c.in-Reply.tag c.in-Reply.content ∷ taken,
      record {
        whole = taken_before _ _ _ _ _ popped kept.whole;
        replies = one_before _ _ _ (c.in-Reply.tag, c.in-Reply.content) (ap (λ b. b.items) c.push.ensures.pushed) kept.replies;
        postpone = kept.postpone;
        inserts = kept.inserts;
        settings = kept.settings;
        sends = kept.sends;
        noted = kept.noted;
        reserved_for_replies = omega (arith, fewer, reserved, kept.reserved_for_replies);
        reserved_for_inserts = omega (arith, fewer, kept.reserved_for_inserts);
        reserved_for_settings = omega (arith, fewer, kept.reserved_for_settings);
        reserved_for_sends = omega (arith, fewer, kept.reserved_for_sends);
        room = omega (arith, fewer, kept.room);
      },
    )

pub loop-action-preserved-in-Postpone : goal.loop-action-preserved-in-Postpone
loop-action-preserved-in-Postpone g c =
    let taken = c.loop-action.invariant.0 in
    let kept = c.loop-action.invariant.1 in
    let fewer = one_fewer _ _ _ c.in-Some.ensures.popped in
    let popped = c.in-Some.ensures.popped ∙ ap (λ action. c.pop.new.self ++ action ∷ []) c.in-Postpone.is in (
      Postpone c.in-Postpone.last ∷ taken,
      record {
        whole = taken_before _ _ _ _ _ popped kept.whole;
        replies = kept.replies;
        postpone = λ given. kept.postpone c.in-Postpone.last ∙ (first_decides c.loop-action.postpone c.in-Postpone.last given ∙ sym (ap (λ postpone. unwrap_or postpone given) c.or-postpone.ensures));
        inserts = kept.inserts;
        settings = kept.settings;
        sends = kept.sends;
        noted = kept.noted;
        reserved_for_replies = omega (arith, fewer, kept.reserved_for_replies);
        reserved_for_inserts = omega (arith, fewer, kept.reserved_for_inserts);
        reserved_for_settings = omega (arith, fewer, kept.reserved_for_settings);
        reserved_for_sends = omega (arith, fewer, kept.reserved_for_sends);
        room = omega (arith, fewer, kept.room);
      },
    )

pub loop-action-preserved-in-NextEvent : goal.loop-action-preserved-in-NextEvent
loop-action-preserved-in-NextEvent g c =
    let taken = c.loop-action.invariant.0 in
    let kept = c.loop-action.invariant.1 in
    let fewer = one_fewer _ _ _ c.in-Some.ensures.popped in
    let popped = c.in-Some.ensures.popped ∙ ap (λ action. c.pop.new.self ++ action ∷ []) c.in-NextEvent.is in
    let reserved = ap (λ b. b.reserved) c.push-in-NextEvent.ensures.pushed in (
      NextEvent c.in-NextEvent.kind c.in-NextEvent.content ∷ taken,
      record {
        whole = taken_before _ _ _ _ _ popped kept.whole;
        replies = kept.replies;
        postpone = kept.postpone;
        inserts = one_before _ _ _ _ (ap (λ b. b.items) c.push-in-NextEvent.ensures.pushed) kept.inserts;
        settings = kept.settings;
        sends = kept.sends;
        noted = kept.noted;
        reserved_for_replies = omega (arith, fewer, kept.reserved_for_replies);
        reserved_for_inserts = omega (arith, fewer, reserved, kept.reserved_for_inserts);
        reserved_for_settings = omega (arith, fewer, kept.reserved_for_settings);
        reserved_for_sends = omega (arith, fewer, kept.reserved_for_sends);
        room = omega (arith, fewer, kept.room);
      },
    )

pub loop-action-preserved-in-Set : goal.loop-action-preserved-in-Set
loop-action-preserved-in-Set g c =
    let taken = c.loop-action.invariant.0 in
    let kept = c.loop-action.invariant.1 in
    let fewer = one_fewer _ _ _ c.in-Some.ensures.popped in
    let popped = c.in-Some.ensures.popped ∙ ap (λ action. c.pop.new.self ++ action ∷ []) c.in-Set.is in (
      Set c.in-Set.timer c.in-Set.time c.in-Set.content ∷ taken,
      record {
        whole = taken_before _ _ _ _ _ popped kept.whole;
        replies = kept.replies;
        postpone = kept.postpone;
        inserts = kept.inserts;
        settings = asked_before c.in-Set.timer (asked.Set c.in-Set.time c.in-Set.content) _ _ _ taken c.ask.ensures.asked (kept.noted c.in-Set.timer) kept.settings;
        sends = kept.sends;
        noted = λ other. c.ask.ensures.noted other ∙ ap (λ noted. same_timer other c.in-Set.timer || noted) (kept.noted other);
        reserved_for_replies = omega (arith, fewer, kept.reserved_for_replies);
        reserved_for_inserts = omega (arith, fewer, kept.reserved_for_inserts);
        reserved_for_settings = omega (arith, fewer, c.ask.ensures.reserved, kept.reserved_for_settings);
        reserved_for_sends = omega (arith, fewer, kept.reserved_for_sends);
        room = omega (arith, fewer, c.ask.ensures.room, kept.room);
      },
    )

pub loop-action-preserved-in-Cancel : goal.loop-action-preserved-in-Cancel
loop-action-preserved-in-Cancel g c =
    let taken = c.loop-action.invariant.0 in
    let kept = c.loop-action.invariant.1 in
    let fewer = one_fewer _ _ _ c.in-Some.ensures.popped in
    let popped = c.in-Some.ensures.popped ∙ ap (λ action. c.pop.new.self ++ action ∷ []) c.in-Cancel.is in (
      Cancel c.in-Cancel.timer ∷ taken,
      record {
        whole = taken_before _ _ _ _ _ popped kept.whole;
        replies = kept.replies;
        postpone = kept.postpone;
        inserts = kept.inserts;
        settings = asked_before c.in-Cancel.timer asked.Cancel _ _ _ taken c.ask-in-Cancel.ensures.asked (kept.noted c.in-Cancel.timer) kept.settings;
        sends = kept.sends;
        noted = λ other. c.ask-in-Cancel.ensures.noted other ∙ ap (λ noted. same_timer other c.in-Cancel.timer || noted) (kept.noted other);
        reserved_for_replies = omega (arith, fewer, kept.reserved_for_replies);
        reserved_for_inserts = omega (arith, fewer, kept.reserved_for_inserts);
        reserved_for_settings = omega (arith, fewer, c.ask-in-Cancel.ensures.reserved, kept.reserved_for_settings);
        reserved_for_sends = omega (arith, fewer, kept.reserved_for_sends);
        room = omega (arith, fewer, c.ask-in-Cancel.ensures.room, kept.room);
      },
    )

pub loop-action-preserved-in-Update : goal.loop-action-preserved-in-Update
loop-action-preserved-in-Update g c =
    let taken = c.loop-action.invariant.0 in
    let kept = c.loop-action.invariant.1 in
    let fewer = one_fewer _ _ _ c.in-Some.ensures.popped in
    let popped = c.in-Some.ensures.popped ∙ ap (λ action. c.pop.new.self ++ action ∷ []) c.in-Update.is in (
      Update c.in-Update.timer c.in-Update.content ∷ taken,
      record {
        whole = taken_before _ _ _ _ _ popped kept.whole;
        replies = kept.replies;
        postpone = kept.postpone;
        inserts = kept.inserts;
        settings = asked_before c.in-Update.timer (asked.Update c.in-Update.content) _ _ _ taken c.ask-in-Update.ensures.asked (kept.noted c.in-Update.timer) kept.settings;
        sends = kept.sends;
        noted = λ other. c.ask-in-Update.ensures.noted other ∙ ap (λ noted. same_timer other c.in-Update.timer || noted) (kept.noted other);
        reserved_for_replies = omega (arith, fewer, kept.reserved_for_replies);
        reserved_for_inserts = omega (arith, fewer, kept.reserved_for_inserts);
        reserved_for_settings = omega (arith, fewer, c.ask-in-Update.ensures.reserved, kept.reserved_for_settings);
        reserved_for_sends = omega (arith, fewer, kept.reserved_for_sends);
        room = omega (arith, fewer, c.ask-in-Update.ensures.room, kept.room);
      },
    )

pub loop-action-preserved-in-Send : goal.loop-action-preserved-in-Send
loop-action-preserved-in-Send g c =
    let taken = c.loop-action.invariant.0 in
    let kept = c.loop-action.invariant.1 in
    let fewer = one_fewer _ _ _ c.in-Some.ensures.popped in
    let popped = c.in-Some.ensures.popped ∙ ap (λ action. c.pop.new.self ++ action ∷ []) c.in-Send.is in
    let reserved = ap (λ b. b.reserved) c.push-in-Send.ensures.pushed in (
      Send c.in-Send.target c.in-Send.content ∷ taken,
      record {
        whole = taken_before _ _ _ _ _ popped kept.whole;
        replies = kept.replies;
        postpone = kept.postpone;
        inserts = kept.inserts;
        settings = kept.settings;
        sends = one_before _ _ _ (c.in-Send.target, c.in-Send.content) (ap (λ b. b.items) c.push-in-Send.ensures.pushed) kept.sends;
        noted = kept.noted;
        reserved_for_replies = omega (arith, fewer, kept.reserved_for_replies);
        reserved_for_inserts = omega (arith, fewer, kept.reserved_for_inserts);
        reserved_for_settings = omega (arith, fewer, kept.reserved_for_settings);
        reserved_for_sends = omega (arith, fewer, reserved, kept.reserved_for_sends);
        room = omega (arith, fewer, kept.room);
      },
    )

pub loop-action-preserved : goal.loop-action-preserved
loop-action-preserved g c =
    let taken = c.loop-action.invariant.0 in
    let kept = c.loop-action.invariant.1 in
    let fewer = one_fewer _ _ _ c.in-Some.ensures.popped in
    let popped = c.in-Some.ensures.popped ∙ ap (λ action. c.pop.new.self ++ action ∷ []) c.in-Hibernate.is in (
      Hibernate ∷ taken,
      record {
        whole = taken_before _ _ _ _ _ popped kept.whole;
        replies = kept.replies;
        postpone = kept.postpone;
        inserts = kept.inserts;
        settings = kept.settings;
        sends = kept.sends;
        noted = kept.noted;
        reserved_for_replies = omega (arith, fewer, kept.reserved_for_replies);
        reserved_for_inserts = omega (arith, fewer, kept.reserved_for_inserts);
        reserved_for_settings = omega (arith, fewer, kept.reserved_for_settings);
        reserved_for_sends = omega (arith, fewer, kept.reserved_for_sends);
        room = omega (arith, fewer, kept.room);
      },
    )

-- all was taken
pub returns-clause-planned : goal.returns-clause-planned
returns-clause-planned g c =
    let kept = c.loop-action.invariant.1 in
    let all = rw (c.in_default-pop.ensures.end.0 refl) at kept.whole in
    planned_whole c.args.actions c.in_order-replies.result _ c.in_order-inserts.result c.in_order-settings.result c.in_order-sends.result
    (c.in_order-replies.ensures ∙ (kept.replies ∙ ap replies_of all))
    (c.unwrap_or.ensures ∙ (sym (kept.postpone false) ∙ ap postpone_of all))
    (c.in_order-inserts.ensures ∙ (kept.inserts ∙ ap inserts_of all))
    (c.in_order-settings.ensures ∙ (kept.settings ∙ ap settings_of all))
    (c.in_order-sends.ensures ∙ (kept.sends ∙ ap sends_of all))

-- a short list wants no memory
pub returns-in_default-clause-inline : goal.returns-in_default-clause-inline
returns-in_default-clause-inline g c = λ few. c.in_default.ensures.inline (omega (arith, few, c.len-count.ensures.length))

pub returns-in_default-with_reserved-clause-inline : goal.returns-in_default-with_reserved-clause-inline
returns-in_default-with_reserved-clause-inline g c = λ few. c.in_default-with_reserved.ensures.inline (omega (arith, few, c.len-count.ensures.length))

pub returns-in_default-with_reserved-2-clause-inline : goal.returns-in_default-with_reserved-2-clause-inline
returns-in_default-with_reserved-2-clause-inline g c = λ few. c.in_default-with_reserved-2.ensures.inline (omega (arith, few, c.len-count.ensures.length))

pub returns-in_default-with_reserved-3-clause-inline : goal.returns-in_default-with_reserved-3-clause-inline
returns-in_default-with_reserved-3-clause-inline g c = λ few. c.in_default-with_reserved-3.ensures.inline (omega (arith, few, c.len-count.ensures.length))

pub returns-in_default-with_reserved-4-clause-inline : goal.returns-in_default-with_reserved-4-clause-inline
returns-in_default-with_reserved-4-clause-inline g c = λ few. c.in_default-with_reserved-4.ensures.inline (omega (arith, few, c.len-count.ensures.length))

-- without memory the list comes back
pub returns-in_default-clause-planned : goal.returns-in_default-clause-planned
returns-in_default-clause-planned g c = tt

pub returns-in_default-clause-value_returned : goal.returns-in_default-clause-value_returned
returns-in_default-clause-value_returned g c = refl

pub returns-in_default-with_reserved-clause-planned : goal.returns-in_default-with_reserved-clause-planned
returns-in_default-with_reserved-clause-planned g c = tt

pub returns-in_default-with_reserved-clause-value_returned : goal.returns-in_default-with_reserved-clause-value_returned
returns-in_default-with_reserved-clause-value_returned g c = refl

pub returns-in_default-with_reserved-2-clause-planned : goal.returns-in_default-with_reserved-2-clause-planned
returns-in_default-with_reserved-2-clause-planned g c = tt

pub returns-in_default-with_reserved-2-clause-value_returned : goal.returns-in_default-with_reserved-2-clause-value_returned
returns-in_default-with_reserved-2-clause-value_returned g c = refl

pub returns-in_default-with_reserved-3-clause-planned : goal.returns-in_default-with_reserved-3-clause-planned
returns-in_default-with_reserved-3-clause-planned g c = tt

pub returns-in_default-with_reserved-3-clause-value_returned : goal.returns-in_default-with_reserved-3-clause-value_returned
returns-in_default-with_reserved-3-clause-value_returned g c = refl

pub returns-in_default-with_reserved-4-clause-planned : goal.returns-in_default-with_reserved-4-clause-planned
returns-in_default-with_reserved-4-clause-planned g c = tt

pub returns-in_default-with_reserved-4-clause-value_returned : goal.returns-in_default-with_reserved-4-clause-value_returned
returns-in_default-with_reserved-4-clause-value_returned g c = refl

pub returns-clause-inline : goal.returns-clause-inline
returns-clause-inline g c = λ few. refl

pub returns-clause-value_returned : goal.returns-clause-value_returned
returns-clause-value_returned g c = tt
