use Rattle.std.proofs.Common.{arith, ap, refl}
use Rattle.std.specs.Prelude.{not}
use Rattle.st_actions.proofs.PlanLemmas.{joined_whole, joined_is}
use Rattle.st_actions.proofs.JoinLemmas.{reserved_behind, both_moved, no_more_remain, remaining_moved}
use Rattle.st_actions.proofs.joining.join.Goals as goal

-- the lists are the caller's, and so is their layout
pub reserved_for-requires : goal.reserved_for-requires
reserved_for-requires g c = (c.requires.replies_fit, c.requires.replies_fit)

pub reserved_for-requires-2 : goal.reserved_for-requires-2
reserved_for-requires-2 g c = (c.requires.inserts_fit, c.requires.inserts_fit)

pub reserved_for-requires-3 : goal.reserved_for-requires-3
reserved_for-requires-3 g c = (c.requires.settings_fit, c.requires.settings_fit)

pub reserved_for-requires-4 : goal.reserved_for-requires-4
reserved_for-requires-4 g c = (c.requires.sends_fit, c.requires.sends_fit)

pub timers_of-requires : goal.timers_of-requires
timers_of-requires g c = c.requires.settings_fit

pub move_all-requires : goal.move_all-requires
move_all-requires g c = (c.requires.replies_fit, omega (arith, ap (λ b. b.reserved) c.in-Ok.ensures.reserved))

pub move_all-requires-2 : goal.move_all-requires-2
move_all-requires-2 g c =
    let reserved = reserved_behind _ _ _ _ _ c.in-Ok.ensures.reserved (omega arith) c.move_all.ensures.moved in
    (c.requires.replies_fit, omega (arith, reserved))

pub move_all-requires-3 : goal.move_all-requires-3
move_all-requires-3 g c = (c.requires.inserts_fit, omega (arith, ap (λ b. b.reserved) c.in-Ok-reserved_for.ensures.reserved))

pub move_all-requires-4 : goal.move_all-requires-4
move_all-requires-4 g c =
    let reserved = reserved_behind _ _ _ _ _ c.in-Ok-reserved_for.ensures.reserved (omega arith) c.move_all-3.ensures.moved in
    (c.requires.inserts_fit, omega (arith, reserved))

pub move_remaining-requires : goal.move_remaining-requires
move_remaining-requires g c = (c.requires.settings_fit, omega (arith, ap (λ b. b.reserved) c.in-Ok-reserved_for-2.ensures.reserved))

pub move_all-requires-5 : goal.move_all-requires-5
move_all-requires-5 g c =
    let moved = remaining_moved _ _ _ _ c.args.second.requests (λ setting. ap not (c.in-Ok-timers_of.ensures.noted setting.timer)) c.move_remaining.ensures.moved in
    let few = no_more_remain c.args.first.requests c.args.second.requests in
    let reserved = reserved_behind _ _ _ _ _ c.in-Ok-reserved_for-2.ensures.reserved few moved in
    (c.requires.settings_fit, omega (arith, reserved))

pub move_all-requires-6 : goal.move_all-requires-6
move_all-requires-6 g c = (c.requires.sends_fit, omega (arith, ap (λ b. b.reserved) c.in-Ok-reserved_for-3.ensures.reserved))

pub move_all-requires-7 : goal.move_all-requires-7
move_all-requires-7 g c =
    let reserved = reserved_behind _ _ _ _ _ c.in-Ok-reserved_for-3.ensures.reserved (omega arith) c.move_all-6.ensures.moved in
    (c.requires.sends_fit, omega (arith, reserved))

pub finish-replies-requires : goal.finish-replies-requires
finish-replies-requires g c = (c.requires.replies_fit, c.requires.replies_fit)

pub finish-inserts-requires : goal.finish-inserts-requires
finish-inserts-requires g c = (c.requires.inserts_fit, c.requires.inserts_fit)

pub finish-settings-requires : goal.finish-settings-requires
finish-settings-requires g c = (c.requires.settings_fit, c.requires.settings_fit)

pub finish-sends-requires : goal.finish-sends-requires
finish-sends-requires g c = (c.requires.sends_fit, c.requires.sends_fit)

pub returns-clause-joined : goal.returns-clause-joined
returns-clause-joined g c =
    let moved = remaining_moved _ _ _ _ c.args.second.requests (λ setting. ap not (c.in-Ok-timers_of.ensures.noted setting.timer)) c.move_remaining.ensures.moved in
    joined_whole c.args.first c.args.second c.finish-replies.result c.finish-inserts.result c.finish-settings.result c.finish-sends.result
    (both_moved _ _ _ _ _ _ _ c.in-Ok.ensures.reserved c.move_all.ensures.moved c.move_all-2.ensures.moved c.finish-replies.ensures)
    (both_moved _ _ _ _ _ _ _ c.in-Ok-reserved_for.ensures.reserved c.move_all-3.ensures.moved c.move_all-4.ensures.moved c.finish-inserts.ensures)
    (both_moved _ _ _ _ _ _ _ c.in-Ok-reserved_for-2.ensures.reserved moved c.move_all-5.ensures.moved c.finish-settings.ensures)
    (both_moved _ _ _ _ _ _ _ c.in-Ok-reserved_for-3.ensures.reserved c.move_all-6.ensures.moved c.move_all-7.ensures.moved c.finish-sends.ensures)

-- plans of two lists, joined, are the plan of both
pub returns-clause-plan_of_both : goal.returns-clause-plan_of_both
returns-clause-plan_of_both g c actions enter first second =
    joined_is c.args.first c.args.second _ actions enter (returns-clause-joined g c) first second

-- short lists want no memory
pub returns-in_default-clause-inline : goal.returns-in_default-clause-inline
returns-in_default-clause-inline g c = λ short. c.in_default.ensures.inline short.0

pub returns-in_default-reserved_for-clause-inline : goal.returns-in_default-reserved_for-clause-inline
returns-in_default-reserved_for-clause-inline g c = λ short. c.in_default-reserved_for.ensures.inline short.1

pub returns-in_default-reserved_for-2-clause-inline : goal.returns-in_default-reserved_for-2-clause-inline
returns-in_default-reserved_for-2-clause-inline g c = λ short. c.in_default-reserved_for-2.ensures.inline short.2

pub returns-in_default-reserved_for-3-clause-inline : goal.returns-in_default-reserved_for-3-clause-inline
returns-in_default-reserved_for-3-clause-inline g c = λ short. c.in_default-reserved_for-3.ensures.inline short.3

pub returns-in_default-timers_of-clause-inline : goal.returns-in_default-timers_of-clause-inline
returns-in_default-timers_of-clause-inline g c =
    λ short. c.in_default-timers_of.ensures.inline (omega (arith, short.2))

-- without memory both come back
pub returns-in_default-clause-joined : goal.returns-in_default-clause-joined
returns-in_default-clause-joined g c = tt

pub returns-in_default-clause-plan_of_both : goal.returns-in_default-clause-plan_of_both
returns-in_default-clause-plan_of_both g c = λ actions enter first second. tt

pub returns-in_default-clause-value_returned : goal.returns-in_default-clause-value_returned
returns-in_default-clause-value_returned g c = refl

pub returns-in_default-reserved_for-clause-joined : goal.returns-in_default-reserved_for-clause-joined
returns-in_default-reserved_for-clause-joined g c = tt

pub returns-in_default-reserved_for-clause-plan_of_both : goal.returns-in_default-reserved_for-clause-plan_of_both
returns-in_default-reserved_for-clause-plan_of_both g c = λ actions enter first second. tt

pub returns-in_default-reserved_for-clause-value_returned : goal.returns-in_default-reserved_for-clause-value_returned
returns-in_default-reserved_for-clause-value_returned g c = refl

pub returns-in_default-reserved_for-2-clause-joined : goal.returns-in_default-reserved_for-2-clause-joined
returns-in_default-reserved_for-2-clause-joined g c = tt

pub returns-in_default-reserved_for-2-clause-plan_of_both : goal.returns-in_default-reserved_for-2-clause-plan_of_both
returns-in_default-reserved_for-2-clause-plan_of_both g c = λ actions enter first second. tt

pub returns-in_default-reserved_for-2-clause-value_returned : goal.returns-in_default-reserved_for-2-clause-value_returned
returns-in_default-reserved_for-2-clause-value_returned g c = refl

pub returns-in_default-reserved_for-3-clause-joined : goal.returns-in_default-reserved_for-3-clause-joined
returns-in_default-reserved_for-3-clause-joined g c = tt

pub returns-in_default-reserved_for-3-clause-plan_of_both : goal.returns-in_default-reserved_for-3-clause-plan_of_both
returns-in_default-reserved_for-3-clause-plan_of_both g c = λ actions enter first second. tt

pub returns-in_default-reserved_for-3-clause-value_returned : goal.returns-in_default-reserved_for-3-clause-value_returned
returns-in_default-reserved_for-3-clause-value_returned g c = refl

pub returns-in_default-timers_of-clause-joined : goal.returns-in_default-timers_of-clause-joined
returns-in_default-timers_of-clause-joined g c = tt

pub returns-in_default-timers_of-clause-plan_of_both : goal.returns-in_default-timers_of-clause-plan_of_both
returns-in_default-timers_of-clause-plan_of_both g c = λ actions enter first second. tt

pub returns-in_default-timers_of-clause-value_returned : goal.returns-in_default-timers_of-clause-value_returned
returns-in_default-timers_of-clause-value_returned g c = refl

pub returns-clause-inline : goal.returns-clause-inline
returns-clause-inline g c = λ short. refl

pub returns-clause-value_returned : goal.returns-clause-value_returned
returns-clause-value_returned g c = tt
