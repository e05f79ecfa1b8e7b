use Rattle.std.proofs.Common.{◌≡◌, refl, ap, sym, ◌∙◌, inr}
use Rattle.std.proofs.lemmas.Result.{err_from_is_err_and}
use Rattle.std.specs.Prelude.{None, Some}
use Rattle.st_core.specs.Callbacks.{Called, callbacks_of, or_old, entered_as, entered_with}
use Rattle.st_core.specs.Transition.{with_moment}
use Rattle.st_events.proofs.Given.{given}
use Rattle.st_core.proofs.TransitionLemmas.{concluded_takes_memory, goes_on, stops, turns_same, or_old_twice}
use Rattle.st_core.proofs.engine.Core.enter.Goals as goal

-- the list of actions finds no memory before anything changes
pub returns-in_err-data : goal.returns-in_err-data
returns-in_err-data g c handled called comes called_is =
    let callbacks = callbacks_of g.M.Module g.M.State.PartialEq.eq c.args.self.now.module_ in
    let machine = c.args.self.now.machine in
    let told = err_from_is_err_and c.from_residual.result c.from_residual.ensures.1 in
    (refl, inr (concluded_takes_memory callbacks (with_moment machine c.args.course.now) c.args.course.number called called.reason, rw (told.1, told.2) refl, refl))

-- nor does the list of calls
pub returns-in_err-push : goal.returns-in_err-push
returns-in_err-push g c handled called comes called_is =
    let callbacks = callbacks_of g.M.Module g.M.State.PartialEq.eq c.args.self.now.module_ in
    let machine = c.args.self.now.machine in
    let told = err_from_is_err_and c.from_residual-in_err-push.result c.from_residual-in_err-push.ensures.1 in
    (refl, inr (concluded_takes_memory callbacks (with_moment machine c.args.course.now) c.args.course.number called called.reason, rw (told.1, told.2) refl, refl))

-- the machine goes on
pub returns-in-None : goal.returns-in-None
returns-in-None g c handled called comes called_is =
    let callbacks = callbacks_of g.M.Module g.M.State.PartialEq.eq c.args.self.now.module_ in
    let machine = c.args.self.now.machine in
    let given : c.or_old-held.result.now ≡ handled.data = rw (c.or_old-held.ensures, comes.data, ← c.self.view_is) refl in
    let answered : c.in-Ok.entered ≡ callbacks.enter_is machine.state handled.state handled.data = rw (c.in-Ok.ensures, given, comes.state, ← c.self.view_is) refl in
    let called_as : called ≡ entered_with machine.state handled c.in-Ok.entered = called_is ∙ ap (λ entered. entered_with machine.state handled entered) (sym answered) in
    let said = entered_as c.in-Ok.entered in
    let held : called.data ≡ or_old machine.data c.in_ok-data.data =
    ap (λ (last : Called _ _ _). last.data) called_as
    ∙ (ap (λ before. or_old before said.data) comes.data
    ∙ (sym (or_old_twice machine.data said.data c.args.data) ∙ ap (λ new. or_old machine.data new) (sym c.in_ok-data.ensures.new_data))) in
    let none : called.reason ≡ None = rw called_as (sym c.in_ok-data.ensures.reason ∙ c.in-None.is) in
    turns_same _ _ _ c.go_on.new.gathered _ (goes_on callbacks machine (with_moment machine c.args.course.now) c.args.course.number called none)
    (c.go_on.ensures called (record {
      calls = rw (called_as, c.in_ok-push.ensures.pushed, comes.calls, comes.state, ← c.self.view_is) refl;
      state = rw called_as comes.state;
      «data» = held;
      changed = rw called_as comes.changed;
      actions = rw (called_as, c.in_ok-data.ensures.added, comes.actions) refl;
    }))

-- the machine stops
pub returns-in-Some : goal.returns-in-Some
returns-in-Some g c handled called comes called_is =
    let callbacks = callbacks_of g.M.Module g.M.State.PartialEq.eq c.args.self.now.module_ in
    let machine = c.args.self.now.machine in
    let given : c.or_old-held.result.now ≡ handled.data = rw (c.or_old-held.ensures, comes.data, ← c.self.view_is) refl in
    let answered : c.in-Ok.entered ≡ callbacks.enter_is machine.state handled.state handled.data = rw (c.in-Ok.ensures, given, comes.state, ← c.self.view_is) refl in
    let called_as : called ≡ entered_with machine.state handled c.in-Ok.entered = called_is ∙ ap (λ entered. entered_with machine.state handled entered) (sym answered) in
    let said = entered_as c.in-Ok.entered in
    let held : called.data ≡ or_old machine.data c.in_ok-data.data =
    ap (λ (last : Called _ _ _). last.data) called_as
    ∙ (ap (λ before. or_old before said.data) comes.data
    ∙ (sym (or_old_twice machine.data said.data c.args.data) ∙ ap (λ new. or_old machine.data new) (sym c.in_ok-data.ensures.new_data))) in
    let some : called.reason ≡ Some c.in-Some.reason = rw called_as (sym c.in_ok-data.ensures.reason ∙ c.in-Some.is) in
    turns_same _ _ _ c.stop_at.new.gathered _ (stops callbacks machine (with_moment machine c.args.course.now) c.args.course.number called c.in-Some.reason some)
    (c.stop_at.ensures called (record {
      calls = rw (called_as, c.in_ok-push.ensures.pushed, comes.calls, comes.state, ← c.self.view_is) refl;
      state = rw called_as comes.state;
      «data» = held;
      changed = rw called_as comes.changed;
      actions = rw (called_as, c.in_ok-data.ensures.added, comes.actions) refl;
    }))

pub add_entered-requires : goal.add_entered-requires
add_entered-requires g c = (search given, (g.met.M.Module.lawful.enter_outcome_fits, (g.met.M.Module.lawful.enter_actions_fit, g.met.M.Module.lawful.replies_fit)))
