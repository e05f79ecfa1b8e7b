use Rattle.std.proofs.Common.{◌≡◌, true, false, refl, ap, ◌∙◌, inr, Some, if◌then◌else◌}
use Rattle.std.proofs.lemmas.Result.{err_from_is_err_and}
use Rattle.st_events.specs.declared.outcome.Outcome.TheVariants as outcome
use Rattle.st_core.specs.declared.course.Course.{Course}
use Rattle.st_core.specs.Callbacks.{callbacks_of, called_with, differs, entered_by, is_entered}
use Rattle.st_core.specs.Transition.{with_moment}
use Rattle.st_core.proofs.TransitionLemmas.{comes_of, concluded_takes_memory, enters_by, enters_not, stops, turns_same}
use Rattle.st_core.proofs.engine.Core.conclude.Goals as goal

-- the replies as actions find no memory before anything changes
pub returns-in_err-actions-in-StopAndReply : goal.returns-in_err-actions-in-StopAndReply
returns-in_err-actions-in-StopAndReply g c handled called comes =
    let callbacks = callbacks_of g.M.Module g.M.State.PartialEq.eq c.args.self.now.module_ in
    let machine = c.args.self.now.machine in
    let told = err_from_is_err_and c.from_residual.result c.from_residual.ensures.1 in
    (refl, inr (concluded_takes_memory callbacks (with_moment machine c.args.now) c.args.number called called.reason, rw (told.1, told.2) refl, refl))

pub returns-in-NextState : goal.returns-in-NextState
returns-in-NextState g c handled called comes =
    let callbacks = callbacks_of g.M.Module g.M.State.PartialEq.eq c.args.self.now.module_ in
    let machine = c.args.self.now.machine in
    let calls = c.args.gathered.now.calls in
    let answered = outcome.NextState c.in-NextState.after c.in-NextState.data c.in-NextState.actions in
    let course : Course _ = record { now = c.args.now; number = c.args.number; after = c.in-NextState.after; changed = c.ne.result; repeats = false } in
    let given = comes.handled_is ∙ ap (λ said. called_with callbacks.same_state calls machine.state machine.data said) c.in-NextState.is in
    let entered = comes.called_is ∙ ap (λ said. if is_entered callbacks machine.state said then entered_by callbacks machine.state handled else handled) c.in-NextState.is in
    let changed : differs callbacks.same_state machine.state (Some c.in-NextState.after) ≡ c.ne.result = rw (c.ne.ensures, ← c.self.view_is) refl in
    c.proceed.ensures handled called (comes_of callbacks machine calls answered course handled called given refl changed) (rw given refl)
    (record { called_is = enters_by callbacks machine calls answered course handled called changed refl entered })

pub returns-in-KeepState : goal.returns-in-KeepState
returns-in-KeepState g c handled called comes =
    let callbacks = callbacks_of g.M.Module g.M.State.PartialEq.eq c.args.self.now.module_ in
    let machine = c.args.self.now.machine in
    let calls = c.args.gathered.now.calls in
    let answered = outcome.KeepState c.in-KeepState.data c.in-KeepState.actions in
    let course : Course _ = record { now = c.args.now; number = c.args.number; after = c.self.inside.state; changed = false; repeats = false } in
    let given = comes.handled_is ∙ ap (λ said. called_with callbacks.same_state calls machine.state machine.data said) c.in-KeepState.is in
    let entered = comes.called_is ∙ ap (λ said. if is_entered callbacks machine.state said then entered_by callbacks machine.state handled else handled) c.in-KeepState.is in
    c.proceed-in-KeepState.ensures handled called (comes_of callbacks machine calls answered course handled called given (rw (← c.self.view_is) refl) refl) (rw given refl)
    (record { called_is = enters_by callbacks machine calls answered course handled called refl refl entered })

pub returns-in-KeepStateAndData : goal.returns-in-KeepStateAndData
returns-in-KeepStateAndData g c handled called comes =
    let callbacks = callbacks_of g.M.Module g.M.State.PartialEq.eq c.args.self.now.module_ in
    let machine = c.args.self.now.machine in
    let calls = c.args.gathered.now.calls in
    let answered = outcome.KeepStateAndData c.in-KeepStateAndData.actions in
    let course : Course _ = record { now = c.args.now; number = c.args.number; after = c.self.inside.state; changed = false; repeats = false } in
    let given = comes.handled_is ∙ ap (λ said. called_with callbacks.same_state calls machine.state machine.data said) c.in-KeepStateAndData.is in
    let entered = comes.called_is ∙ ap (λ said. if is_entered callbacks machine.state said then entered_by callbacks machine.state handled else handled) c.in-KeepStateAndData.is in
    c.proceed-in-KeepStateAndData.ensures handled called (comes_of callbacks machine calls answered course handled called given (rw (← c.self.view_is) refl) refl) (rw given refl)
    (record { called_is = enters_by callbacks machine calls answered course handled called refl refl entered })

pub returns-in-RepeatState : goal.returns-in-RepeatState
returns-in-RepeatState g c handled called comes =
    let callbacks = callbacks_of g.M.Module g.M.State.PartialEq.eq c.args.self.now.module_ in
    let machine = c.args.self.now.machine in
    let calls = c.args.gathered.now.calls in
    let answered = outcome.RepeatState c.in-RepeatState.data c.in-RepeatState.actions in
    let course : Course _ = record { now = c.args.now; number = c.args.number; after = c.self.inside.state; changed = false; repeats = true } in
    let given = comes.handled_is ∙ ap (λ said. called_with callbacks.same_state calls machine.state machine.data said) c.in-RepeatState.is in
    let entered = comes.called_is ∙ ap (λ said. if is_entered callbacks machine.state said then entered_by callbacks machine.state handled else handled) c.in-RepeatState.is in
    c.proceed-in-RepeatState.ensures handled called (comes_of callbacks machine calls answered course handled called given (rw (← c.self.view_is) refl) refl) (rw given refl)
    (record { called_is = enters_by callbacks machine calls answered course handled called refl refl entered })

pub returns-in-RepeatStateAndData : goal.returns-in-RepeatStateAndData
returns-in-RepeatStateAndData g c handled called comes =
    let callbacks = callbacks_of g.M.Module g.M.State.PartialEq.eq c.args.self.now.module_ in
    let machine = c.args.self.now.machine in
    let calls = c.args.gathered.now.calls in
    let answered = outcome.RepeatStateAndData c.in-RepeatStateAndData.actions in
    let course : Course _ = record { now = c.args.now; number = c.args.number; after = c.self.inside.state; changed = false; repeats = true } in
    let given = comes.handled_is ∙ ap (λ said. called_with callbacks.same_state calls machine.state machine.data said) c.in-RepeatStateAndData.is in
    let entered = comes.called_is ∙ ap (λ said. if is_entered callbacks machine.state said then entered_by callbacks machine.state handled else handled) c.in-RepeatStateAndData.is in
    c.proceed-in-RepeatStateAndData.ensures handled called (comes_of callbacks machine calls answered course handled called given (rw (← c.self.view_is) refl) refl) (rw given refl)
    (record { called_is = enters_by callbacks machine calls answered course handled called refl refl entered })

pub returns-in-Stop : goal.returns-in-Stop
returns-in-Stop g c handled called comes =
    let callbacks = callbacks_of g.M.Module g.M.State.PartialEq.eq c.args.self.now.module_ in
    let machine = c.args.self.now.machine in
    let calls = c.args.gathered.now.calls in
    let given = comes.handled_is ∙ ap (λ said. called_with callbacks.same_state calls machine.state machine.data said) c.in-Stop.is in
    let entered = comes.called_is ∙ ap (λ said. if is_entered callbacks machine.state said then entered_by callbacks machine.state handled else handled) c.in-Stop.is in
    let same : called ≡ handled = enters_not callbacks machine (outcome.Stop c.in-Stop.reason c.in-Stop.data) handled called refl refl entered in
    let some : handled.reason ≡ Some c.in-Stop.reason = rw given refl in
    rw same
    (turns_same _ _ _ c.stop_by.new.gathered _ (stops callbacks machine (with_moment machine c.args.now) c.args.number handled c.in-Stop.reason some)
    (c.stop_by.ensures handled (record {
      calls = rw given refl;
      state = rw (given, ← c.self.view_is) refl;
      «data» = rw given refl;
      changed = rw given refl;
      actions = rw (given, c.new-actions.ensures) refl;
    })))

pub returns-in_ok-actions-in-StopAndReply : goal.returns-in_ok-actions-in-StopAndReply
returns-in_ok-actions-in-StopAndReply g c handled called comes =
    let callbacks = callbacks_of g.M.Module g.M.State.PartialEq.eq c.args.self.now.module_ in
    let machine = c.args.self.now.machine in
    let calls = c.args.gathered.now.calls in
    let given = comes.handled_is ∙ ap (λ said. called_with callbacks.same_state calls machine.state machine.data said) c.in-StopAndReply.is in
    let entered = comes.called_is ∙ ap (λ said. if is_entered callbacks machine.state said then entered_by callbacks machine.state handled else handled) c.in-StopAndReply.is in
    let same : called ≡ handled = enters_not callbacks machine (outcome.StopAndReply c.in-StopAndReply.reason c.in-StopAndReply.replies c.in-StopAndReply.data) handled called refl refl entered in
    let some : handled.reason ≡ Some c.in-StopAndReply.reason = rw given refl in
    rw same
    (turns_same _ _ _ c.stop_by-in-StopAndReply.new.gathered _ (stops callbacks machine (with_moment machine c.args.now) c.args.number handled c.in-StopAndReply.reason some)
    (c.stop_by-in-StopAndReply.ensures handled (record {
      calls = rw given refl;
      state = rw (given, ← c.self.view_is) refl;
      «data» = rw given refl;
      changed = rw given refl;
      actions = rw (given, c.in_ok-actions-in-StopAndReply.ensures) refl;
    })))

-- the lifetimes of a type are within those that a call asks for
pub ne-requires : goal.ne-requires
ne-requires g c = λ κs within. within

pub drop-data-requires : goal.drop-data-requires
drop-data-requires g c = λ κs within. within
