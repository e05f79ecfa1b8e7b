use Rattle.std.proofs.Common.{◌≡◌, Bool, true, false, if◌then◌else◌, sym, ap, ◌∙◌}
use Rattle.std.specs.Prelude.{◌&&◌, ◌||◌}
use Rattle.st_core.specs.Callbacks.{callbacks_of, entered_by}
use Rattle.st_core.specs.Transition.{with_moment}
use Rattle.st_core.proofs.TransitionLemmas.{goes_on, turns_same}
use Rattle.st_core.proofs.engine.Core.proceed.Goals as goal

-- there is an enter call
pub returns-then-is_entered : goal.returns-then-is_entered
returns-then-is_entered g c handled called comes none enters =
    let callbacks = callbacks_of g.M.Module g.M.State.PartialEq.eq c.args.self.now.module_ in
    let machine = c.args.self.now.machine in
    let due : (callbacks.enters_is && (c.args.course.changed || c.args.course.repeats)) ≡ true = rw (← c.self.view_is) (sym c.is_entered.ensures ∙ c.if-is_entered.true) in
    c.enter.ensures handled called comes (enters.called_is ∙ ap (λ (due : Bool). if due then entered_by callbacks machine.state handled else handled) due)

-- there is none
pub returns : goal.returns
returns g c handled called comes none enters =
    let callbacks = callbacks_of g.M.Module g.M.State.PartialEq.eq c.args.self.now.module_ in
    let machine = c.args.self.now.machine in
    let not_due : (callbacks.enters_is && (c.args.course.changed || c.args.course.repeats)) ≡ false = rw (← c.self.view_is) (sym c.is_entered.ensures ∙ c.if-is_entered.false) in
    let same : called ≡ handled = enters.called_is ∙ ap (λ (due : Bool). if due then entered_by callbacks machine.state handled else handled) not_due in
    rw same
    (turns_same _ _ _ c.go_on.new.gathered _ (goes_on callbacks machine (with_moment machine c.args.course.now) c.args.course.number handled none)
    (c.go_on.ensures handled comes))
