use Rattle.std.proofs.Common.{◌≡◌, refl, ap, sym, ◌∙◌, inr}
use Rattle.std.specs.Prelude.{None, Some}
use Rattle.st_core.specs.Callbacks.{Called, callbacks_of, or_old, begun_with, entered_as, entered_with}
use Rattle.st_core.specs.Start.{first_state}
use Rattle.st_core.proofs.StartLemmas.{begun_takes_memory, begins, ends, starts_same}
use Rattle.st_core.proofs.TransitionLemmas.{or_old_twice}
use Rattle.st_core.proofs.engine.Core.begin_entered.Goals as goal

-- each call that finds no memory comes after `init`
pub returns-in_default : goal.returns-in_default
returns-in_default g c = record {
  start = λ called called_is.
      let callbacks = callbacks_of g.M.Module g.M.State.PartialEq.eq c.args.opening.module in
      let machine = first_state c.args.opening.id called.state called.data c.args.opening.now c.args.opening.first in
      inr (begun_takes_memory _ callbacks c.args.opening.module machine called called.reason, rw c.new.ensures refl);
}

pub returns-in_default-add_entered : goal.returns-in_default-add_entered
returns-in_default-add_entered g c = record {
  start = λ called called_is.
      let callbacks = callbacks_of g.M.Module g.M.State.PartialEq.eq c.args.opening.module in
      let machine = first_state c.args.opening.id called.state called.data c.args.opening.now c.args.opening.first in
      inr (begun_takes_memory _ callbacks c.args.opening.module machine called called.reason, rw c.new-in_default-add_entered.ensures refl);
}

pub returns-in_default-push : goal.returns-in_default-push
returns-in_default-push g c = record {
  start = λ called called_is.
      let callbacks = callbacks_of g.M.Module g.M.State.PartialEq.eq c.args.opening.module in
      let machine = first_state c.args.opening.id called.state called.data c.args.opening.now c.args.opening.first in
      inr (begun_takes_memory _ callbacks c.args.opening.module machine called called.reason, rw c.new-in_default-push.ensures refl);
}

-- the machine runs
pub returns-in-None : goal.returns-in-None
returns-in-None g c = record {
  start = λ called called_is.
      let callbacks = callbacks_of g.M.Module g.M.State.PartialEq.eq c.args.opening.module in
      let begun = begun_with c.args.state c.args.data c.args.actions.now in
      let called_as : called ≡ entered_with c.args.state begun c.in-Ok.entered =
      called_is ∙ ap (λ entered. entered_with c.args.state begun entered) (sym c.in-Ok.ensures) in
      let calls : called.calls ≡ c.push.new.self = rw (called_as, c.in-Ok-push.ensures.pushed, c.requires.no_calls) refl in
      let state : called.state ≡ c.args.state = rw called_as refl in
      let said = entered_as c.in-Ok.entered in
      let held : called.data ≡ c.replace.new.held =
      ap (λ (last : Called _ _ _). last.data) called_as
      ∙ (sym (or_old_twice c.args.data said.data None)
      ∙ (ap (λ new. or_old c.args.data new) (sym c.in-Ok-add_entered.ensures.new_data) ∙ sym c.replace.ensures)) in
      let none : called.reason ≡ None = rw called_as (sym c.in-Ok-add_entered.ensures.reason ∙ c.in-None.is) in
      let asked : called.actions ≡ c.add_entered.new.actions = rw (called_as, c.in-Ok-add_entered.ensures.added) refl in
      starts_same _ c.args.opening.module _ (begins _ callbacks c.args.opening.module c.args.opening.id called c.args.opening.now c.args.opening.first none state held)
      (c.run_from.ensures.start called calls asked);
}

-- the first enter call stops
pub returns-in-Some : goal.returns-in-Some
returns-in-Some g c = record {
  start = λ called called_is.
      let callbacks = callbacks_of g.M.Module g.M.State.PartialEq.eq c.args.opening.module in
      let begun = begun_with c.args.state c.args.data c.args.actions.now in
      let called_as : called ≡ entered_with c.args.state begun c.in-Ok.entered =
      called_is ∙ ap (λ entered. entered_with c.args.state begun entered) (sym c.in-Ok.ensures) in
      let calls : called.calls ≡ c.push.new.self = rw (called_as, c.in-Ok-push.ensures.pushed, c.requires.no_calls) refl in
      let state : called.state ≡ c.args.state = rw called_as refl in
      let said = entered_as c.in-Ok.entered in
      let held : called.data ≡ c.replace.new.held =
      ap (λ (last : Called _ _ _). last.data) called_as
      ∙ (sym (or_old_twice c.args.data said.data None)
      ∙ (ap (λ new. or_old c.args.data new) (sym c.in-Ok-add_entered.ensures.new_data) ∙ sym c.replace.ensures)) in
      let some : called.reason ≡ Some c.in-Some.reason = rw called_as (sym c.in-Ok-add_entered.ensures.reason ∙ c.in-Some.is) in
      starts_same _ c.args.opening.module _ (ends _ callbacks c.args.opening.module c.args.opening.id called c.args.opening.now c.args.opening.first c.in-Some.reason some state held)
      (c.end_at.ensures.start called calls);
}
