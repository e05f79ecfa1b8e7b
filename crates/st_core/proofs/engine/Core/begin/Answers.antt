use Rattle.std.proofs.Common.{Bool, if◌then◌else◌, refl, ap, sym, ◌∙◌}
use Rattle.st_core.specs.Callbacks.{callbacks_of, begun_with, entered_by}
use Rattle.st_core.proofs.StartLemmas.{starts_same}
use Rattle.st_core.specs.Start.{begun_as}
use Rattle.st_core.proofs.engine.Core.begin.Goals as goal

-- there is an enter call
pub returns-then-enters : goal.returns-then-enters
returns-then-enters g c = record {
  start = λ called begun.
      let callbacks = callbacks_of g.M.Module g.M.State.PartialEq.eq c.args.opening.module in
      let alone = begun_with c.args.state c.args.data c.args.actions in
      c.begin_entered.ensures.start called
      (begun.called_is ∙ ap (λ (enters : Bool). if enters then entered_by callbacks c.args.state alone else alone) (sym c.enters.ensures ∙ c.if-enters.true));
}

-- there is none
pub returns : goal.returns
returns g c = record {
  start = λ called begun.
      let callbacks = callbacks_of g.M.Module g.M.State.PartialEq.eq c.args.opening.module in
      let alone = begun_with c.args.state c.args.data c.args.actions in
      let same = begun.called_is ∙ ap (λ (enters : Bool). if enters then entered_by callbacks c.args.state alone else alone) (sym c.enters.ensures ∙ c.if-enters.false) in
      starts_same _ c.args.opening.module _ (ap (λ called. begun_as callbacks c.args.opening.module c.args.opening.id called c.args.opening.now c.args.opening.first) same)
      (c.run_from.ensures.start alone (sym (c.new-gathered.ensures.calls ∙ c.new.ensures)) refl);
}
