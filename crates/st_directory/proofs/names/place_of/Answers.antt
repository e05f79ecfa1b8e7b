use Rattle.std.proofs.Common.{◌<◌, ◌-◌, length, Some, sym, ap, ◌∙◌, arith}
use Rattle.std.proofs.lemmas.Option.{slice_get-get_or, slice_get_within}
use Rattle.st_directory.proofs.IdLemmas.{ids_same, others_from}
use Rattle.st_directory.proofs.names.place_of.Goals as goal

pub loop-place-init : goal.loop-place-init
loop-place-init c = (omega arith, λ at other below there. absurd (omega (arith, below, slice_get_within c.args.ids.now at other there)))

pub returns-then-eq-clause-place : goal.returns-then-eq-clause-place
returns-then-eq-clause-place c =
    let within : c.loop-place.place - 1 < length c.args.ids.now = omega (arith, c.loop-place.invariant.0, c.loop-place-test.true) in
    slice_get-get_or c.args.ids.now (c.loop-place.place - 1) _ within ∙ ap Some (sym (ids_same c.args.id _ (sym c.eq.ensures ∙ c.if-eq.true)))

pub loop-place-preserved : goal.loop-place-preserved
loop-place-preserved c =
    let within : c.loop-place.place - 1 < length c.args.ids.now = omega (arith, c.loop-place.invariant.0, c.loop-place-test.true) in (
      omega (arith, within),
      others_from c.args.ids.now c.args.id _ (c.loop-place.place - 1) (slice_get-get_or c.args.ids.now (c.loop-place.place - 1) _ within) (sym c.eq.ensures ∙ c.if-eq.false)
          (λ at other below there. c.loop-place.invariant.1 at other (omega (arith, below, c.loop-place-test.true)) there),
    )

pub returns-clause-missing : goal.returns-clause-missing
returns-clause-missing c = λ place other there. c.loop-place.invariant.1 place other (omega (arith, c.loop-place-test.false)) there
