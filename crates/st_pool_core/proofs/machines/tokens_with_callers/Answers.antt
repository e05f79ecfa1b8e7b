use Rattle.std.proofs.Common.{[], ◌∷◌, arith, sym, ap, ◌∙◌, append-nil}
use Rattle.std.proofs.lemmas.List.{take_all}
use Rattle.std.specs.Option.{option_to_list}
use Rattle.st_pool_core.specs.PoolState.{with_callers_in}
use Rattle.st_pool_core.proofs.OpeningLemmas.{callers_next}
use Rattle.st_pool_core.proofs.machines.tokens_with_callers.Goals as goal
use Rattle.st_pool_core.proofs.machines.tokens_with_callers.Goals.{in-Some+in_ok-push, in_default}

-- one machine more
pub loop-machine-preserved : goal.loop-machine-preserved
loop-machine-preserved g c = record {
  tokens = elim c.match-callers_token.branch [
    | in-Some+in_ok-push w ↦ rw w.tokens-is (rw w.in_ok-push.was at w.push.ensures.items ∙ callers_next c.args.machines.now c.loop-machine.machine-index c.machine-item.result c.loop-machine.tokens.items (w.in-Some.token ∷ [])
        c.loop-machine-test.true c.machine-item.is c.loop-machine.invariant.tokens (sym (ap option_to_list w.in-Some.is) ∙ c.callers_token.ensures))
    | in_default w ↦ rw w.tokens-is (sym (append-nil c.loop-machine.tokens.items) ∙ callers_next c.args.machines.now c.loop-machine.machine-index c.machine-item.result c.loop-machine.tokens.items []
        c.loop-machine-test.true c.machine-item.is c.loop-machine.invariant.tokens (sym (ap option_to_list w.in_default.is) ∙ c.callers_token.ensures))
  ];
}

-- all of them
pub returns : goal.returns
returns g c = rw c.from.ensures (c.loop-machine.invariant.tokens ∙ ap with_callers_in (take_all c.loop-machine.machine-index c.args.machines.now (omega arith)))
