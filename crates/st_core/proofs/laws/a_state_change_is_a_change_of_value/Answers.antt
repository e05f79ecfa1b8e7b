use Rattle.st_core.specs.Callbacks.{callbacks_of}
use Rattle.st_core.proofs.ChangeLemmas.{changed_is_another, unchanged_is_the_same}
use Rattle.st_core.proofs.laws.a_state_change_is_a_change_of_value.Goals as goal

pub returns-clause-changed : goal.returns-clause-changed
returns-clause-changed g c module_ machine event =
    let compared = g.met.M.State.Eq in
    changed_is_another (callbacks_of g.M.Module g.M.State.PartialEq.eq module_) machine event compared.laws.refl

pub returns-clause-unchanged : goal.returns-clause-unchanged
returns-clause-unchanged g c module_ machine event =
    unchanged_is_the_same (callbacks_of g.M.Module g.M.State.PartialEq.eq module_) machine event g.met.M.Module.lawful.states_exact
