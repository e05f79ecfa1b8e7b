-- What is left of the actions decides.
use Rattle.std.proofs.Common.{◌≡◌, drop}
use Rattle.std.specs.List.{list_all}
use Rattle.zumelivon.specs.Reading.{is_enter_action}
use Rattle.zumelivon.proofs.read_actions.are_enter_actions.Given as goal

abbrev pub invariant-loop-it : goal.invariant-loop-it
invariant-loop-it l = list_all (is_enter_action l.bytes) (drop l.it-index l.actions) ≡ list_all (is_enter_action l.bytes) l.actions
