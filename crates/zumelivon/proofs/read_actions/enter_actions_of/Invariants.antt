-- What was read so far; and what is left means something, too.
use Rattle.std.proofs.Common.{◌≡◌, true, map, take, drop}
use Rattle.std.specs.List.{list_all}
use Rattle.zumelivon.specs.Reading.{is_enter_action, enter_action_in}
use Rattle.zumelivon.proofs.read_actions.enter_actions_of.Given as goal

abbrev pub invariant-loop-it : goal.invariant-loop-it
invariant-loop-it l =
    (l.read ≡ map (enter_action_in l.bytes) (take l.it-index l.actions)) × (list_all (is_enter_action l.bytes) (drop l.it-index l.actions) ≡ true)
