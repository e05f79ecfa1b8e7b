-- Which commands leave the event that comes next where it is.
use Rattle.std.specs.Prelude.{Bool, true, false, ◌||◌, List, [], ◌∷◌}
use Rattle.st_answers.specs.declared.command.Command.{Command}
use Rattle.st_answers.specs.declared.command.Command.TheVariants as command

module _ {C : Type 0} where
  -- whether a command is a turn or a stop
  abbrev pub is_turn_or_stop : Command C → Bool
  is_turn_or_stop (command.Post entry content) = false
  is_turn_or_stop (command.Tick now) = false
  is_turn_or_stop (command.Turn now) = true
  is_turn_or_stop (command.Reply tag content) = false
  is_turn_or_stop (command.Collect tag) = false
  is_turn_or_stop (command.Stop reason) = true
  is_turn_or_stop command.TakeOut = false

  -- whether there is a turn or a stop among these
  abbrev pub has_turn_or_stop : List (Command C) → Bool
  has_turn_or_stop [] = false
  has_turn_or_stop (command ∷ commands) = is_turn_or_stop command || has_turn_or_stop commands
