-- What an event leads to: the arrow from its state, or none.
use Rattle.std.specs.Prelude.{ℕ, Option, Some, None, List, [], ◌∷◌, ◌++◌, codes}
use Rattle.st_events.specs.declared.action.Action.{Action}
use Rattle.st_events.specs.declared.outcome.Outcome.{Outcome}
use Rattle.st_events.specs.declared.outcome.Outcome.TheVariants.{NextState, KeepState, KeepStateAndData, RepeatState, RepeatStateAndData, Stop, StopAndReply}
use Rattle.st_diagram.specs.declared.arrow.Arrow.{Arrow}
use Rattle.st_diagram.specs.Marks.{marks_of}

module _ {S : Type 0} where
  -- an arrow to a state, with the marks of actions behind a word
  abbrev pub leads_to : {C : Type 0} → S → List ℕ → List (Action C) → Option (Arrow S)
  leads_to state word actions = Some (record { target = Some state; marks = word ++ marks_of actions })

  -- an arrow to the end, with this mark
  abbrev pub ends : List ℕ → Option (Arrow S)
  ends word = Some (record { target = None; marks = word })

  -- the arrow of an event that changes nothing: there is none where nothing is asked for
  abbrev pub asked_of : {C : Type 0} → S → List (Action C) → Option (Arrow S)
  asked_of state [] = None
  asked_of state (action ∷ actions) = leads_to state [] (action ∷ actions)

  -- the arrow of an event that has this outcome in a state
  abbrev pub arrow_of : {D C : Type 0} → S → Outcome S D C → Option (Arrow S)
  arrow_of state (NextState next held actions) = leads_to next [] actions
  arrow_of state (KeepState held actions) = leads_to state (codes " / data") actions
  arrow_of state (KeepStateAndData actions) = asked_of state actions
  arrow_of state (RepeatState held actions) = leads_to state (codes " / repeat / data") actions
  arrow_of state (RepeatStateAndData actions) = leads_to state (codes " / repeat") actions
  arrow_of state (Stop reason held) = ends (codes " / stop")
  arrow_of state (StopAndReply reason replies held) = ends (codes " / reply / stop")
