-- What a table answers to each of the module's calls.
use Rattle.std.specs.Prelude.{ℕ, List, [], ◌∷◌, Option, None, Some, slice_get}
use Rattle.std.specs.List.{find}
use Rattle.st_events.specs.declared.action.Action.{Action}
use Rattle.st_events.specs.declared.enter_action.EnterAction.{EnterAction}
use Rattle.st_events.specs.declared.enter_outcome.EnterOutcome.{EnterOutcome}
use Rattle.st_events.specs.declared.enter_outcome.EnterOutcome.TheVariants as enter_outcome
use Rattle.st_events.specs.declared.init.Init.{Init}
use Rattle.st_events.specs.declared.init.Init.TheVariants as init
use Rattle.st_events.specs.declared.kind.Kind.{Kind}
use Rattle.st_events.specs.declared.outcome.Outcome.{Outcome}
use Rattle.st_events.specs.declared.outcome.Outcome.TheVariants as outcome
use Rattle.st_events.specs.declared.tag.Tag.{Tag}
use Rattle.st_table.specs.declared.expression.Expression.{Expression}
use Rattle.st_table.specs.declared.place.Place.{Place}
use Rattle.st_table.specs.declared.rule.Rule.{Rule}
use Rattle.st_table.specs.declared.signal.Signal.{Signal}
use Rattle.st_table.specs.declared.table.Table.{Table}
use Rattle.st_table.specs.declared.target.Target.{Target}
use Rattle.st_table.specs.declared.target.Target.TheVariants as target
use Rattle.st_table.specs.declared.update.Update.{Update}
use Rattle.st_table.specs.declared.value.Value.{Value}
use Rattle.st_table.specs.declared.value.Value.TheVariants.{Nothing, Number}
use Rattle.st_table.specs.Values.{Heard, number_of, at_most_32_bits, value_of}
use Rattle.st_table.specs.Matching.{heard_of, is_guarded, entries_in, rule_of}
use Rattle.st_table.specs.Rules.{updated, actions_of, enter_actions_of, replies_of}

abbrev pub Handled : Type 0
Handled = Outcome Place (List Value) Signal

abbrev pub Entered : Type 0
Entered = EnterOutcome (List Value) Signal

abbrev pub Begun : Type 0
Begun = Init Place (List Value) Signal

-- the registers after a rule, if it changes any
abbrev pub new_data : Heard → List Value → List Update → Option (List Value)
new_data heard registers [] = None
new_data heard registers (update ∷ updates) = Some (updated heard registers (update ∷ updates) registers)

-- the registers after a rule: the new ones, or those before it
abbrev pub after_of : Option (List Value) → List Value → List Value
after_of None before = before
after_of (Some after) before = after

-- the number that a reason or a last word is
abbrev pub short_number_of : Heard → List Value → List Value → Expression → ℕ
short_number_of heard before registers expression = at_most_32_bits (number_of (value_of heard before registers expression))

-- ---- an event

-- the state stays
abbrev pub keeps : Option (List Value) → List (Action Signal) → Handled
keeps None actions = outcome.KeepStateAndData actions
keeps (Some after) actions = outcome.KeepState after actions

-- the state stays, and is entered again
abbrev pub repeats : Option (List Value) → List (Action Signal) → Handled
repeats None actions = outcome.RepeatStateAndData actions
repeats (Some after) actions = outcome.RepeatState after actions

-- the machine ends, with replies where there are any
abbrev pub stops : ℕ → List (Tag × Signal) → Option (List Value) → Handled
stops reason [] new = outcome.Stop reason new
stops reason (reply ∷ replies) new = outcome.StopAndReply reason (reply ∷ replies) new

-- what a rule leads to; what it asks for sees the registers after it
abbrev pub leads_to : Target → Rule → Heard → List Value → Option (List Value) → Handled
leads_to target.Keep rule heard before new = keeps new (actions_of heard before (after_of new before) rule.asks)
leads_to (target.Next place) rule heard before new =
    outcome.NextState place (after_of new before) (actions_of heard before (after_of new before) rule.asks)
leads_to target.Repeat rule heard before new = repeats new (actions_of heard before (after_of new before) rule.asks)
leads_to (target.Stop reason) rule heard before new =
    stops (short_number_of heard before (after_of new before) reason) (replies_of heard before (after_of new before) rule.asks) new

-- without a rule nothing happens
abbrev pub taken : Option Rule → Heard → List Value → Handled
taken None heard registers = outcome.KeepStateAndData []
taken (Some rule) heard registers = leads_to rule.target rule heard registers (new_data heard registers rule.updates)

abbrev pub handle_of : Table → Kind → Signal → Place → List Value → Handled
handle_of table kind signal state registers = taken (rule_of table kind signal state registers) (heard_of kind signal) registers

-- ---- an entry

-- nobody calls, and the argument is the number of the state that was left
abbrev pub entering : Place → Heard
entering old = record { tag = None; argument = Number old.number }

-- the machine goes on
abbrev pub enter_keeps : Option (List Value) → List (EnterAction Signal) → Entered
enter_keeps None actions = enter_outcome.KeepStateAndData actions
enter_keeps (Some after) actions = enter_outcome.KeepState after actions

-- the machine ends, with replies where there are any
abbrev pub enter_stops : ℕ → List (Tag × Signal) → Option (List Value) → Entered
enter_stops reason [] new = enter_outcome.Stop reason new
enter_stops reason (reply ∷ replies) new = enter_outcome.StopAndReply reason (reply ∷ replies) new

-- an entry stops the machine, or leads nowhere
abbrev pub enter_leads_to : Target → Rule → Heard → List Value → Option (List Value) → Entered
enter_leads_to (target.Stop reason) rule heard before new =
    enter_stops (short_number_of heard before (after_of new before) reason) (replies_of heard before (after_of new before) rule.asks) new
enter_leads_to other rule heard before new = enter_keeps new (enter_actions_of heard before (after_of new before) rule.asks)

-- without an entry nothing happens
abbrev pub entered : Option Rule → Heard → List Value → Entered
entered None heard registers = enter_outcome.KeepStateAndData []
entered (Some rule) heard registers = enter_leads_to rule.target rule heard registers (new_data heard registers rule.updates)

-- the state's first entry whose guard holds is taken
abbrev pub enter_of : Table → Place → Place → List Value → Entered
enter_of table old state registers =
    entered (find (is_guarded (entering old) registers registers) (entries_in (slice_get table.states state.number))) (entering old) registers

-- ---- a start: what it is given stands where the registers before the rule stand

-- nobody calls, and there is no argument
abbrev pub starting : Heard
starting = record { tag = None; argument = Nothing }

-- the machine begins, ends before it begins, or the start is ignored
abbrev pub start_leads_to : Target → Rule → List Value → List Value → Begun
start_leads_to (target.Next place) rule given after = init.Ok place after (actions_of starting given after rule.asks)
start_leads_to (target.Stop reason) rule given after = init.Stop (short_number_of starting given after reason)
start_leads_to other rule given after = init.Ignore

-- without a rule it is ignored
abbrev pub started : Option Rule → List Value → List Value → Begun
started None given registers = init.Ignore
started (Some rule) given registers = start_leads_to rule.target rule given (updated starting given rule.updates registers)

-- the first rule of the start whose guard holds is taken
abbrev pub init_of : Table → List Value → Begun
init_of table given = started (find (is_guarded starting given table.registers) table.start) given table.registers

-- ---- the end

-- nobody calls, and the argument is the reason
abbrev pub ending : ℕ → Heard
ending reason = record { tag = None; argument = Number reason }

-- the last word
abbrev pub terminate_of : Table → ℕ → List Value → ℕ
terminate_of table reason registers = short_number_of (ending reason) registers registers table.last
