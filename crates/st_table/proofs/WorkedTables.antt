-- The definitions computed on examples.
use Rattle.std.proofs.Common.{◌≡◌, ℕ, true, false, List, [], ◌∷◌, refl}
use Rattle.std.specs.Prelude.{Option, Some, None}
use Rattle.st_events.specs.declared.action.Action.TheVariants as action
use Rattle.st_events.specs.declared.enter_action.EnterAction.TheVariants as enter_action
use Rattle.st_events.specs.declared.enter_outcome.EnterOutcome.TheVariants as enter_outcome
use Rattle.st_events.specs.declared.init.Init.TheVariants as init
use Rattle.st_events.specs.declared.kind.Kind.TheVariants as kinds
use Rattle.st_events.specs.declared.machine_id.MachineId.{MachineId}
use Rattle.st_events.specs.declared.outcome.Outcome.TheVariants as outcome
use Rattle.st_events.specs.declared.tag.Tag.{Tag}
use Rattle.st_events.specs.declared.time.Time.TheVariants.{After}
use Rattle.st_events.specs.declared.timer.Timer.TheVariants as timers
use Rattle.st_table.specs.declared.ask.Ask.{Ask}
use Rattle.st_table.specs.declared.ask.Ask.TheVariants as ask
use Rattle.st_table.specs.declared.expression.Expression.{Expression}
use Rattle.st_table.specs.declared.on.On.{On}
use Rattle.st_table.specs.declared.on.On.TheVariants as on
use Rattle.st_table.specs.declared.operand.Operand.{Operand}
use Rattle.st_table.specs.declared.operand.Operand.TheVariants as operand
use Rattle.st_table.specs.declared.operator.Operator.{Operator}
use Rattle.st_table.specs.declared.operator.Operator.TheVariants as operator
use Rattle.st_table.specs.declared.place.Place.{Place}
use Rattle.st_table.specs.declared.relation.Relation.TheVariants as relation
use Rattle.st_table.specs.declared.rule.Rule.{Rule}
use Rattle.st_table.specs.declared.say.Say.{Say}
use Rattle.st_table.specs.declared.signal.Signal.{Signal}
use Rattle.st_table.specs.declared.state_row.StateRow.{StateRow}
use Rattle.st_table.specs.declared.table.Table.{Table}
use Rattle.st_table.specs.declared.target.Target.{Target}
use Rattle.st_table.specs.declared.target.Target.TheVariants as target
use Rattle.st_table.specs.declared.test.Test.{Test}
use Rattle.st_table.specs.declared.update.Update.{Update}
use Rattle.st_table.specs.declared.value.Value.TheVariants.{Nothing, Number, Call, Machine, Text}
use Rattle.st_table.specs.Values.{computed, same_value, time_of, value_of}
use Rattle.st_table.specs.Rules.{updated}
use Rattle.st_table.specs.Calls.{starting, handle_of, enter_of, init_of, terminate_of}
use Rattle.st_table.specs.Covers.{covers, hider}

-- ---- numbers stop at 0 and at 2^64 - 1

sum_stops : computed operator.Plus 18446744073709551615 1 ≡ 18446744073709551615
sum_stops = refl

sum_below : computed operator.Plus 18446744073709551614 1 ≡ 18446744073709551615
sum_below = refl

product_stops : computed operator.Times 4294967296 4294967296 ≡ 18446744073709551615
product_stops = refl

difference_stops : computed operator.Minus 3 5 ≡ 0
difference_stops = refl

quotients : (computed operator.Over 7 2 ≡ 3) × (computed operator.Remainder 7 2 ≡ 1) × (computed operator.Over 7 0 ≡ 0) × (computed operator.Remainder 7 0 ≡ 0)
quotients = (refl, refl, refl, refl)

-- a time-out has 32 bits of milliseconds
longest : time_of (Number 5000000000) ≡ After 4294967295
longest = refl

-- ---- an expression goes from left to right: 2 + 3 * 4 is 20

abbrev number : ℕ → Operand
number n = operand.Constant (Number n)

abbrev just : Operand → Expression
just first = record { first = first; terms = [] }

abbrev and_then : Operand → Operator → Operand → Expression
and_then first operator second = record { first = first; terms = record { operator = operator; operand = second } ∷ [] }

from_the_left : value_of starting [] [] (record { first = number 2; terms = record { operator = operator.Plus; operand = number 3 } ∷ record { operator = operator.Times; operand = number 4 } ∷ [] }) ≡ Number 20
from_the_left = refl

-- without terms a tag stays what it is, and with one it counts as 0
abbrev id : MachineId
id = record { slot = 3; serial = 7 }

abbrev tag : Tag
tag = record { machine = id; request = 12 }

as_it_is : value_of starting [] (Call tag ∷ []) (just (operand.Register 0)) ≡ Call tag
as_it_is = refl

counts_as_0 : value_of starting [] (Call tag ∷ []) (and_then (operand.Register 0) operator.Plus (number 1)) ≡ Number 1
counts_as_0 = refl

-- a text stays what it is, and with a term it counts as 0: 97 and 98 are the bytes of `ab`
text_as_it_is : value_of starting [] (Text (97 ∷ 98 ∷ []) ∷ []) (just (operand.Register 0)) ≡ Text (97 ∷ 98 ∷ [])
text_as_it_is = refl

text_counts_as_0 : value_of starting [] (Text (97 ∷ 98 ∷ []) ∷ []) (and_then (operand.Register 0) operator.Plus (number 1)) ≡ Number 1
text_counts_as_0 = refl

-- two texts are one where their bytes are
texts : (same_value (Text (97 ∷ 98 ∷ [])) (Text (97 ∷ 98 ∷ [])) ≡ true) × (same_value (Text (97 ∷ 98 ∷ [])) (Text (97 ∷ [])) ≡ false) × (same_value (Text []) Nothing ≡ false)
texts = (refl, refl, refl)

-- a register that is not there is nothing
not_there : value_of starting [] (Number 5 ∷ []) (just (operand.Register 1)) ≡ Nothing
not_there = refl

-- ---- updates come one after another: `a = b; b = a` makes both the old `b`, and `b = was a` swaps them

abbrev update : ℕ → Operand → Update
update register value = record { register = register; value = just value }

in_order : updated starting (Number 1 ∷ Number 2 ∷ []) (update 0 (operand.Register 1) ∷ update 1 (operand.Register 0) ∷ []) (Number 1 ∷ Number 2 ∷ []) ≡ Number 2 ∷ Number 2 ∷ []
in_order = refl

swapped : updated starting (Number 1 ∷ Number 2 ∷ []) (update 0 (operand.Register 1) ∷ update 1 (operand.Before 0) ∷ []) (Number 1 ∷ Number 2 ∷ []) ≡ Number 2 ∷ Number 1 ∷ []
swapped = refl

-- one of a register that is not there changes nothing
past_the_end : updated starting (Number 1 ∷ []) (update 1 (number 9) ∷ []) (Number 1 ∷ []) ≡ Number 1 ∷ []
past_the_end = refl

-- ---- a door: state 0 is locked, state 1 open; the register counts the buttons; the third opens it for 10,000 ms.
-- Symbols: 1 press, 2 done, 3 close, 4 who. A press while it is open is postponed; a call of `who` is answered by its id,
-- in any state; an info stops the machine.

abbrev say : ℕ → Operand → Say
say symbol argument = record { symbol = symbol; argument = just argument }

abbrev rule : On → Option ℕ → List Test → List Update → Target → List Ask → Rule
rule on symbol guard updates target asks = record { on = on; symbol = symbol; guard = guard; updates = updates; target = target; asks = asks }

abbrev plain : On → Option ℕ → Target → List Ask → Rule
plain on symbol target asks = rule on symbol [] [] target asks

abbrev place : ℕ → Place
place number = record { number = number }

abbrev signal : ℕ → Signal
signal symbol = record { symbol = symbol; argument = Nothing }

-- two buttons were pressed: this one, which the guard sees before the update, opens it
abbrev third_press : Rule
third_press = rule on.Call (Some 1) (record { left = just (operand.Register 0); relation = relation.Equal; right = just (number 2) } ∷ []) (update 0 (number 0) ∷ [])
    (target.Next (place 1)) (ask.Reply operand.Caller (say 2 (operand.Before 0)) ∷ [])

abbrev press : Rule
press = rule on.Call (Some 1) [] (record { register = 0; value = and_then (operand.Register 0) operator.Plus (number 1) } ∷ []) target.Keep
    (ask.Reply operand.Caller (say 2 (operand.Register 0)) ∷ [])

abbrev who : Rule
who = plain on.Call (Some 4) target.Keep (ask.Reply operand.Caller (say 4 operand.Own) ∷ [])

abbrev stop : Rule
stop = plain on.Info None (target.Stop (just (number 5000000000))) (ask.Postpone ∷ [])

abbrev locked : StateRow
locked = record { entries = []; rules = third_press ∷ press ∷ [] }

abbrev opened : StateRow
opened = record {
  entries = plain on.Any None target.Keep (ask.Set timers.State (just (number 10000)) (say 3 operand.Argument) ∷ ask.Postpone ∷ []) ∷ plain on.Any None (target.Stop (just (number 1))) [] ∷ [];
  rules = plain on.Call (Some 1) target.Keep (ask.Postpone ∷ []) ∷ plain on.AnyTimeout None (target.Next (place 0)) [] ∷ [];
}

abbrev door : Table
door = record {
  registers = Number 0 ∷ [];
  start = rule on.Any None (record { left = just (operand.Before 0); relation = relation.Less; right = just (number 3) } ∷ []) (update 0 (operand.Before 0) ∷ []) (target.Next (place 0)) [] ∷ [];
  enters = true;
  states = locked ∷ opened ∷ [];
  any = who ∷ stop ∷ [];
  last = and_then operand.Argument operator.Plus (operand.Register 0);
}

-- the first rule that fits: the second press counts, the third opens
second_press : handle_of door (kinds.Call tag) (signal 1) (place 0) (Number 1 ∷ []) ≡ outcome.KeepState (Number 2 ∷ []) (action.Reply tag (record { symbol = 2; argument = Number 2 }) ∷ [])
second_press = refl

opens : handle_of door (kinds.Call tag) (signal 1) (place 0) (Number 2 ∷ []) ≡ outcome.NextState (place 1) (Number 0 ∷ []) (action.Reply tag (record { symbol = 2; argument = Number 2 }) ∷ [])
opens = refl

-- the state's own rules come before those of any state, and a rule without updates leaves the data
postponed : handle_of door (kinds.Call tag) (signal 1) (place 1) (Number 0 ∷ []) ≡ outcome.KeepStateAndData (action.Postpone true ∷ [])
postponed = refl

whoever : handle_of door (kinds.Call tag) (signal 4) (place 1) (Number 0 ∷ []) ≡ outcome.KeepStateAndData (action.Reply tag (record { symbol = 4; argument = Machine id }) ∷ [])
whoever = refl

-- any time-out closes it
closes : handle_of door (kinds.Timeout (timers.Named 8)) (signal 3) (place 1) (Number 0 ∷ []) ≡ outcome.NextState (place 0) (Number 0 ∷ []) []
closes = refl

-- no rule fits: nothing happens
ignored : handle_of door kinds.Cast (signal 1) (place 0) (Number 0 ∷ []) ≡ outcome.KeepStateAndData []
ignored = refl

-- a stop that replies nothing is a plain one; its reason has 32 bits
stopped : handle_of door kinds.Info (signal 9) (place 0) (Number 0 ∷ []) ≡ outcome.Stop 4294967295 None
stopped = refl

-- the first entry whose guard holds is taken, and asks for what an entry may ask for; its argument is the state that was left
entered_anew : enter_of door (place 0) (place 1) (Number 0 ∷ []) ≡ enter_outcome.KeepStateAndData (enter_action.Set timers.State (After 10000) (record { symbol = 3; argument = Number 0 }) ∷ [])
entered_anew = refl

no_entry : enter_of door (place 1) (place 0) (Number 0 ∷ []) ≡ enter_outcome.KeepStateAndData []
no_entry = refl

-- a start gives the register its argument; 3 buttons are too many, and it is ignored
begun : init_of door (Number 2 ∷ []) ≡ init.Ok (place 0) (Number 2 ∷ []) []
begun = refl

not_begun : init_of door (Number 3 ∷ []) ≡ init.Ignore
not_begun = refl

-- the last word is the reason and the count
last_word : terminate_of door 40 (Number 2 ∷ []) ≡ 42
last_word = refl

-- ---- which rule hides which
hidden : (covers press third_press ≡ true) × (covers third_press press ≡ false) × (covers (plain on.AnyTimeout None target.Keep []) (plain (on.NamedTimeout 8) (Some 3) target.Keep []) ≡ true) × (covers (plain on.Call (Some 1) target.Keep []) (plain on.Call None target.Keep []) ≡ false)
hidden = (refl, refl, refl, refl)

-- a press behind two others: one with a guard, which leaves it some events, and one without, which leaves it none
hidden_in_a_list : (hider (third_press ∷ press ∷ press ∷ []) 2 ≡ Some 1) × (hider (third_press ∷ press ∷ []) 1 ≡ None) × (hider (press ∷ []) 1 ≡ None)
hidden_in_a_list = (refl, refl, refl)
