-- What a rule gives registers, and what it asks for.
use Rattle.std.specs.Prelude.{true, List, [], ◌∷◌, Option, None, Some, slice_set}
use Rattle.std.specs.List.{filter_map}
use Rattle.st_events.specs.declared.action.Action.{Action}
use Rattle.st_events.specs.declared.action.Action.TheVariants as action
use Rattle.st_events.specs.declared.enter_action.EnterAction.{EnterAction}
use Rattle.st_events.specs.declared.enter_action.EnterAction.TheVariants as enter_action
use Rattle.st_events.specs.declared.kind.Kind.{Kind}
use Rattle.st_events.specs.declared.kind.Kind.TheVariants as kinds
use Rattle.st_events.specs.declared.tag.Tag.{Tag}
use Rattle.st_table.specs.declared.ask.Ask.{Ask}
use Rattle.st_table.specs.declared.ask.Ask.TheVariants as ask
use Rattle.st_table.specs.declared.raised.Raised.{Raised}
use Rattle.st_table.specs.declared.raised.Raised.TheVariants as raised
use Rattle.st_table.specs.declared.say.Say.{Say}
use Rattle.st_table.specs.declared.signal.Signal.{Signal}
use Rattle.st_table.specs.declared.update.Update.{Update}
use Rattle.st_table.specs.declared.value.Value.{Value}
use Rattle.st_table.specs.declared.value.Value.TheVariants.{Call, Machine}
use Rattle.st_table.specs.Values.{Heard, operand_of, time_of, value_of}

-- the registers after updates in order: each sees the registers after those before it
abbrev pub updated : Heard → List Value → List Update → List Value → List Value
updated heard before [] registers = registers
updated heard before (update ∷ updates) registers =
    updated heard before updates (slice_set registers update.register (value_of heard before registers update.value))

-- what is said
abbrev pub said : Heard → List Value → List Value → Say → Signal
said heard before registers say = record { symbol = say.symbol; argument = value_of heard before registers say.argument }

-- as what an event is inserted
abbrev pub raised_as : Raised → Kind
raised_as raised.Internal = kinds.Internal
raised_as raised.Cast = kinds.Cast
raised_as raised.Info = kinds.Info

-- ---- what a rule of an event asks for

-- a reply wants a tag
abbrev pub reply_to : Value → Signal → Option (Action Signal)
reply_to (Call tag) signal = Some (action.Reply tag signal)
reply_to other signal = None

-- a message wants a machine
abbrev pub send_to : Value → Signal → Option (Action Signal)
send_to (Machine id) signal = Some (action.Send id signal)
send_to other signal = None

abbrev pub action_of : Heard → List Value → List Value → Ask → Option (Action Signal)
action_of heard before registers (ask.Reply to say) = reply_to (operand_of to heard before registers) (said heard before registers say)
action_of heard before registers ask.Postpone = Some (action.Postpone true)
action_of heard before registers (ask.Raise as_what say) = Some (action.NextEvent (raised_as as_what) (said heard before registers say))
action_of heard before registers (ask.Set timer time say) =
    Some (action.Set timer (time_of (value_of heard before registers time)) (said heard before registers say))
action_of heard before registers (ask.Cancel timer) = Some (action.Cancel timer)
action_of heard before registers (ask.Update timer say) = Some (action.Update timer (said heard before registers say))
action_of heard before registers (ask.Send to say) = send_to (operand_of to heard before registers) (said heard before registers say)
action_of heard before registers ask.Hibernate = Some action.Hibernate

abbrev pub actions_of : Heard → List Value → List Value → List Ask → List (Action Signal)
actions_of heard before registers asks = filter_map (action_of heard before registers) asks

-- ---- what an entry asks for: it has no event to postpone, and inserts and sends none

abbrev pub enter_reply_to : Value → Signal → Option (EnterAction Signal)
enter_reply_to (Call tag) signal = Some (enter_action.Reply tag signal)
enter_reply_to other signal = None

abbrev pub enter_action_of : Heard → List Value → List Value → Ask → Option (EnterAction Signal)
enter_action_of heard before registers (ask.Reply to say) = enter_reply_to (operand_of to heard before registers) (said heard before registers say)
enter_action_of heard before registers (ask.Set timer time say) =
    Some (enter_action.Set timer (time_of (value_of heard before registers time)) (said heard before registers say))
enter_action_of heard before registers (ask.Cancel timer) = Some (enter_action.Cancel timer)
enter_action_of heard before registers (ask.Update timer say) = Some (enter_action.Update timer (said heard before registers say))
enter_action_of heard before registers ask.Hibernate = Some enter_action.Hibernate
enter_action_of heard before registers other = None

abbrev pub enter_actions_of : Heard → List Value → List Value → List Ask → List (EnterAction Signal)
enter_actions_of heard before registers asks = filter_map (enter_action_of heard before registers) asks

-- ---- what a rule that stops asks for: replies alone

abbrev pub last_reply_to : Value → Signal → Option (Tag × Signal)
last_reply_to (Call tag) signal = Some (tag, signal)
last_reply_to other signal = None

abbrev pub reply_of : Heard → List Value → List Value → Ask → Option (Tag × Signal)
reply_of heard before registers (ask.Reply to say) = last_reply_to (operand_of to heard before registers) (said heard before registers say)
reply_of heard before registers other = None

abbrev pub replies_of : Heard → List Value → List Value → List Ask → List (Tag × Signal)
replies_of heard before registers asks = filter_map (reply_of heard before registers) asks
