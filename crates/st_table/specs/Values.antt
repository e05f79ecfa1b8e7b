-- What expressions mean.
use Rattle.std.specs.Prelude.{ℕ, Bool, false, true, List, [], ◌∷◌, Option, None, Some, ◌+◌, ◌-◌, ◌*◌, ◌/◌, ◌%◌, ◌==◌, ◌&&◌, min, nat_lt, slice_get, if◌then◌else◌}
use Rattle.std.specs.Str.{bytes_eq}
use Rattle.st_events.specs.declared.machine_id.MachineId.{MachineId}
use Rattle.st_events.specs.declared.tag.Tag.{Tag}
use Rattle.st_events.specs.declared.time.Time.{Time}
use Rattle.st_events.specs.declared.time.Time.TheVariants.{After, Infinity}
use Rattle.st_table.specs.declared.value.Value.{Value}
use Rattle.st_table.specs.declared.value.Value.TheVariants.{Nothing, Number, Call, Machine, Text}
use Rattle.st_table.specs.declared.expression.Expression.{Expression}
use Rattle.st_table.specs.declared.operand.Operand.{Operand}
use Rattle.st_table.specs.declared.operand.Operand.TheVariants as operand
use Rattle.st_table.specs.declared.operator.Operator.{Operator}
use Rattle.st_table.specs.declared.operator.Operator.TheVariants as operator
use Rattle.st_table.specs.declared.term.Term.{Term}

-- ---- values

-- the number that a value is; 0 for one that is none
abbrev pub number_of : Value → ℕ
number_of (Number number) = number
number_of other = 0

-- whether two machines are one
abbrev pub same_machine : MachineId → MachineId → Bool
same_machine one other = (one.slot == other.slot) && (one.serial == other.serial)

-- whether two calls are one
abbrev pub same_tag : Tag → Tag → Bool
same_tag one other = (one.machine.slot == other.machine.slot) && (one.machine.serial == other.machine.serial) && (one.request == other.request)

-- whether two values are one
abbrev pub same_value : Value → Value → Bool
same_value Nothing Nothing = true
same_value (Number one) (Number other) = one == other
same_value (Call one) (Call other) = same_tag one other
same_value (Machine one) (Machine other) = same_machine one other
same_value (Text one) (Text other) = bytes_eq one other
same_value one other = false

-- ---- what is at hand while a rule is taken, beside the registers

-- the tag of the call, if it is one; and an argument
pub record Heard : Type 0 where
  pub tag : Option Tag
  pub argument : Value

-- the tag itself, and the machine that is called
abbrev pub caller_of : Option Tag → Value
caller_of None = Nothing
caller_of (Some tag) = Call tag

abbrev pub own_of : Option Tag → Value
own_of None = Nothing
own_of (Some tag) = Machine tag.machine

-- ---- numbers

-- a quotient; 0 where the divisor is 0
abbrev pub quotient : ℕ → ℕ → ℕ
quotient left right = if right == 0 then 0 else left / right

-- what a division leaves; 0 where the divisor is 0
abbrev pub remainder : ℕ → ℕ → ℕ
remainder left right = if right == 0 then 0 else left % right

-- what a number and the next one give: it stops at 0 and at 2^64 - 1
abbrev pub computed : Operator → ℕ → ℕ → ℕ
computed operator.Plus left right = min (left + right) 18446744073709551615
computed operator.Minus left right = left - right
computed operator.Times left right = min (left * right) 18446744073709551615
computed operator.Over left right = quotient left right
computed operator.Remainder left right = remainder left right
computed operator.Least left right = if nat_lt left right then left else right
computed operator.Greatest left right = if nat_lt left right then right else left

-- a number of 32 bits: that number, or the greatest
abbrev pub at_most_32_bits : ℕ → ℕ
at_most_32_bits number = min number 4294967295

-- how long a time-out lasts, of a value: one that is no number stops the timer
abbrev pub time_of : Value → Time
time_of (Number number) = After (at_most_32_bits number)
time_of other = Infinity

-- ---- expressions: `before` are the registers before the rule, or what a start was given, and `registers` those now

-- the value, or nothing
abbrev pub or_nothing : Option Value → Value
or_nothing None = Nothing
or_nothing (Some value) = value

-- a register, or nothing where there are not so many
abbrev pub register : List Value → ℕ → Value
register registers index = or_nothing (slice_get registers index)

-- the value of an operand
abbrev pub operand_of : Operand → Heard → List Value → List Value → Value
operand_of (operand.Constant value) heard before registers = value
operand_of (operand.Register index) heard before registers = register registers index
operand_of (operand.Before index) heard before registers = register before index
operand_of operand.Argument heard before registers = heard.argument
operand_of operand.Caller heard before registers = caller_of heard.tag
operand_of operand.Own heard before registers = own_of heard.tag

-- the value after one term
abbrev pub after_term : Heard → List Value → List Value → Term → Value → Value
after_term heard before registers term value =
    Number (computed term.operator (number_of value) (number_of (operand_of term.operand heard before registers)))

-- the value after terms, from left to right
abbrev pub after_terms : Heard → List Value → List Value → List Term → Value → Value
after_terms heard before registers [] value = value
after_terms heard before registers (term ∷ terms) value = after_terms heard before registers terms (after_term heard before registers term value)

-- the value of an expression
abbrev pub value_of : Heard → List Value → List Value → Expression → Value
value_of heard before registers expression =
    after_terms heard before registers expression.terms (operand_of expression.first heard before registers)
