-- Signals as numbers and bytes.
use Rattle.std.specs.Prelude.{◌≡◌, ℕ, true, List, [], Some, ◌+◌, ◌==◌, nat_lt, length, slice_get, slice_range, if◌then◌else◌}
use Rattle.std.specs.Str.{IsUtf8}
use Rattle.st_chart.specs.declared.chart.Chart.{Chart}
use Rattle.st_embedded.specs.declared.machines.Machines.{Machines}
use Rattle.st_table.specs.declared.interpreter.Interpreter.{Interpreter}
use Rattle.st_table.specs.declared.signal.Signal.{Signal}
use Rattle.st_table.specs.declared.value.Value.{Value}
use Rattle.st_table.specs.declared.value.Value.TheVariants as value
use Rattle.zumelivon.specs.Reading.{id_in, is_within}
use Rattle.zumelivon.specs.declared.flat_signal.FlatSignal.{FlatSignal}

-- the bytes that a signal names
abbrev pub text_in : List ℕ → FlatSignal → List ℕ
text_in bytes it = slice_range bytes it.from (it.from + it.length)

-- what it carries is a value: a text is there, and is UTF-8
abbrev pub HasValue : List ℕ → FlatSignal → Type 0
HasValue bytes it = (nat_lt it.what 5 ≡ true) × (it.what ≡ 4 → (is_within bytes it.from it.length ≡ true) × IsUtf8 (text_in bytes it))

-- one of these has none
abbrev pub OneHasNoValue : List ℕ → List FlatSignal → Type 0
OneHasNoValue bytes signals = (index : ℕ) × (it : FlatSignal) × (slice_get signals index ≡ Some it) × (HasValue bytes it → ⊥)

-- the value
abbrev pub value_in : List ℕ → FlatSignal → Value
value_in bytes it =
    if it.what == 1 then value.Number it.number else (
    if it.what == 2 then value.Call (record { machine = id_in it.number; request = it.request }) else (
    if it.what == 3 then value.Machine (id_in it.number) else (
    if it.what == 4 then value.Text (text_in bytes it) else value.Nothing)))

abbrev pub signal_in : List ℕ → FlatSignal → Signal
signal_in bytes it = record { symbol = it.symbol; argument = value_in bytes it }

-- ---- shown

abbrev pub text_of : Value → List ℕ
text_of (value.Text text) = text
text_of other = []

-- the bytes of a signal's text; of another value none
abbrev pub bytes_in : Signal → List ℕ
bytes_in it = text_of it.argument

abbrev pub what_of : Value → ℕ
what_of value.Nothing = 0
what_of (value.Number number) = 1
what_of (value.Call tag) = 2
what_of (value.Machine id) = 3
what_of (value.Text text) = 4

abbrev pub number_in : Value → ℕ
number_in (value.Number number) = number
number_in (value.Call tag) = tag.machine.serial
number_in (value.Machine id) = id.serial
number_in other = 0

abbrev pub request_in : Value → ℕ
request_in (value.Call tag) = tag.request
request_in other = 0

abbrev pub flat_signal : Signal → FlatSignal
flat_signal it = record {
  symbol = it.symbol;
  what = what_of it.argument;
  number = number_in it.argument;
  request = request_in it.argument;
  from = 0;
  length = length (bytes_in it);
}

-- ---- the module of a description that a table has, by its number
abbrev pub IsOf : Machines → ℕ → Interpreter → Type 0
IsOf all description it = (chart : Chart) × (slice_get all.charts.items description ≡ Some chart) × (it.table.value ≡ chart.table.value)
