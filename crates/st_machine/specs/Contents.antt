-- The JSON of signals.
use Rattle.std.specs.Prelude.{ℕ, List, codes}
use Rattle.serde_json.specs.Data.{Data, null, string, object, member, no_members}
use Rattle.st_table.specs.declared.signal.Signal.{Signal}
use Rattle.st_table.specs.declared.value.Value.{Value}
use Rattle.st_table.specs.declared.value.Value.TheVariants.{Nothing, Number, Call, Machine, Text}
use Rattle.st_json.specs.Events.{id_data, tag_data}
use Rattle.st_json.specs.Forms.{number_data, named_data}
use Rattle.st_machine.specs.Texts.{text_at}

-- an argument
abbrev pub value_data : Value → Data
value_data Nothing = null
value_data (Number n) = number_data n
value_data (Call tag) = named_data (codes "Call") (tag_data tag)
value_data (Machine id) = named_data (codes "Machine") (id_data id)
value_data (Text text) = string text

-- a symbol's name, and an argument
abbrev pub signal_data : List (List ℕ) → Signal → Data
signal_data symbols signal =
    object (member (codes "argument") (value_data signal.argument) (member (codes "symbol") (string (text_at symbols signal.symbol)) no_members))
