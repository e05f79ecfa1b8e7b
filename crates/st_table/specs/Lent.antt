-- What the code reads in the place of a value: a text in it is lent and not owned.
use Rattle.st_table.specs.declared.at_hand.AtHand.{AtHand}
use Rattle.st_table.specs.declared.seen.Seen.{Seen}
use Rattle.st_table.specs.declared.seen.Seen.TheVariants as seen
use Rattle.st_table.specs.declared.value.Value.{Value}
use Rattle.st_table.specs.declared.value.Value.TheVariants.{Nothing, Number, Call, Machine, Text}
use Rattle.st_table.specs.Values.{Heard}

-- the value
abbrev pub shown : Seen → Value
shown seen.Nothing = Nothing
shown (seen.Number number) = Number number
shown (seen.Call tag) = Call tag
shown (seen.Machine id) = Machine id
shown (seen.Text text) = Text text.now

-- what is at hand
abbrev pub hears : AtHand → Heard
hears at = record { tag = at.tag; argument = shown at.argument }
