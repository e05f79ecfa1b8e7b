-- Which rule is taken.
use Rattle.std.specs.Prelude.{ℕ, Bool, true, false, List, [], ◌++◌, Option, None, Some, ◌==◌, ◌&&◌, not, nat_le, nat_lt, slice_get}
use Rattle.std.specs.List.{list_all, find}
use Rattle.st_events.specs.declared.kind.Kind.{Kind}
use Rattle.st_events.specs.declared.kind.Kind.TheVariants as kinds
use Rattle.st_events.specs.declared.tag.Tag.{Tag}
use Rattle.st_events.specs.declared.timer.Timer.TheVariants as timers
use Rattle.st_table.specs.declared.on.On.{On}
use Rattle.st_table.specs.declared.on.On.TheVariants as on
use Rattle.st_table.specs.declared.place.Place.{Place}
use Rattle.st_table.specs.declared.relation.Relation.{Relation}
use Rattle.st_table.specs.declared.relation.Relation.TheVariants as relation
use Rattle.st_table.specs.declared.rule.Rule.{Rule}
use Rattle.st_table.specs.declared.signal.Signal.{Signal}
use Rattle.st_table.specs.declared.state_row.StateRow.{StateRow}
use Rattle.st_table.specs.declared.table.Table.{Table}
use Rattle.st_table.specs.declared.test.Test.{Test}
use Rattle.st_table.specs.declared.value.Value.{Value}
use Rattle.st_table.specs.Values.{Heard, number_of, same_value, value_of}

-- ---- what is at hand while an event is handled

-- the tag of a call
abbrev pub tag_of : Kind → Option Tag
tag_of (kinds.Call tag) = Some tag
tag_of other = None

abbrev pub heard_of : Kind → Signal → Heard
heard_of kind signal = record { tag = tag_of kind; argument = signal.argument }

-- ---- when a rule fits

-- whether an event's kind is the one that is wanted
abbrev pub is_kind : On → Kind → Bool
is_kind on.Any kind = true
is_kind on.Call (kinds.Call tag) = true
is_kind on.Cast kinds.Cast = true
is_kind on.Info kinds.Info = true
is_kind on.Internal kinds.Internal = true
is_kind on.AnyTimeout (kinds.Timeout timer) = true
is_kind on.EventTimeout (kinds.Timeout timers.Event) = true
is_kind on.StateTimeout (kinds.Timeout timers.State) = true
is_kind (on.NamedTimeout wanted) (kinds.Timeout (timers.Named name)) = wanted == name
is_kind wanted kind = false

-- whether a symbol is the one that is wanted
abbrev pub is_symbol : Option ℕ → ℕ → Bool
is_symbol None symbol = true
is_symbol (Some wanted) symbol = wanted == symbol

-- whether two values compare so
abbrev pub compares : Relation → Value → Value → Bool
compares relation.Equal left right = same_value left right
compares relation.Different left right = not (same_value left right)
compares relation.Less left right = nat_lt (number_of left) (number_of right)
compares relation.AtMost left right = nat_le (number_of left) (number_of right)

-- whether a test holds
abbrev pub holds : Heard → List Value → List Value → Test → Bool
holds heard before registers test = compares test.relation (value_of heard before registers test.left) (value_of heard before registers test.right)

-- whether a rule's guard holds: each of its tests
abbrev pub is_guarded : Heard → List Value → List Value → Rule → Bool
is_guarded heard before registers rule = list_all (holds heard before registers) rule.guard

-- whether a rule fits an event: by its kind, its symbol and its guard
abbrev pub fits : Kind → Signal → List Value → Rule → Bool
fits kind signal registers rule =
    is_kind rule.on kind && is_symbol rule.symbol signal.symbol && is_guarded (heard_of kind signal) registers registers rule

-- ---- which rule

-- the rules of a state, and none of one that is not there
abbrev pub rules_in : Option StateRow → List Rule
rules_in None = []
rules_in (Some row) = row.rules

-- the entries of a state, and none of one that is not there
abbrev pub entries_in : Option StateRow → List Rule
entries_in None = []
entries_in (Some row) = row.entries

-- the rule that an event takes: the first that fits of the state's rules, and then of those of any state
abbrev pub rule_of : Table → Kind → Signal → Place → List Value → Option Rule
rule_of table kind signal state registers = find (fits kind signal registers) (rules_in (slice_get table.states state.number) ++ table.any)
