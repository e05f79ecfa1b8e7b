-- When a rule hides another.
use Rattle.std.specs.Prelude.{◌≡◌, ℕ, Bool, true, false, List, [], ◌∷◌, ◌++◌, Option, None, Some, ◌==◌, ◌&&◌, take, slice_get, position}
use Rattle.std.specs.List.{find, remove}
use Rattle.st_table.specs.declared.on.On.{On}
use Rattle.st_table.specs.declared.on.On.TheVariants as on
use Rattle.st_table.specs.declared.rule.Rule.{Rule}
use Rattle.st_table.specs.declared.test.Test.{Test}

-- whether each event of the later kind is of the earlier
abbrev pub covers_kind : On → On → Bool
covers_kind on.Any later = true
covers_kind on.Call on.Call = true
covers_kind on.Cast on.Cast = true
covers_kind on.Info on.Info = true
covers_kind on.Internal on.Internal = true
covers_kind on.AnyTimeout on.AnyTimeout = true
covers_kind on.AnyTimeout on.EventTimeout = true
covers_kind on.AnyTimeout on.StateTimeout = true
covers_kind on.AnyTimeout (on.NamedTimeout later) = true
covers_kind on.EventTimeout on.EventTimeout = true
covers_kind on.StateTimeout on.StateTimeout = true
covers_kind (on.NamedTimeout earlier) (on.NamedTimeout later) = earlier == later
covers_kind earlier later = false

-- whether each symbol that the later rule wants is one that the earlier wants
abbrev pub covers_symbol : Option ℕ → Option ℕ → Bool
covers_symbol None later = true
covers_symbol (Some earlier) (Some later) = earlier == later
covers_symbol (Some earlier) None = false

-- whether there is no guard
abbrev pub has_no_guard : List Test → Bool
has_no_guard [] = true
has_no_guard (test ∷ tests) = false

-- the earlier has no guard, and wants each event that the later wants
abbrev pub covers : Rule → Rule → Bool
covers earlier later = covers_kind earlier.on later.on && covers_symbol earlier.symbol later.symbol && has_no_guard earlier.guard

-- a rule is never taken where an earlier one stands before it: the first rule that passes is the same without it, whatever
-- rules stand before, between and behind
abbrev pub IsNeverTaken : (Rule → Bool) → Rule → Rule → Type 0
IsNeverTaken passes earlier later =
    (front between back : List Rule) → find passes (front ++ earlier ∷ (between ++ later ∷ back)) ≡ find passes (front ++ earlier ∷ (between ++ back))

-- the place of the first of these rules that covers a later one
abbrev pub first_cover : List Rule → Option Rule → Option ℕ
first_cover earlier None = None
first_cover earlier (Some later) = position (λ rule. covers rule later) earlier

-- the place of the first rule that covers the one at a place, among the rules before it
abbrev pub hider : List Rule → ℕ → Option ℕ
hider rules place = first_cover (take place rules) (slice_get rules place)

-- the rule at a place makes no difference: the first rule that passes is the same without it
abbrev pub IsIdle : (Rule → Bool) → List Rule → ℕ → Type 0
IsIdle passes rules place = find passes (remove rules place) ≡ find passes rules
