-- A rule that another covers is never taken behind it.
use Rattle.std.proofs.Common.{◌≡◌, ℕ, zero, suc, ◌<◌, Bool, true, false, cond, List, [], ◌∷◌, ◌++◌, length, take, get_or, Option, Some, None, OnSome, refl, ap, ◌∙◌, sym, arith, min}
use Rattle.std.specs.Prelude.{◌==◌, ◌&&◌, slice_get, position}
use Rattle.std.specs.List.{find, list_all, remove}
use Rattle.std.proofs.lemmas.Bool.{false≢true, true≢false, eqb-true, false_from_ne_true}
use Rattle.std.proofs.lemmas.List.{length-take, get_or-take}
use Rattle.std.proofs.lemmas.List.Quantifiers.{position-Some}
use Rattle.std.proofs.lemmas.Option.{none-some, same_Some, slice_get-get_or, slice_get_within}
use Rattle.st_events.specs.declared.kind.Kind.{Kind}
use Rattle.st_events.specs.declared.kind.Kind.TheVariants.{Timeout}
use Rattle.st_events.specs.declared.timer.Timer.TheVariants as timers
use Rattle.st_table.specs.declared.on.On.{On}
use Rattle.st_table.specs.declared.on.On.TheVariants as on
use Rattle.st_table.specs.declared.rule.Rule.{Rule}
use Rattle.st_table.specs.declared.signal.Signal.{Signal}
use Rattle.st_table.specs.declared.test.Test.{Test}
use Rattle.st_table.specs.declared.value.Value.{Value}
use Rattle.st_table.specs.Values.{Heard}
use Rattle.st_table.specs.Matching.{is_kind, is_symbol, holds, is_guarded, fits, heard_of}
use Rattle.st_table.specs.Covers.{covers_kind, covers_symbol, has_no_guard, covers, IsNeverTaken, IsIdle}

-- ---- a list without an element

-- an element that fails makes no difference
fails : {X : Type 0} (p : X → Bool) (x : X) → p x ≡ false → (between back : List X) → find p (between ++ x ∷ back) ≡ find p (between ++ back)
fails p x is [] back = ap (λ b. cond b (Some x) (find p back)) is
fails p x is (y ∷ ys) back = ap (λ o. cond (p y) (Some y) o) (fails p x is ys back)

-- an element behind one that passes wherever it does makes none either
behind : {X : Type 0} (p : X → Bool) (earlier later : X) → (p later ≡ true → p earlier ≡ true) → (between back : List X) → (b : Bool) → p earlier ≡ b
    → cond b (Some earlier) (find p (between ++ later ∷ back)) ≡ cond b (Some earlier) (find p (between ++ back))
behind p earlier later passes between back true is = refl
behind p earlier later passes between back false is =
    fails p later (false_from_ne_true (p later) (λ t. true≢false (sym (passes t) ∙ is))) between back

left_out : {X : Type 0} (p : X → Bool) (earlier later : X) → (p later ≡ true → p earlier ≡ true) → (front between back : List X)
    → find p (front ++ earlier ∷ (between ++ later ∷ back)) ≡ find p (front ++ earlier ∷ (between ++ back))
left_out p earlier later passes [] between back = behind p earlier later passes between back (p earlier) refl
left_out p earlier later passes (x ∷ xs) between back = ap (λ o. cond (p x) (Some x) o) (left_out p earlier later passes xs between back)

-- an element that fails makes no difference, wherever it stands
fails_at : {X : Type 0} (p : X → Bool) (x : X) → p x ≡ false → (xs : List X) (i : ℕ) → slice_get xs i ≡ Some x → find p (remove xs i) ≡ find p xs
fails_at p x is [] i at = absurd (none-some x at)
fails_at p x is (y ∷ ys) zero at = ap (λ b. cond b (Some y) (find p ys)) (sym (ap p (same_Some y x at) ∙ is))
fails_at p x is (y ∷ ys) (suc i) at = ap (λ o. cond (p y) (Some y) o) (fails_at p x is ys i at)

-- nor does one behind one that passes wherever it does
behind_at : {X : Type 0} (p : X → Bool) (earlier later : X) → (p later ≡ true → p earlier ≡ true) → (xs : List X) (i : ℕ) → slice_get xs i ≡ Some later → (b : Bool) → p earlier ≡ b
    → cond b (Some earlier) (find p (remove xs i)) ≡ cond b (Some earlier) (find p xs)
behind_at p earlier later passes xs i at true is = refl
behind_at p earlier later passes xs i at false is =
    fails_at p later (false_from_ne_true (p later) (λ t. true≢false (sym (passes t) ∙ is))) xs i at

left_out_at : {X : Type 0} (p : X → Bool) (earlier later : X) → (p later ≡ true → p earlier ≡ true) → (xs : List X) (i j : ℕ)
    → i < j → slice_get xs i ≡ Some earlier → slice_get xs j ≡ Some later → find p (remove xs j) ≡ find p xs
left_out_at p earlier later passes [] i j before at_i at_j = absurd (none-some later at_j)
left_out_at p earlier later passes (x ∷ xs) i zero before at_i at_j = let no : ⊥ = omega arith in absurd no
left_out_at p earlier later passes (x ∷ xs) zero (suc j) before at_i at_j =
    let first = sym (same_Some x earlier at_i) in
    ap (λ y. cond (p y) (Some y) (find p (remove xs j))) (sym first) ∙ (behind_at p earlier later passes xs j at_j (p earlier) refl ∙ ap (λ y. cond (p y) (Some y) (find p xs)) first)
left_out_at p earlier later passes (x ∷ xs) (suc i) (suc j) before at_i at_j =
    ap (λ o. cond (p x) (Some x) o) (left_out_at p earlier later passes xs i j (omega arith) at_i at_j)

-- ---- tests that hold both

both : (a b : Bool) → (a && b) ≡ true → (a ≡ true) × (b ≡ true)
both true b is = (refl, is)
both false b is = absurd (false≢true is)

joined : (a b : Bool) → a ≡ true → b ≡ true → (a && b) ≡ true
joined a b first second = ap (λ t. t && b) first ∙ second

-- ---- an event of the later rule is one of the earlier

of_any_timer : (wanted : On) (kind : Kind) → covers_kind on.AnyTimeout wanted ≡ true → is_kind wanted kind ≡ true → is_kind on.AnyTimeout kind ≡ true
of_any_timer on.AnyTimeout kind covered fits = fits
of_any_timer wanted (Timeout timer) covered fits = refl
of_any_timer on.Any kind covered fits = absurd (false≢true covered)
of_any_timer on.Call kind covered fits = absurd (false≢true covered)
of_any_timer on.Cast kind covered fits = absurd (false≢true covered)
of_any_timer on.Info kind covered fits = absurd (false≢true covered)
of_any_timer on.Internal kind covered fits = absurd (false≢true covered)
of_any_timer wanted kind covered fits = absurd (false≢true fits)

of_name : (earlier later : ℕ) (kind : Kind) → (earlier == later) ≡ true → is_kind (on.NamedTimeout later) kind ≡ true → is_kind (on.NamedTimeout earlier) kind ≡ true
of_name earlier later (Timeout (timers.Named name)) same fits = ap (λ x. x == name) (eqb-true earlier later same) ∙ fits
of_name earlier later kind same fits = absurd (false≢true fits)

of_kind : (earlier later : On) (kind : Kind) → covers_kind earlier later ≡ true → is_kind later kind ≡ true → is_kind earlier kind ≡ true
of_kind on.Any later kind covered fits = refl
of_kind on.Call on.Call kind covered fits = fits
of_kind on.Cast on.Cast kind covered fits = fits
of_kind on.Info on.Info kind covered fits = fits
of_kind on.Internal on.Internal kind covered fits = fits
of_kind on.AnyTimeout later kind covered fits = of_any_timer later kind covered fits
of_kind on.EventTimeout on.EventTimeout kind covered fits = fits
of_kind on.StateTimeout on.StateTimeout kind covered fits = fits
of_kind (on.NamedTimeout earlier) (on.NamedTimeout later) kind covered fits = of_name earlier later kind covered fits
of_kind earlier later kind covered fits = absurd (false≢true covered)

of_symbol : (earlier later : Option ℕ) (symbol : ℕ) → covers_symbol earlier later ≡ true → is_symbol later symbol ≡ true → is_symbol earlier symbol ≡ true
of_symbol None later symbol covered fits = refl
of_symbol (Some earlier) (Some later) symbol covered fits = ap (λ x. x == symbol) (eqb-true earlier later covered) ∙ fits
of_symbol (Some earlier) None symbol covered fits = absurd (false≢true covered)

without_guard : (heard : Heard) (before registers : List Value) (tests : List Test) → has_no_guard tests ≡ true → list_all (holds heard before registers) tests ≡ true
without_guard heard before registers [] none = refl
without_guard heard before registers (test ∷ tests) none = absurd (false≢true none)

covered : (kind : Kind) (signal : Signal) (registers : List Value) (earlier later : Rule) → covers earlier later ≡ true → fits kind signal registers later ≡ true → fits kind signal registers earlier ≡ true
covered kind signal registers earlier later is passes =
    let outer = both (covers_kind earlier.on later.on && covers_symbol earlier.symbol later.symbol) (has_no_guard earlier.guard) is in
    let inner = both (covers_kind earlier.on later.on) (covers_symbol earlier.symbol later.symbol) outer.0 in
    let guarded = both (is_kind later.on kind && is_symbol later.symbol signal.symbol) (is_guarded (heard_of kind signal) registers registers later) passes in
    let wanted = both (is_kind later.on kind) (is_symbol later.symbol signal.symbol) guarded.0 in
    joined (is_kind earlier.on kind && is_symbol earlier.symbol signal.symbol) (is_guarded (heard_of kind signal) registers registers earlier)
    (joined (is_kind earlier.on kind) (is_symbol earlier.symbol signal.symbol)
    (of_kind earlier.on later.on kind inner.0 wanted.0) (of_symbol earlier.symbol later.symbol signal.symbol inner.1 wanted.1))
    (without_guard (heard_of kind signal) registers registers earlier.guard outer.1)

guarded : (heard : Heard) (before registers : List Value) (earlier later : Rule) → covers earlier later ≡ true → is_guarded heard before registers earlier ≡ true
guarded heard before registers earlier later is =
    let outer = both (covers_kind earlier.on later.on && covers_symbol earlier.symbol later.symbol) (has_no_guard earlier.guard) is in
    without_guard heard before registers earlier.guard outer.1

-- ---- it is never taken

pub never_taken : (earlier later : Rule) → covers earlier later ≡ true → (kind : Kind) (signal : Signal) (registers : List Value) → IsNeverTaken (fits kind signal registers) earlier later
never_taken earlier later is kind signal registers =
    left_out (fits kind signal registers) earlier later (covered kind signal registers earlier later is)

pub never_entered : (earlier later : Rule) → covers earlier later ≡ true → (heard : Heard) (before registers : List Value) → IsNeverTaken (is_guarded heard before registers) earlier later
never_entered earlier later is heard before registers =
    left_out (is_guarded heard before registers) earlier later (λ passes. guarded heard before registers earlier later is)

-- ---- in a list

on_some : {P : Type 0} (answer : Option ℕ) → ((i : ℕ) → answer ≡ Some i → P) → OnSome answer P
on_some None given = tt
on_some (Some i) given = given i refl

-- the rule at a place, where one before it covers it, makes no difference to a test that its cover passes wherever it does
idles : (rules : List Rule) (place : ℕ) (later : Rule) → slice_get rules place ≡ Some later → (i : ℕ) → position (λ rule. covers rule later) (take place rules) ≡ Some i
    → (passes : Rule → Bool) → ((earlier : Rule) → covers earlier later ≡ true → passes later ≡ true → passes earlier ≡ true) → IsIdle passes rules place
idles rules place later at i found passes covering =
    let parts = position-Some (λ rule. covers rule later) (take place rules) i later found in
    let within : i < min place (length rules) = rw length-take at parts.0 in
    let here : place < length rules = slice_get_within rules place later at in
    let below : i < place = omega arith in
    let same : get_or (take place rules) i later ≡ get_or rules i later = get_or-take place rules i later below in
    left_out_at passes (get_or rules i later) later (covering (get_or rules i later) (ap (λ rule. covers rule later) (sym same) ∙ parts.1))
    rules i place below (slice_get-get_or rules i later (omega arith)) at

pub never_taken_at : (rules : List Rule) (place : ℕ) (later : Rule) (answer : Option ℕ) → slice_get rules place ≡ Some later → answer ≡ position (λ rule. covers rule later) (take place rules)
    → OnSome answer ((kind : Kind) (signal : Signal) (registers : List Value) → IsIdle (fits kind signal registers) rules place)
never_taken_at rules place later answer at is =
    on_some answer (λ i found kind signal registers. idles rules place later at i (sym is ∙ found) (fits kind signal registers)
    (λ earlier covers. covered kind signal registers earlier later covers))

pub never_entered_at : (rules : List Rule) (place : ℕ) (later : Rule) (answer : Option ℕ) → slice_get rules place ≡ Some later → answer ≡ position (λ rule. covers rule later) (take place rules)
    → OnSome answer ((heard : Heard) (before registers : List Value) → IsIdle (is_guarded heard before registers) rules place)
never_entered_at rules place later answer at is =
    on_some answer (λ i found heard before registers. idles rules place later at i (sym is ∙ found) (is_guarded heard before registers)
    (λ earlier covers passes. guarded heard before registers earlier later covers))
