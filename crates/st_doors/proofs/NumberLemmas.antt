-- Doors by their numbers, and numbers by names.
use Rattle.std.proofs.Common.{◌≡◌, ℕ, zero, suc, ◌+◌, ◌<◌, ◌≤◌, ◌≢◌, ◌==◌, Bool, length, true, false, nat_eq, if◌then◌else◌, List, [], ◌∷◌, ◌++◌, get_or, set, find, slice_get, Option, Some, None, String, refl, ap, sym, ◌∙◌, arith, inl, inr, bytes_eq, string_bytes, eqb-true}
use Rattle.std.proofs.lemmas.Bool.{cases_Bool, eq-eqb, false_from_ne_true}
use Rattle.std.proofs.lemmas.List.{map-append}
use Rattle.std.proofs.lemmas.Slice.Eq.{bytes_eq-Decides}
use Rattle.st_core.specs.Run.{step_of}
use Rattle.st_answers.specs.declared.command.Command.{Command}
use Rattle.st_journal.specs.declared.source.Source.{Source}
use Rattle.st_events.specs.declared.machine_id.MachineId.{MachineId}
use Rattle.st_events.proofs.ComparedLemmas.{same_number}
use Rattle.st_scheduled.proofs.TokensCompared.{and_false}
use Rattle.st_doors.specs.declared.door_content.DoorContent.{DoorContent}
use Rattle.st_doors.specs.Doors.{NamedDoor, KeptDoor, DoorAnswer, IsFirst, door_callbacks, door_named, door_of, door_told_by, has_name, kept_told_by, told_of, without_door}
use Rattle.st_doors.specs.Entries.{door_of_entry}
use Rattle.st_doors.specs.Settling.{has_id}
use Rattle.st_doors.specs.Numbers.{Numbered, doors_of_numbered, number_of, AreNumbered, AreSerials, DoRise, DoSerialsRise, has_number, without_number, unnumbered, kept_doors, with_door}

-- ---- numbers and names compared
pub other_number : (a b : ℕ) → a ≢ b → nat_eq a b ≡ false
other_number a b apart = false_from_ne_true (nat_eq a b) (λ same. apart (eqb-true a b same))

same_name : (a b : List ℕ) → bytes_eq a b ≡ true → a ≡ b
same_name a b same = (bytes_eq-Decides a b).0 same

is_name : (a b : List ℕ) → a ≡ b → bytes_eq a b ≡ true
is_name a b same = (bytes_eq-Decides a b).1 same

name_flips : (a b : List ℕ) → bytes_eq a b ≡ false → bytes_eq b a ≡ false
name_flips a b apart = elim (cases_Bool (bytes_eq b a)) [
  | inl same ↦ let true_too : bytes_eq a b ≡ true = is_name a b (sym (same_name b a same)) in cc
  | inr other ↦ other
]

module _ {A : Type 0} where
  -- ---- numbers rise
  -- up to the next one
  rising : (from : ℕ) (es : List (Numbered A)) (next : ℕ) → AreNumbered from es next → from ≤ next
  rising from [] next are = are
  rising from (e ∷ es) next are = let rest : suc e.0 ≤ next = rising (suc e.0) es next are.2 in omega (arith, are.0, rest)

  -- from any lower one as well
  lower : (low from : ℕ) (es : List (Numbered A)) (next : ℕ) → low ≤ from → AreNumbered from es next → AreNumbered low es next
  lower low from [] next less are = omega (arith, less, are)
  lower low from (e ∷ es) next less are = (omega (arith, less, are.0), are.1, are.2)

  -- and the serials of the doors, which they are, rise
  pub serials-rise : (from : ℕ) (es : List (Numbered A)) (next : ℕ) → AreNumbered from es next → AreSerials es → DoSerialsRise from (doors_of_numbered es)
  serials-rise from [] next are serials = tt
  serials-rise from (e ∷ es) next are serials =
      let same : e.0 ≡ e.1.1.machine.id.serial = serials.0 in
      rw (← same) (are.0, serials-rise (suc e.0) es next are.2 serials.1)

  -- by themselves
  pub numbers-rise : (from : ℕ) (es : List (Numbered A)) (next : ℕ) → AreNumbered from es next → DoRise from es
  numbers-rise from [] next are = tt
  numbers-rise from (e ∷ es) next are = (are.0, numbers-rise (suc e.0) es next are.2)

  -- the number of a name is among them
  above : (from : ℕ) (es : List (Numbered A)) (next : ℕ) (name : List ℕ) (number : ℕ) → AreNumbered from es next → number_of name es ≡ Some number → from ≤ number
  above from [] next name number are is = cc
  above from (e ∷ es) next name number are is = elim (cases_Bool (bytes_eq name (string_bytes e.1.0))) [
    | inl same ↦ let found = rw same at is in let here : e.0 ≡ number = cc in omega (arith, are.0, here)
    | inr other ↦ let rest = rw other at is in let least : suc e.0 ≤ number = above (suc e.0) es next name number are.2 rest in omega (arith, are.0, least)
  ]

  -- ---- look-ups
  -- the place of a name's number is that of the door
  pub numbered-place : (from : ℕ) (es : List (Numbered A)) (next : ℕ) (name : List ℕ) (number place : ℕ) → AreNumbered from es next → number_of name es ≡ Some number
      → IsFirst (has_number number) es place → IsFirst (has_name name) (doors_of_numbered es) place
  numbered-place from [] next name number place are is first = absurd first
  numbered-place from (e ∷ es) next name number zero are is first = elim (cases_Bool (bytes_eq name (string_bytes e.1.0))) [
    | inl same ↦ same
    | inr other ↦
        let rest = rw other at is in
        let least : suc e.0 ≤ number = above (suc e.0) es next name number are.2 rest in
        let here : number ≡ e.0 = eqb-true number e.0 first in
        absurd (omega (arith, least, here))
  ]
  numbered-place from (e ∷ es) next name number (suc place) are is first = elim (cases_Bool (bytes_eq name (string_bytes e.1.0))) [
    | inl same ↦
        let found = rw same at is in
        let here : e.0 ≡ number = cc in
        let equal : nat_eq number e.0 ≡ true = eq-eqb number e.0 (sym here) in
        let apart = first.0 in
        cc
    | inr other ↦ (other, numbered-place (suc e.0) es next name number place are.2 (rw other at is) first.1)
  ]

  -- where a name has no number, there is no door
  pub number-missing : (name : List ℕ) (es : List (Numbered A)) → number_of name es ≡ None → door_of name (doors_of_numbered es) ≡ None
  number-missing name [] none = refl
  number-missing name (e ∷ es) none = elim (cases_Bool (bytes_eq name (string_bytes e.1.0))) [
    | inl same ↦ let some = rw same at none in cc
    | inr other ↦ rw other (number-missing name es (rw other at none))
  ]

  -- and the other way round
  pub number-free : (name : List ℕ) (es : List (Numbered A)) → door_of name (doors_of_numbered es) ≡ None → number_of name es ≡ None
  number-free name [] none = refl
  number-free name (e ∷ es) none = elim (cases_Bool (bytes_eq name (string_bytes e.1.0))) [
    | inl same ↦ let some = rw same at none in cc
    | inr other ↦ rw other (number-free name es (rw other at none))
  ]

  -- a name's number is that of an entry
  pub number-present : (name : List ℕ) (es : List (Numbered A)) (number : ℕ) → number_of name es ≡ Some number
      → find (has_number number) es ≡ None → ⊥
  number-present name [] number is none = cc
  number-present name (e ∷ es) number is none = elim (cases_Bool (nat_eq number e.0)) [
    | inl here ↦ let some = rw here at none in cc
    | inr apart ↦ elim (cases_Bool (bytes_eq name (string_bytes e.1.0))) [
      | inl same ↦
          let found = rw same at is in
          let same_one : e.0 ≡ number = cc in
          let equal : nat_eq number e.0 ≡ true = eq-eqb number e.0 (sym same_one) in
          cc
      | inr other ↦ number-present name es number (rw other at is) (rw apart at none)
    ]
  ]

  -- ---- a door more
  pub doors-last : (es : List (Numbered A)) (number : ℕ) (name : String A) (door : KeptDoor)
      → doors_of_numbered (es ++ (number, (name, door)) ∷ []) ≡ doors_of_numbered es ++ door_named (string_bytes name) door ∷ []
  doors-last es number name door = map-append (λ (e : Numbered A). door_of_entry e.1) es ((number, (name, door)) ∷ [])

  -- its name has its number, and the others have theirs
  pub number-last : (es : List (Numbered A)) (number : ℕ) (key : String A) (door : KeptDoor) (name : List ℕ) → number_of (string_bytes key) es ≡ None
      → number_of name (es ++ (number, (key, door)) ∷ []) ≡ (if bytes_eq (string_bytes key) name then Some number else number_of name es)
  number-last [] number key door name free = elim (cases_Bool (bytes_eq name (string_bytes key))) [
    | inl same ↦ rw (same, is_name (string_bytes key) name (sym (same_name name (string_bytes key) same))) refl
    | inr other ↦ rw (other, name_flips name (string_bytes key) other) refl
  ]
  number-last (e ∷ es) number key door name free = elim (cases_Bool (bytes_eq (string_bytes key) (string_bytes e.1.0))) [
    | inl same ↦ let some = rw same at free in cc
    | inr apart ↦ elim (cases_Bool (bytes_eq name (string_bytes e.1.0))) [
      | inl here ↦
          let is : name ≡ string_bytes e.1.0 = same_name name (string_bytes e.1.0) here in
          let elsewhere : bytes_eq (string_bytes key) name ≡ false = rw is apart in
          rw (here, elsewhere) refl
      | inr other ↦ rw other (number-last es number key door name (rw apart at free))
    ]
  ]

  -- the numbers rise still
  pub numbered-last : (from : ℕ) (es : List (Numbered A)) (next : ℕ) (key : String A) (door : KeptDoor) → AreNumbered from es next → number_of (string_bytes key) es ≡ None
      → AreNumbered from (es ++ (next, (key, door)) ∷ []) (next + 1)
  numbered-last from [] next key door are free = (are, refl, omega arith)
  numbered-last from (e ∷ es) next key door are free = elim (cases_Bool (bytes_eq (string_bytes key) (string_bytes e.1.0))) [
    | inl same ↦ let some = rw same at free in cc
    | inr apart ↦
        let rest : number_of (string_bytes key) es ≡ None = rw apart at free in
        let once : number_of (string_bytes e.1.0) (es ++ (next, (key, door)) ∷ []) ≡ number_of (string_bytes e.1.0) es =
        number-last es next key door (string_bytes e.1.0) rest ∙ rw apart refl in
        (are.0, once ∙ are.1, numbered-last (suc e.0) es next key door are.2 rest)
  ]

  -- ---- a door less
  -- without the number of a name the doors are without that door
  pub doors-less : (from : ℕ) (es : List (Numbered A)) (next : ℕ) (name : List ℕ) (number : ℕ) → AreNumbered from es next → number_of name es ≡ Some number
      → doors_of_numbered (without_number number es) ≡ without_door name (doors_of_numbered es)
  doors-less from [] next name number are is = cc
  doors-less from (e ∷ es) next name number are is = elim (cases_Bool (bytes_eq name (string_bytes e.1.0))) [
    | inl same ↦
        let found = rw same at is in
        let here : e.0 ≡ number = cc in
        rw (eq-eqb number e.0 (sym here), same) refl
    | inr other ↦
        let rest = rw other at is in
        let least : suc e.0 ≤ number = above (suc e.0) es next name number are.2 rest in
        rw (other_number number e.0 (omega (arith, least)), other)
        (ap (λ t. door_of_entry e.1 ∷ t) (doors-less (suc e.0) es next name number are.2 rest))
  ]

  -- the name has no number any more, and the others have theirs
  pub number-less : (from : ℕ) (es : List (Numbered A)) (next : ℕ) (gone : List ℕ) (number : ℕ) (name : List ℕ) → AreNumbered from es next → number_of gone es ≡ Some number
      → number_of name (without_number number es) ≡ (if bytes_eq gone name then None else number_of name es)
  number-less from [] next gone number name are is = cc
  number-less from (e ∷ es) next gone number name are is = elim (cases_Bool (bytes_eq gone (string_bytes e.1.0))) [
    | inl same ↦
        let found = rw same at is in
        let here : e.0 ≡ number = cc in
        let there : gone ≡ string_bytes e.1.0 = same_name gone (string_bytes e.1.0) same in
        elim (cases_Bool (bytes_eq gone name)) [
          | inl it ↦
              let once : number_of name es ≡ None = rw (sym (same_name gone name it) ∙ there) are.1 in
              rw (eq-eqb number e.0 (sym here), it) once
          | inr another ↦
              let apart : bytes_eq name (string_bytes e.1.0) ≡ false = rw (← there) (name_flips gone name another) in
              rw (eq-eqb number e.0 (sym here), another, apart) refl
        ]
    | inr other ↦
        let rest = rw other at is in
        let least : suc e.0 ≤ number = above (suc e.0) es next gone number are.2 rest in
        let kept : nat_eq number e.0 ≡ false = other_number number e.0 (omega (arith, least)) in
        elim (cases_Bool (bytes_eq name (string_bytes e.1.0))) [
          | inl it ↦
              let apart : bytes_eq gone name ≡ false = rw (same_name name (string_bytes e.1.0) it) other in
              rw (kept, it, apart) refl
          | inr another ↦ rw (kept, another) (number-less (suc e.0) es next gone number name are.2 rest)
        ]
  ]

  -- the numbers rise still
  pub numbered-less : (from : ℕ) (es : List (Numbered A)) (next : ℕ) (gone : List ℕ) (number : ℕ) → AreNumbered from es next → number_of gone es ≡ Some number
      → AreNumbered from (without_number number es) next
  numbered-less from [] next gone number are is = cc
  numbered-less from (e ∷ es) next gone number are is = elim (cases_Bool (bytes_eq gone (string_bytes e.1.0))) [
    | inl same ↦
        let found = rw same at is in
        let here : e.0 ≡ number = cc in
        rw (eq-eqb number e.0 (sym here)) (lower from (suc e.0) es next (omega (arith, are.0)) are.2)
    | inr other ↦
        let rest = rw other at is in
        let least : suc e.0 ≤ number = above (suc e.0) es next gone number are.2 rest in
        let once : number_of (string_bytes e.1.0) (without_number number es) ≡ None =
        number-less (suc e.0) es next gone number (string_bytes e.1.0) are.2 rest ∙ rw other are.1 in
        rw (other_number number e.0 (omega (arith, least))) (are.0, once, numbered-less (suc e.0) es next gone number are.2 rest)
  ]

  -- a name that has no number is not there to be taken out
  pub without-missing : (name : List ℕ) (es : List (Numbered A)) → number_of name es ≡ None → without_door name (doors_of_numbered es) ≡ doors_of_numbered es
  without-missing name [] none = refl
  without-missing name (e ∷ es) none = elim (cases_Bool (bytes_eq name (string_bytes e.1.0))) [
    | inl same ↦ let some = rw same at none in cc
    | inr other ↦ rw other (ap (λ t. door_of_entry e.1 ∷ t) (without-missing name es (rw other at none)))
  ]

  pub missing-less : (name other : List ℕ) (es : List (Numbered A)) → number_of name es ≡ None
      → (if bytes_eq name other then None else number_of other es) ≡ number_of other es
  missing-less name other es none = elim (cases_Bool (bytes_eq name other)) [
    | inl same ↦ rw (same, ← same_name name other same, none) refl
    | inr apart ↦ rw apart refl
  ]

  -- ---- a door changed
  -- the door at a place
  pub numbered-at : (es : List (Numbered A)) (place : ℕ) (door : KeptDoor) (d : NamedDoor)
      → slice_get (kept_doors es) place ≡ Some door → get_or (doors_of_numbered es) place d ≡ door_named (get_or (doors_of_numbered es) place d).name door
  numbered-at [] place door d at = cc
  numbered-at (e ∷ es) zero door d at = let here : e.1.1 ≡ door = cc in ap (door_named (string_bytes e.1.0)) here
  numbered-at (e ∷ es) (suc place) door d at = numbered-at es place door d at

  -- with its name
  pub named-at : (es : List (Numbered A)) (place : ℕ) (name : String A) (door : KeptDoor) (d : NamedDoor)
      → slice_get (unnumbered es) place ≡ Some (name, door) → door_named (string_bytes name) door ≡ get_or (doors_of_numbered es) place d
  named-at [] place name door d at = cc
  named-at (e ∷ es) zero name door d at = let here : e.1 ≡ (name, door) = cc in sym (ap (λ (t : String A × KeptDoor). door_of_entry t) here)
  named-at (e ∷ es) (suc place) name door d at = named-at es place name door d at

  pub doors-changed : (es : List (Numbered A)) (place : ℕ) (door new : KeptDoor) (change : NamedDoor → NamedDoor) (d : NamedDoor)
      → slice_get (kept_doors es) place ≡ Some door
      → ((name : List ℕ) → door_named name new ≡ change (door_named name door))
      → doors_of_numbered (with_door es place new) ≡ set (doors_of_numbered es) place (change (get_or (doors_of_numbered es) place d))
  doors-changed [] place door new change d at same = cc
  doors-changed (e ∷ es) zero door new change d at same =
      let here : e.1.1 ≡ door = cc in
      ap (λ t. t ∷ doors_of_numbered es) (rw here (same (string_bytes e.1.0)))
  doors-changed (e ∷ es) (suc place) door new change d at same =
      ap (λ t. door_of_entry e.1 ∷ t) (doors-changed es place door new change d at same)

  -- the door at a place answers to a command as it would under its name
  pub answered-at : (es : List (Numbered A)) (place : ℕ) (door : KeptDoor) (d : NamedDoor) (command : Command DoorContent) (answer : DoorAnswer)
      → slice_get (kept_doors es) place ≡ Some door → answer ≡ (step_of door_callbacks door.machine command).0
      → answer ≡ (told_of command (get_or (doors_of_numbered es) place d)).0
  answered-at [] place door d command answer at same = cc
  answered-at (e ∷ es) zero door d command answer at same =
      let here : e.1.1 ≡ door = cc in
      same ∙ ap (λ (t : KeptDoor). (step_of door_callbacks t.machine command).0) (sym here)
  answered-at (e ∷ es) (suc place) door d command answer at same = answered-at es place door d command answer at same

  -- and is told it so
  pub told-at : (es : List (Numbered A)) (place : ℕ) (door new : KeptDoor) (d : NamedDoor) (source : Source) (command : Command DoorContent)
      → slice_get (kept_doors es) place ≡ Some door → new ≡ kept_told_by source command door
      → doors_of_numbered (with_door es place new) ≡ set (doors_of_numbered es) place (door_told_by source command (get_or (doors_of_numbered es) place d))
  told-at es place door new d source command at told = doors-changed es place door new (door_told_by source command) d at (λ name. ap (door_named name) told)

  pub doors-same : (es : List (Numbered A)) (place : ℕ) (door new : KeptDoor)
      → slice_get (kept_doors es) place ≡ Some door → new ≡ door
      → doors_of_numbered (with_door es place new) ≡ doors_of_numbered es
  doors-same [] place door new at same = refl
  doors-same (e ∷ es) zero door new at same =
      let here : e.1.1 ≡ door = cc in
      ap (λ (t : KeptDoor). door_named (string_bytes e.1.0) t ∷ doors_of_numbered es) (same ∙ sym here)
  doors-same (e ∷ es) (suc place) door new at same =
      ap (λ t. door_of_entry e.1 ∷ t) (doors-same es place door new at same)

  pub number-changed : (es : List (Numbered A)) (place : ℕ) (new : KeptDoor) (name : List ℕ) → number_of name (with_door es place new) ≡ number_of name es
  number-changed [] place new name = refl
  number-changed (e ∷ es) zero new name = refl
  number-changed (e ∷ es) (suc place) new name =
      ap (λ (rest : Option ℕ). if bytes_eq name (string_bytes e.1.0) then Some e.0 else rest) (number-changed es place new name)

  pub numbered-changed : (from : ℕ) (es : List (Numbered A)) (next place : ℕ) (new : KeptDoor) → AreNumbered from es next → AreNumbered from (with_door es place new) next
  numbered-changed from [] next place new are = are
  numbered-changed from (e ∷ es) next zero new are = are
  numbered-changed from (e ∷ es) next (suc place) new are =
      (are.0, number-changed es place new (string_bytes e.1.0) ∙ are.1, numbered-changed (suc e.0) es next place new are.2)

  -- ---- serials
  -- a door at a place that keeps its id keeps its number
  pub serials-changed : (es : List (Numbered A)) (place : ℕ) (door new : KeptDoor) → slice_get (kept_doors es) place ≡ Some door → new.machine.id ≡ door.machine.id
      → AreSerials es → AreSerials (with_door es place new)
  serials-changed [] place door new at same are = tt
  serials-changed (e ∷ es) zero door new at same are =
      let here : e.1.1 ≡ door = cc in
      (are.0 ∙ (ap (λ (d : KeptDoor). d.machine.id.serial) here ∙ ap (λ (id : MachineId). id.serial) (sym same)), are.1)
  serials-changed (e ∷ es) (suc place) door new at same are = (are.0, serials-changed es place door new at same are.1)

  pub serials-last : (es : List (Numbered A)) (number : ℕ) (name : String A) (door : KeptDoor) → number ≡ door.machine.id.serial → AreSerials es
      → AreSerials (es ++ (number, (name, door)) ∷ [])
  serials-last [] number name door same are = (same, tt)
  serials-last (e ∷ es) number name door same are = (are.0, serials-last es number name door same are.1)

  pub serials-less : (es : List (Numbered A)) (number : ℕ) → AreSerials es → AreSerials (without_number number es)
  serials-less [] number are = tt
  serials-less (e ∷ es) number are = elim (cases_Bool (nat_eq number e.0)) [
    | inl here ↦ rw here are.1
    | inr apart ↦ rw apart (are.0, serials-less es number are.1)
  ]

  -- numbers up to one are numbers up to a greater one
  pub numbered-wider : (from : ℕ) (es : List (Numbered A)) (next number : ℕ) → next ≤ number → AreNumbered from es next → AreNumbered from es number
  numbered-wider from [] next number less are = omega (arith, less, are)
  numbered-wider from (e ∷ es) next number less are = (are.0, are.1, numbered-wider (suc e.0) es next number less are.2)

  pub numbered-within : (test : Numbered A → Bool) (es : List (Numbered A)) (place : ℕ) → IsFirst test es place → place < length (doors_of_numbered es)
  numbered-within test [] place first = absurd first
  numbered-within test (e ∷ es) zero first = omega arith
  numbered-within test (e ∷ es) (suc place) first =
      let rest : place < length (doors_of_numbered es) = numbered-within test es place first.1 in
      omega (arith, rest)

  -- a door has an id only where the id's serial is its number
  id-elsewhere : (id : MachineId) (e : Numbered A) → e.0 ≡ e.1.1.machine.id.serial → nat_eq id.serial e.0 ≡ false → has_id id (door_of_entry e.1) ≡ false
  id-elsewhere id e is apart =
      let other : nat_eq id.serial e.1.1.machine.id.serial ≡ false = rw (← is) apart in
      rw other (and_false (id.slot == e.1.1.machine.id.slot))

  -- and then it does where its place in the table is the id's
  id-here : (id : MachineId) (e : Numbered A) → e.0 ≡ e.1.1.machine.id.serial → nat_eq id.serial e.0 ≡ true → e.1.1.machine.id.slot ≡ id.slot → has_id id (door_of_entry e.1) ≡ true
  id-here id e is here same =
      let serial : nat_eq id.serial e.1.1.machine.id.serial ≡ true = rw (← is) here in
      rw (serial, same, same_number id.slot) refl

  -- the door of a serial is that of the id, where its place in the table is the id's
  pub id-place : (id : MachineId) (es : List (Numbered A)) (place : ℕ) (d : NamedDoor) → AreSerials es → IsFirst (has_number id.serial) es place
      → (get_or (doors_of_numbered es) place d).machine.id.slot ≡ id.slot → IsFirst (has_id id) (doors_of_numbered es) place
  id-place id [] place d are first same = absurd first
  id-place id (e ∷ es) zero d are first same = id-here id e are.0 first same
  id-place id (e ∷ es) (suc place) d are first same = (id-elsewhere id e are.0 first.0, id-place id es place d are.1 first.1 same)

  -- where no door has the serial, none has the id
  pub id-missing : (id : MachineId) (es : List (Numbered A)) → AreSerials es → find (has_number id.serial) es ≡ None → find (has_id id) (doors_of_numbered es) ≡ None
  id-missing id [] are none = refl
  id-missing id (e ∷ es) are none = elim (cases_Bool (nat_eq id.serial e.0)) [
    | inl here ↦ let some = rw here at none in cc
    | inr apart ↦ rw (id-elsewhere id e are.0 apart) (id-missing id es are.1 (rw apart at none))
  ]

  -- nor where all numbers are beyond it
  beyond : (from : ℕ) (id : MachineId) (es : List (Numbered A)) → AreSerials es → DoRise from es → id.serial < from → find (has_id id) (doors_of_numbered es) ≡ None
  beyond from id [] are rise less = refl
  beyond from id (e ∷ es) are rise less =
      let further : id.serial < suc e.0 = omega (arith, less, rise.0) in
      rw (id-elsewhere id e are.0 (other_number id.serial e.0 (omega (arith, less, rise.0)))) (beyond (suc e.0) id es are.1 rise.1 further)

  -- and none has it either where the door of the serial has another place in the table
  pub id-apart : (from : ℕ) (id : MachineId) (es : List (Numbered A)) (place : ℕ) (d : NamedDoor) → AreSerials es → DoRise from es → IsFirst (has_number id.serial) es place
      → (get_or (doors_of_numbered es) place d).machine.id.slot ≢ id.slot → find (has_id id) (doors_of_numbered es) ≡ None
  id-apart from id [] place d are rise first apart = refl
  id-apart from id (e ∷ es) zero d are rise first apart =
      let here : id.serial ≡ e.0 = eqb-true id.serial e.0 first in
      let other : nat_eq id.slot e.1.1.machine.id.slot ≡ false = other_number id.slot e.1.1.machine.id.slot (λ same. apart (sym same)) in
      let further : id.serial < suc e.0 = omega (arith, here) in
      rw other (beyond (suc e.0) id es are.1 rise.1 further)
  id-apart from id (e ∷ es) (suc place) d are rise first apart =
      rw (id-elsewhere id e are.0 first.0) (id-apart (suc e.0) id es place d are.1 rise.1 first.1 apart)
