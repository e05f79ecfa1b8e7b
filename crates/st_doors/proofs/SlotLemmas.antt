-- Marks for the places in the table that doors take.
use Rattle.std.proofs.Common.{◌≡◌, ◌≢◌, ℕ, zero, suc, ◌+◌, ◌<◌, ◌≤◌, nat_eq, Bool, true, false, List, [], ◌∷◌, ◌++◌, length, length-append, set, refl, ap, sym, ◌∙◌, arith, inl, inr, if◌then◌else◌}
use Rattle.std.specs.List.{list_any}
use Rattle.std.proofs.lemmas.Bool.{cases_lt}
use Rattle.std.proofs.lemmas.Bool.Decides.{eqb_tells}
use Rattle.std.proofs.lemmas.List.{get_or-set_same, get_or-set_other}
use Rattle.st_events.proofs.ComparedLemmas.{same_number}
use Rattle.st_doors.specs.Doors.{least_from}
use Rattle.st_doors.specs.Slots.{occurrences, marks_set, is_marked, AreMarked, HaveSameMarks, IsLeastFree}

-- ---- places that are taken
-- a place that occurs is among them, and one that does not is not
any-occurs : (slot : ℕ) (slots : List ℕ) → 0 < occurrences slot slots → list_any (λ taken. nat_eq taken slot) slots ≡ true
any-occurs slot [] some = absurd (omega arith)
any-occurs slot (taken ∷ slots) some = elim (eqb_tells taken slot) [
  | inl same ↦ rw same.0 refl
  | inr other ↦ let rest = rw other.0 at some in rw other.0 (any-occurs slot slots (omega (arith, rest)))
]

none-occurs : (slot : ℕ) (slots : List ℕ) → occurrences slot slots ≡ 0 → list_any (λ taken. nat_eq taken slot) slots ≡ false
none-occurs slot [] none = refl
none-occurs slot (taken ∷ slots) none = elim (eqb_tells taken slot) [
  | inl same ↦ let one = rw same.0 at none in absurd (omega (arith, one))
  | inr other ↦ let rest = rw other.0 at none in rw other.0 (none-occurs slot slots (omega (arith, rest)))
]

module _ (marks : List Bool) (slots : List ℕ) (marked : AreMarked marks slots) where
  pub taken-found : (slot : ℕ) → is_marked marks slot ≡ true → list_any (λ taken. nat_eq taken slot) slots ≡ true
  taken-found slot is = any-occurs slot slots (let once : occurrences slot slots ≡ 1 = marked.once slot ∙ ap (λ (mark : Bool). if mark then 1 else 0) is in omega (arith, once))

  pub free-missed : (slot : ℕ) → is_marked marks slot ≡ false → list_any (λ taken. nat_eq taken slot) slots ≡ false
  free-missed slot is = none-occurs slot slots (marked.once slot ∙ ap (λ (mark : Bool). if mark then 1 else 0) is)

-- ---- the least free place
-- where all lower places are marked, there are as many marks
lower-marked : (marks : List Bool) (slot : ℕ) → slot ≤ length marks → ((taken : ℕ) → taken < slot → is_marked marks taken ≡ true) → slot ≤ marks_set marks
lower-marked [] slot within lower = within
lower-marked (mark ∷ marks) zero within lower = omega arith
lower-marked (mark ∷ marks) (suc slot) within lower =
    let here : mark ≡ true = lower zero (omega arith) in
    let rest : slot ≤ marks_set marks = lower-marked marks slot (omega arith) (λ taken less. lower (suc taken) (omega arith)) in
    rw here (omega (arith, rest))

least-found : (more from : ℕ) (slots : List ℕ) (slot : ℕ) → from ≤ slot → slot ≤ from + more
    → ((taken : ℕ) → from ≤ taken → taken < slot → list_any (λ other. nat_eq other taken) slots ≡ true)
    → list_any (λ other. nat_eq other slot) slots ≡ false → least_from more from slots ≡ slot
least-found zero from slots slot low high lower free = omega arith
least-found (suc more) from slots slot low high lower free = elim (cases_lt from slot) [
  | inl less ↦ rw (lower from (omega arith) less) (least-found more (from + 1) slots slot (omega arith) (omega arith) (λ taken above below. lower taken (omega arith) below) free)
  | inr here ↦
      let same : slot ≡ from = omega arith in
      rw (rw same at free) (sym same)
]

-- the least place that is not marked is the least free place
pub least-free : (marks : List Bool) (slots : List ℕ) (slot : ℕ) → AreMarked marks slots → IsLeastFree marks slot → least_from (length slots) 0 slots ≡ slot
least-free marks slots slot marked least =
    let few : slot ≤ marks_set marks = lower-marked marks slot (let within : slot < length marks = least.within in omega arith) least.lower in
    let all : marks_set marks ≡ length slots = marked.all in
    least-found (length slots) 0 slots slot (omega arith) (omega (arith, few, all))
    (λ taken above below. taken-found marks slots marked taken (least.lower taken below))
    (free-missed marks slots marked slot least.free)

-- ---- one mark more, and one less
is_marked-set : (marks : List Bool) (slot : ℕ) (mark : Bool) (other : ℕ) → slot < length marks
    → is_marked (set marks slot mark) other ≡ (if nat_eq slot other then mark else is_marked marks other)
is_marked-set marks slot mark other within = elim (eqb_tells slot other) [
  | inl same ↦ rw (same.0, ← same.1) (get_or-set_same marks slot mark false within)
  | inr differ ↦ let ne : slot ≢ other = differ.1 in rw differ.0 (get_or-set_other marks slot other mark false (λ same. ne (sym same)))
]

marks_set-taken : (marks : List Bool) (slot : ℕ) → slot < length marks → is_marked marks slot ≡ false → marks_set (set marks slot true) ≡ marks_set marks + 1
marks_set-taken [] slot within free = absurd (omega arith)
marks_set-taken (mark ∷ marks) zero within free = rw free (omega arith)
marks_set-taken (mark ∷ marks) (suc slot) within free =
    let rest : marks_set (set marks slot true) ≡ marks_set marks + 1 = marks_set-taken marks slot (omega arith) free in
    omega (arith, rest)

marks_set-freed : (marks : List Bool) (slot : ℕ) → slot < length marks → is_marked marks slot ≡ true → marks_set (set marks slot false) + 1 ≡ marks_set marks
marks_set-freed [] slot within taken = absurd (omega arith)
marks_set-freed (mark ∷ marks) zero within taken = rw taken (omega arith)
marks_set-freed (mark ∷ marks) (suc slot) within taken =
    let rest : marks_set (set marks slot false) + 1 ≡ marks_set marks = marks_set-freed marks slot (omega arith) taken in
    omega (arith, rest)

occurrences-last : (slot last : ℕ) (slots : List ℕ) → occurrences slot (slots ++ last ∷ []) ≡ occurrences slot slots + (if nat_eq last slot then 1 else 0)
occurrences-last slot last [] = omega arith
occurrences-last slot last (taken ∷ slots) =
    let rest : occurrences slot (slots ++ last ∷ []) ≡ occurrences slot slots + (if nat_eq last slot then 1 else 0) = occurrences-last slot last slots in
    omega (arith, rest)

-- the least free place is taken by a door that comes last
pub marked-taken : (marks : List Bool) (slots : List ℕ) (slot : ℕ) → AreMarked marks slots → slot < length marks → is_marked marks slot ≡ false
    → AreMarked (set marks slot true) (slots ++ slot ∷ [])
marked-taken marks slots slot marked within free = record {
  once = λ other. elim (eqb_tells slot other) [
    | inl same ↦
        let none : occurrences other slots ≡ (if is_marked marks other then 1 else 0) = marked.once other in
        let unmarked : is_marked marks other ≡ false = rw same.1 at free in
        rw (occurrences-last, is_marked-set, same.0, none, unmarked) refl
    | inr differ ↦ rw (occurrences-last, is_marked-set, differ.0, marked.once other) (omega arith)
  ];
  all =
      let more : marks_set (set marks slot true) ≡ marks_set marks + 1 = marks_set-taken marks slot within free in
      let all : marks_set marks ≡ length slots = marked.all in
      rw length-append (omega (arith, more, all));
}

-- a place that is marked has a mark
marked-within : (marks : List Bool) (slot : ℕ) → is_marked marks slot ≡ true → slot < length marks
marked-within [] slot is = cc
marked-within (mark ∷ marks) zero is = omega arith
marked-within (mark ∷ marks) (suc slot) is = let rest : slot < length marks = marked-within marks slot is in omega (arith, rest)

-- a place that occurs once more than no times is marked
marked-some : (mark : Bool) (more : ℕ) → more + 1 ≡ (if mark then 1 else 0) → (mark ≡ true) × (more ≡ 0)
marked-some true more same = (refl, omega (arith, same))
marked-some false more same = absurd (omega (arith, same))

-- a place that a door had is free once it is gone
module _ (marks : List Bool) (before after : List ℕ) (slot : ℕ) (marked : AreMarked marks before)
    (gone : (other : ℕ) → occurrences other before ≡ occurrences other after + (if nat_eq slot other then 1 else 0)) where
  was-there : (is_marked marks slot ≡ true) × (occurrences slot after ≡ 0)
  was-there = marked-some (is_marked marks slot) (occurrences slot after)
      (sym (gone slot ∙ ap (λ (same : Bool). occurrences slot after + (if same then 1 else 0)) (same_number slot)) ∙ marked.once slot)

  pub freed-within : slot < length marks
  freed-within = marked-within marks slot was-there.0

  pub marked-freed : length before ≡ length after + 1 → AreMarked (set marks slot false) after
  marked-freed fewer = record {
    once = λ other. elim (eqb_tells slot other) [
      | inl same ↦ rw (is_marked-set marks slot false other freed-within, same.0) (rw same.1 at was-there.1)
      | inr differ ↦
          let less : occurrences other before ≡ occurrences other after + 0 =
          gone other ∙ ap (λ (same : Bool). occurrences other after + (if same then 1 else 0)) differ.0 in
          let kept : occurrences other after ≡ occurrences other before = omega (arith, less) in
          rw (is_marked-set marks slot false other freed-within, differ.0) (kept ∙ marked.once other)
    ];
    all =
        let fewer-marks : marks_set (set marks slot false) + 1 ≡ marks_set marks = marks_set-freed marks slot freed-within was-there.0 in
        omega (arith, fewer-marks, marked.all, fewer);
  }

-- ---- a mark that is not set
is_marked-grown : (marks : List Bool) (slot : ℕ) → is_marked (marks ++ false ∷ []) slot ≡ is_marked marks slot
is_marked-grown [] zero = refl
is_marked-grown [] (suc slot) = refl
is_marked-grown (mark ∷ marks) zero = refl
is_marked-grown (mark ∷ marks) (suc slot) = is_marked-grown marks slot

marks_set-grown : (marks : List Bool) → marks_set (marks ++ false ∷ []) ≡ marks_set marks
marks_set-grown [] = refl
marks_set-grown (mark ∷ marks) = ap (λ (n : ℕ). (if mark then 1 else 0) + n) (marks_set-grown marks)

-- the same places are marked
pub marked-same : (old new : List Bool) (slots : List ℕ) → HaveSameMarks old new → AreMarked old slots → AreMarked new slots
marked-same old new slots (inl same) marked = rw same marked
marked-same old new slots (inr one) marked = rw one (record {
  once = λ slot. marked.once slot ∙ ap (λ (mark : Bool). if mark then 1 else 0) (sym (is_marked-grown old slot));
  all = marks_set-grown old ∙ marked.all;
})
