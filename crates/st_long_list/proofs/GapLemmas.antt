-- How many elements the tiers have while a place is free in one of them.
use Rattle.std.proofs.Common.{◌≡◌, ℕ, ◌+◌, ◌-◌, ◌*◌, ◌/◌, ◌%◌, ◌<◌, ◌≤◌, List, length, map, get_or, set, inl, inr, refl, sym, ap, ◌∙◌, arith}
use Rattle.std.proofs.lemmas.List.{get_or_past, length-map, length-set, get_or-set_same, get_or-set_other}
use Rattle.std.proofs.lemmas.Bool.{cases_lt, cases_eq}
use Rattle.st_long_list.specs.Tiers.{share, passed_down, ArePacked, AreNoLess, HaveRoom, HaveGap}

-- a tier that has memory is there
pub tier_is_there : (places : ℕ) (rooms : List ℕ) (tier : ℕ) → HaveRoom places rooms → 512 * tier < places → tier < length rooms
tier_is_there places rooms tier room some =
    elim (cases_lt tier (length rooms)) [
      | inl within ↦ within
      | inr past ↦ (let none = get_or_past rooms tier 0 past in let here = room tier in absurd (omega arith))
    ]

pub tier_still_there : {T : Type 0} (size : T → ℕ) (start now : List T) (places tier : ℕ) → HaveRoom places (map size start) → map size now ≡ map size start → 512 * tier < places → tier < length now
tier_still_there size start now places tier room same some =
    let there = tier_is_there places (map size start) tier room some in
    let long = ap length same in
    omega (arith, length-map start size, length-map now size)

-- ---- an element that a tier takes from the next
module _ (ns : List ℕ) (tier : ℕ) (within : tier + 1 < length ns) where
  down_here : get_or (passed_down ns tier) tier 0 ≡ get_or ns tier 0 + 1
  down_here =
      get_or-set_same (set ns (tier + 1) (get_or ns (tier + 1) 0 - 1)) tier (get_or ns tier 0 + 1) 0
      (omega (arith, length-set ns (tier + 1) (get_or ns (tier + 1) 0 - 1)))

  down_next : get_or (passed_down ns tier) (tier + 1) 0 ≡ get_or ns (tier + 1) 0 - 1
  down_next =
      get_or-set_other (set ns (tier + 1) (get_or ns (tier + 1) 0 - 1)) tier (tier + 1) (get_or ns tier 0 + 1) 0 (λ e. omega arith)
      ∙ get_or-set_same ns (tier + 1) (get_or ns (tier + 1) 0 - 1) 0 within

  down_other : (other : ℕ) → (other ≡ tier → ⊥) → (other ≡ tier + 1 → ⊥) → get_or (passed_down ns tier) other 0 ≡ get_or ns other 0
  down_other other here next =
      get_or-set_other (set ns (tier + 1) (get_or ns (tier + 1) 0 - 1)) tier other (get_or ns tier 0 + 1) 0 here
      ∙ get_or-set_other ns (tier + 1) other (get_or ns (tier + 1) 0 - 1) 0 next

  pub gap_up : (count : ℕ) → 512 * (tier + 1) ≤ count → HaveGap count tier ns → HaveGap count (tier + 1) (passed_down ns tier)
  gap_up count behind gap = record {
    before = λ other below. elim (cases_eq other tier) [
      | inl here ↦ (let was = gap.at in let now = down_here in ap (λ k. get_or (passed_down ns tier) k 0) here ∙ (let is : get_or (passed_down ns tier) tier 0 ≡ share count tier = omega arith in is) ∙ ap (share count) (sym here))
      | inr apart ↦ down_other other apart (λ e. omega arith) ∙ gap.before other (omega arith)
    ];
    at = (let was = gap.behind (tier + 1) (omega arith) in let now = down_next in omega arith);
    behind = λ other above. down_other other (λ e. omega arith) (λ e. omega arith) ∙ gap.behind other (omega arith);
  }

-- ---- one tier that has another number
module _ (ns : List ℕ) (tier n : ℕ) (within : tier < length ns) where
  other_set : (other : ℕ) → (other ≡ tier → ⊥) → get_or (set ns tier n) other 0 ≡ get_or ns other 0
  other_set other apart = get_or-set_other ns tier other n 0 apart

  here_set : (other : ℕ) → other ≡ tier → get_or (set ns tier n) other 0 ≡ n
  here_set other same = ap (λ k. get_or (set ns tier n) k 0) same ∙ get_or-set_same ns tier n 0 within

  -- the free place is filled
  pub gap_filled : (count : ℕ) → 512 * tier ≤ count → n ≡ get_or ns tier 0 + 1 → HaveGap count tier ns → ArePacked (count + 1) (set ns tier n)
  gap_filled count small more gap other =
      elim (cases_eq other tier) [
        | inl same ↦ here_set other same ∙ more ∙ gap.at ∙ ap (share (count + 1)) (sym same)
        | inr apart ↦
            other_set other apart
            ∙ elim (cases_lt other tier) [
              | inl below ↦ (let was = gap.before other below in omega arith)
              | inr above ↦ (let was = gap.behind other (omega arith) in omega arith)
            ]
      ]

  -- a place is made free
  pub gap_made : (count : ℕ) → 512 * tier ≤ count → n + 1 ≡ get_or ns tier 0 → ArePacked (count + 1) ns → HaveGap count tier (set ns tier n)
  gap_made count small fewer packed = record {
    before = λ other below. (let was = packed other in let same = other_set other (λ e. omega arith) in omega arith);
    at = (let was = packed tier in let now = here_set tier refl in omega arith);
    behind = λ other above. other_set other (λ e. omega arith) ∙ packed other;
  }

  -- no tier has less
  pub no_less : get_or ns tier 0 ≤ n → AreNoLess ns (set ns tier n)
  no_less more other =
      elim (cases_eq other tier) [
        | inl same ↦ (let now = here_set other same in let was = ap (λ k. get_or ns k 0) same in omega arith)
        | inr apart ↦ (let now = other_set other apart in omega arith)
      ]

-- ---- memory
pub room_for_fewer : (more fewer : ℕ) (rooms : List ℕ) → fewer ≤ more → HaveRoom more rooms → HaveRoom fewer rooms
room_for_fewer more fewer rooms less room tier = let here = room tier in omega arith

pub room_kept : (places : ℕ) (old new : List ℕ) → HaveRoom places old → AreNoLess old new → HaveRoom places new
room_kept places old new room more tier = let had = room tier in let has = more tier in omega arith

pub tiers_reached : (places : ℕ) (rooms : List ℕ) → HaveRoom places rooms → places / 512 ≤ length rooms
tiers_reached places rooms room =
    elim (cases_lt 0 (places / 512)) [
      | inl some ↦ (let there = tier_is_there places rooms (places / 512 - 1) room (omega arith) in omega arith)
      | inr none ↦ omega arith
    ]

-- the free place is in the tier where a value is put, and has memory
pub place_fits : (count places place : ℕ) (ns rooms : List ℕ) → place ≤ count → count < places → HaveGap count (place / 512) ns → HaveRoom places rooms
    → (place % 512 ≤ get_or ns (place / 512) 0) × (get_or ns (place / 512) 0 < get_or rooms (place / 512) 0)
place_fits count places place ns rooms within some gap room =
    let here = gap.at in
    let memory = room (place / 512) in
    (omega arith, omega arith)

pub full_before : (count tier : ℕ) (ns : List ℕ) → 512 * tier ≤ count → HaveGap count tier ns → (other : ℕ) → other < tier → get_or ns other 0 ≡ 512
full_before count tier ns small gap other below = gap.before other below ∙ omega arith

pub packed_before : (count tier : ℕ) (ns : List ℕ) → 512 * tier ≤ count → ArePacked count ns → (other : ℕ) → other < tier → get_or ns other 0 ≡ 512
packed_before count tier ns small packed other below = packed other ∙ omega arith
