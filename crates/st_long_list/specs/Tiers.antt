-- The tiers of a long list: each has 512 elements, but the last that has any.
use Rattle.std.specs.Prelude.{◌≡◌, ℕ, ◌+◌, ◌-◌, ◌*◌, ◌<◌, ◌≤◌, min, List, length, map, flat_map, get_or, set}
use Rattle.std.specs.VecDeque.{deque_capacity}
use Rattle.std_alloc.specs.declared.vec.deque.VecDeque.{VecDeque}

module _ {V Z : Type 0} where
  -- the elements of the tiers, in order
  abbrev pub items_of : List (VecDeque V Z) → List V
  items_of tiers = flat_map (λ (tier : VecDeque V Z). tier.items) tiers

  -- how many elements each tier has
  abbrev pub lengths_of : List (VecDeque V Z) → List ℕ
  lengths_of tiers = map (λ (tier : VecDeque V Z). length tier.items) tiers

  -- for how many each tier has memory
  abbrev pub rooms_of : List (VecDeque V Z) → List ℕ
  rooms_of tiers = map (λ (tier : VecDeque V Z). deque_capacity tier) tiers

-- so many of some places lie in a tier
abbrev pub share : ℕ → ℕ → ℕ
share places tier = min 512 (places - 512 * tier)

-- the tiers have so many elements, from the first on
abbrev pub ArePacked : ℕ → List ℕ → Type 0
ArePacked count lengths = (tier : ℕ) → get_or lengths tier 0 ≡ share count tier

-- the tiers have memory for so many elements
abbrev pub HaveRoom : ℕ → List ℕ → Type 0
HaveRoom count rooms = (tier : ℕ) → share count tier ≤ get_or rooms tier 0

-- so many elements lie in one place more, which is free in one tier
pub record HaveGap (count gap : ℕ) (lengths : List ℕ) : Type 0 where
  pub before : (tier : ℕ) → tier < gap → get_or lengths tier 0 ≡ share count tier
  pub at : get_or lengths gap 0 + 1 ≡ share (count + 1) gap
  pub behind : (tier : ℕ) → gap < tier → get_or lengths tier 0 ≡ share (count + 1) tier

-- of two lists of numbers, each tier has the same in both; tiers past the end have none
abbrev pub AreSame : List ℕ → List ℕ → Type 0
AreSame old new = (tier : ℕ) → get_or new tier 0 ≡ get_or old tier 0

-- of two lists of numbers, each tier has no less in the second
abbrev pub AreNoLess : List ℕ → List ℕ → Type 0
AreNoLess old new = (tier : ℕ) → get_or old tier 0 ≤ get_or new tier 0

-- one element passed from a tier to the next
abbrev pub passed_up : List ℕ → ℕ → List ℕ
passed_up lengths tier = set (set lengths tier (get_or lengths tier 0 - 1)) (tier + 1) (get_or lengths (tier + 1) 0 + 1)

-- one element passed to a tier from the next
abbrev pub passed_down : List ℕ → ℕ → List ℕ
passed_down lengths tier = set (set lengths (tier + 1) (get_or lengths (tier + 1) 0 - 1)) tier (get_or lengths tier 0 + 1)

-- what is kept of a long list of so many elements and places
pub record IsTiered {V Z : Type 0} (tiers : List (VecDeque V Z)) (count places : ℕ) : Type 0 where
  pub packed : ArePacked count (lengths_of tiers)
  pub room : HaveRoom places (rooms_of tiers)
  pub within : count ≤ places
