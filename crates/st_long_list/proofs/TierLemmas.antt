-- What the tiers of a long list are, joined, and what becomes of them where one is changed.
use Rattle.std.proofs.Common.{◌≡◌, ℕ, zero, suc, ◌+◌, ◌-◌, ◌*◌, ◌<◌, ◌≤◌, List, [], ◌∷◌, ◌++◌, length, map, get_or, set, take, drop, inl, inr, refl, sym, ap, ◌∙◌, arith, Option, Some, None, is_some, true, IfSome, IfNone, OnSome, slice_get, insert, remove, option_copied, option_to_list, flat_map}
use Rattle.std.specs.Borrow.{Bor}
use Rattle.std.specs.Slice.{IsItemAt}
use Rattle.std.proofs.lemmas.List.{length-append, append-nil, append_assoc, length-map, get_or_past, get_or-map, map-set, set-get_or, set_comm, get_or-set_same, get_or-set_other}
use Rattle.std.proofs.lemmas.List.Edits.{insert-append_left, insert-append_right, remove-append_left, remove-append_right}
use Rattle.std.proofs.lemmas.Option.{slice_get_past, slice_get_read, none-some, same_Some}
use Rattle.std.proofs.lemmas.Bool.{cases_lt, false≢true}
use Rattle.st_long_list.specs.Places.{Places, with_removed}
use Rattle.st_long_list.specs.Tiers.{share, ArePacked}

-- ---- one element of joined lists
got_left : {X : Type 0} (xs ys : List X) (place : ℕ) → place < length xs → slice_get (xs ++ ys) place ≡ slice_get xs place
got_left [] ys place within = absurd (omega arith)
got_left (x ∷ xs) ys zero within = refl
got_left (x ∷ xs) ys (suc place) within = got_left xs ys place (omega arith)

got_right : {X : Type 0} (xs ys : List X) (start place : ℕ) → length xs ≡ start → slice_get (xs ++ ys) (start + place) ≡ slice_get ys place
got_right [] ys start place long = let same : start + place ≡ place = omega arith in ap (slice_get ys) same
got_right (x ∷ xs) ys start place long =
    let next : start + place ≡ suc (length xs + place) = omega arith in
    ap (slice_get (x ∷ (xs ++ ys))) next ∙ got_right xs ys (length xs) place refl

-- what a read lends is what is there
pub lent_is_got : {X : Type 0} (xs : List X) (place : ℕ) (lent : Option (Bor X)) → IsItemAt xs place lent → option_copied lent ≡ slice_get xs place
lent_is_got xs place None item = sym (slice_get_past xs place item.3)
lent_is_got xs place (Some x) item = sym (slice_get_read xs (length xs) place x.now refl item.3.0 item.1)

-- ---- shares
share_next : (count tier : ℕ) → share count (suc tier) ≡ share (count - 512) tier
share_next count tier = omega arith

packed_rest : (count : ℕ) (n : ℕ) (ns : List ℕ) → ArePacked count (n ∷ ns) → ArePacked (count - 512) ns
packed_rest count n ns packed = λ tier. packed (suc tier) ∙ share_next count tier

-- the tiers before one are full
abbrev pub AreFull : ℕ → List ℕ → Type 0
AreFull tiers lengths = (tier : ℕ) → tier < tiers → get_or lengths tier 0 ≡ 512

module _ {T V : Type 0} (f : T → List V) where
  -- ---- how many elements there are
  pub length_of_items : (ts : List T) (count : ℕ) → ArePacked count (map (λ t. length (f t)) ts) → length (flat_map f ts) ≡ count
  length_of_items [] count packed = let none = packed 0 in omega arith
  length_of_items (t ∷ ts) count packed =
      let first = packed 0 in
      let rest = length_of_items ts (count - 512) (packed_rest count (length (f t)) (map (λ t. length (f t)) ts) packed) in
      omega (arith, length-append (f t) (flat_map f ts))

  length_of_front : (ts : List T) (tier : ℕ) → tier ≤ length ts → AreFull tier (map (λ t. length (f t)) ts) → length (flat_map f (take tier ts)) ≡ 512 * tier
  length_of_front ts zero within full = refl
  length_of_front [] (suc tier) within full = absurd (omega arith)
  length_of_front (t ∷ ts) (suc tier) within full =
      let first = full 0 (omega arith) in
      let rest = length_of_front ts tier (omega arith) (λ k below. full (suc k) (omega arith)) in
      omega (arith, length-append (f t) (flat_map f (take tier ts)))

  -- ---- one tier among the others
  split_at : (ts : List T) (tier : ℕ) (t : T) → tier < length ts → t ≡ get_or ts tier t → flat_map f ts ≡ flat_map f (take tier ts) ++ (f t ++ flat_map f (drop (suc tier) ts))
  split_at [] tier t within at = absurd (omega arith)
  split_at (u ∷ ts) zero t within at = ap (λ v. f v ++ flat_map f ts) (sym at)
  split_at (u ∷ ts) (suc tier) t within at =
      ap (λ vs. f u ++ vs) (split_at ts tier t (omega arith) at)
      ∙ sym (append_assoc (f u) (flat_map f (take tier ts)) (f t ++ flat_map f (drop (suc tier) ts)))

  split_set : (ts : List T) (tier : ℕ) (t : T) → tier < length ts → flat_map f (set ts tier t) ≡ flat_map f (take tier ts) ++ (f t ++ flat_map f (drop (suc tier) ts))
  split_set [] tier t within = absurd (omega arith)
  split_set (u ∷ ts) zero t within = refl
  split_set (u ∷ ts) (suc tier) t within =
      ap (λ vs. f u ++ vs) (split_set ts tier t (omega arith))
      ∙ sym (append_assoc (f u) (flat_map f (take tier ts)) (f t ++ flat_map f (drop (suc tier) ts)))

  -- what a place in one tier is among all the elements
  module _ (ts : List T) (tier : ℕ) (t : T) (within : tier < length ts) (at : t ≡ get_or ts tier t) (full : AreFull tier (map (λ t. length (f t)) ts)) where
    before : length (flat_map f (take tier ts)) ≡ 512 * tier
    before = length_of_front ts tier (omega arith) full

    got_within : (place : ℕ) → place < length (f t) → slice_get (flat_map f ts) (512 * tier + place) ≡ slice_get (f t) place
    got_within place small =
        ap (λ vs. slice_get vs (512 * tier + place)) (split_at ts tier t within at)
        ∙ got_right (flat_map f (take tier ts)) (f t ++ flat_map f (drop (suc tier) ts)) (512 * tier) place before
        ∙ got_left (f t) (flat_map f (drop (suc tier) ts)) place small

    pub inserted : (place whole : ℕ) (value : V) (u : T) → whole ≡ 512 * tier + place → place ≤ length (f t) → f u ≡ insert (f t) place value
        → flat_map f (set ts tier u) ≡ insert (flat_map f ts) whole value
    inserted place whole value u is small changed =
        let front = flat_map f (take tier ts) in
        let back = flat_map f (drop (suc tier) ts) in
        let left : whole - 512 * tier ≡ place = omega arith in
        split_set ts tier u within
        ∙ ap (λ vs. front ++ (vs ++ back)) changed
        ∙ ap (λ vs. front ++ vs) (sym (insert-append_left (f t) back place value small))
        ∙ ap (λ k. front ++ insert (f t ++ back) k value) (sym left)
        ∙ sym (insert-append_right front (f t ++ back) (512 * tier) whole value before (omega arith))
        ∙ ap (λ vs. insert vs whole value) (sym (split_at ts tier t within at))

    pub removed : (place whole : ℕ) (u : T) → whole ≡ 512 * tier + place → place < length (f t) → f u ≡ remove (f t) place
        → flat_map f (set ts tier u) ≡ remove (flat_map f ts) whole
    removed place whole u is small changed =
        let front = flat_map f (take tier ts) in
        let back = flat_map f (drop (suc tier) ts) in
        let left : whole - 512 * tier ≡ place = omega arith in
        split_set ts tier u within
        ∙ ap (λ vs. front ++ (vs ++ back)) changed
        ∙ ap (λ vs. front ++ vs) (sym (remove-append_left (f t) back place small))
        ∙ ap (λ k. front ++ remove (f t ++ back) k) (sym left)
        ∙ sym (remove-append_right front (f t ++ back) (512 * tier) whole before (omega arith))
        ∙ ap (λ vs. remove vs whole) (sym (split_at ts tier t within at))

  pub replaced : (ts : List T) (tier : ℕ) (t u : T) → tier < length ts → t ≡ get_or ts tier t → f u ≡ f t → flat_map f (set ts tier u) ≡ flat_map f ts
  replaced ts tier t u within at same =
      split_set ts tier u within
      ∙ ap (λ vs. flat_map f (take tier ts) ++ (vs ++ flat_map f (drop (suc tier) ts))) same
      ∙ sym (split_at ts tier t within at)

  -- ---- what is read at a place
  pub got_in : (ts : List T) (count tier place whole : ℕ) (t : T) → whole ≡ 512 * tier + place → place < 512 → tier < length ts → t ≡ get_or ts tier t
      → ArePacked count (map (λ t. length (f t)) ts) → slice_get (flat_map f ts) whole ≡ slice_get (f t) place
  got_in ts count tier place whole t is small within at packed =
      let long = length_of_items ts count packed in
      let share_is : length (f t) ≡ share count tier = ap (λ u. length (f u)) at ∙ sym (get_or-map (λ t. length (f t)) ts tier t 0 within) ∙ packed tier in
      elim (cases_lt whole count) [
        | inl inside ↦
            ap (slice_get (flat_map f ts)) is
            ∙ got_within ts tier t within at (λ k below. packed k ∙ (omega arith)) place (omega arith)
        | inr outside ↦ slice_get_past (flat_map f ts) whole (omega arith) ∙ sym (slice_get_past (f t) place (omega arith))
      ]

  pub got_past : (ts : List T) (count tier place whole : ℕ) → whole ≡ 512 * tier + place → length ts ≤ tier
      → ArePacked count (map (λ t. length (f t)) ts) → slice_get (flat_map f ts) whole ≡ None
  got_past ts count tier place whole is past packed =
      let long = length_of_items ts count packed in
      let none : get_or (map (λ t. length (f t)) ts) tier 0 ≡ 0 = get_or_past (map (λ t. length (f t)) ts) tier 0 (omega (arith, length-map ts (λ t. length (f t)))) in
      let share_is = packed tier in
      slice_get_past (flat_map f ts) whole (omega arith)

  -- ---- what passes from one tier to the next
  passed_on : (ts : List T) (tier : ℕ) (t u t' u' : T) → suc tier < length ts → t ≡ get_or ts tier t → u ≡ get_or ts (suc tier) u → f t' ++ f u' ≡ f t ++ f u
      → flat_map f (set (set ts tier t') (suc tier) u') ≡ flat_map f ts
  passed_on [] tier t u t' u' within at next same = absurd (omega arith)
  passed_on (s ∷ []) tier t u t' u' within at next same = absurd (omega arith)
  passed_on (s ∷ r ∷ ts) zero t u t' u' within at next same =
      sym (append_assoc (f t') (f u') (flat_map f ts))
      ∙ ap (λ vs. vs ++ flat_map f ts) (same ∙ ap (λ v. f v ++ f u) at ∙ ap (λ v. f s ++ f v) next)
      ∙ append_assoc (f s) (f r) (flat_map f ts)
  passed_on (s ∷ r ∷ ts) (suc tier) t u t' u' within at next same =
      ap (λ vs. f s ++ vs) (passed_on (r ∷ ts) tier t u t' u' (omega arith) at next same)

  pub passed : (ts : List T) (tier after : ℕ) (t u t' u' : T) → after ≡ tier + 1 → after < length ts → t ≡ get_or ts tier t → u ≡ get_or ts after u → f t' ++ f u' ≡ f t ++ f u
      → flat_map f (set (set ts tier t') after u') ≡ flat_map f ts
  passed ts tier after t u t' u' is within at next same =
      let suc_is : after ≡ suc tier = omega arith in
      rw suc_is (passed_on ts tier t u t' u' (rw suc_is at within) at (rw suc_is at next) same)

  pub passed_back : (ts : List T) (tier after : ℕ) (t u t' u' : T) → after ≡ tier + 1 → after < length ts → t ≡ get_or ts tier t → u ≡ get_or ts after u → f t' ++ f u' ≡ f t ++ f u
      → flat_map f (set (set ts after u') tier t') ≡ flat_map f ts
  passed_back ts tier after t u t' u' is within at next same =
      ap (flat_map f) (set_comm ts after tier u' t' (λ e. omega arith)) ∙ passed ts tier after t u t' u' is within at next same

-- an element leaves the back of one list for the front of the next
pub seam_moved : {V : Type 0} (front longer back whole : List V) (value : V) → whole ≡ front ++ value ∷ [] → longer ≡ value ∷ back → front ++ longer ≡ whole ++ back
seam_moved front longer back whole value taken given =
    ap (λ vs. front ++ vs) given ∙ sym (append_assoc front (value ∷ []) back) ∙ ap (λ vs. vs ++ back) (sym taken)

-- what a change of one tier leaves of another
pub beside : {T : Type 0} (ts : List T) (tier other : ℕ) (t u : T) → (other ≡ tier → ⊥) → u ≡ get_or (set ts tier t) other u → u ≡ get_or ts other u
beside ts tier other t u apart at = at ∙ get_or-set_other ts tier other t u apart

module _ {T : Type 0} (size : T → ℕ) where
  -- ---- a number that each tier has
  pub size_at : (ts : List T) (tier : ℕ) (t : T) → tier < length ts → t ≡ get_or ts tier t → get_or (map size ts) tier 0 ≡ size t
  size_at ts tier t within at = get_or-map size ts tier t 0 within ∙ ap size (sym at)

  pub sizes_set : (ts : List T) (one other n m : ℕ) (t u : T) → size t ≡ n → size u ≡ m → map size (set (set ts one t) other u) ≡ set (set (map size ts) one n) other m
  sizes_set ts one other n m t u first second =
      map-set size (set ts one t) other u
      ∙ ap (λ ns. set ns other (size u)) (map-set size ts one t)
      ∙ ap (λ k. set (set (map size ts) one k) other (size u)) first
      ∙ ap (λ k. set (set (map size ts) one n) other k) second

  pub sizes_same : (ts : List T) (one other : ℕ) (t u : T) → size t ≡ get_or (map size ts) one 0 → size u ≡ get_or (map size ts) other 0 → map size (set (set ts one t) other u) ≡ map size ts
  sizes_same ts one other t u first second =
      let ns = map size ts in
      sizes_set ts one other (get_or ns one 0) (get_or ns other 0) t u first second
      ∙ ap (λ ms. set ms other (get_or ns other 0)) (set-get_or ns one 0)
      ∙ set-get_or ns other 0

  pub size_set : (ts : List T) (one n : ℕ) (t : T) → size t ≡ n → map size (set ts one t) ≡ set (map size ts) one n
  size_set ts one n t is = map-set size ts one t ∙ ap (set (map size ts) one) is

  pub size_same : (ts : List T) (one : ℕ) (t : T) → size t ≡ get_or (map size ts) one 0 → map size (set ts one t) ≡ map size ts
  size_same ts one t is = size_set ts one (get_or (map size ts) one 0) t is ∙ set-get_or (map size ts) one 0

  pub size_here : (ts : List T) (tier : ℕ) (t : T) → tier < length ts → get_or (map size (set ts tier t)) tier 0 ≡ size t
  size_here ts tier t within =
      ap (λ ns. get_or ns tier 0) (map-set size ts tier t) ∙ get_or-set_same (map size ts) tier (size t) 0 (omega (arith, length-map ts size))

-- ---- what callers see
pub same_places : {V : Type 0} {items others : List V} {reserved ready : ℕ} → items ≡ others → reserved ≡ ready
    → ◌≡◌ {A = Places V} (record { items = items; reserved = reserved }) (record { items = others; reserved = ready })
same_places items reserved = λ i. record { items = items i; reserved = reserved i }

pub of_some : {X : Type 0} (taken : Option X) (Holds : Type 0) → is_some taken ≡ true → OnSome taken Holds → Holds
of_some (Some x) Holds some holds = holds
of_some None Holds some holds = absurd (false≢true some)

pub on_some : {X : Type 0} (taken : Option X) (Holds : Type 0) → Holds → OnSome taken Holds
on_some (Some x) Holds holds = holds
on_some None Holds holds = tt

pub not_none : {X : Type 0} (taken : Option X) (Holds : Type 0) → is_some taken ≡ true → IfNone taken Holds
not_none (Some x) Holds some = tt
not_none None Holds some = absurd (false≢true some)

pub taken_is_got : {X : Type 0} (xs : List X) (place : ℕ) (taken : Option X) → place < length xs → is_some taken ≡ true → IfSome taken (λ x. x ≡ get_or xs place x) → taken ≡ slice_get xs place
taken_is_got xs place (Some x) within some at = sym (slice_get_read xs (length xs) place x refl within at)
taken_is_got xs place None within some at = absurd (false≢true some)

last_removed : {X : Type 0} (xs : List X) (place : ℕ) (x : X) → length xs ≤ place + 1 → Some x ≡ slice_get xs place → xs ≡ remove xs place ++ x ∷ []
last_removed [] place x last at = absurd (none-some x (sym at))
last_removed (y ∷ []) zero x last at = ap (λ z. z ∷ []) (sym (same_Some x y at))
last_removed (y ∷ z ∷ zs) zero x last at = absurd (omega arith)
last_removed (y ∷ ys) (suc place) x last at = ap (λ zs. y ∷ zs) (last_removed ys place x (omega arith) at)

pub popped : {V : Type 0} (old new : Places V) (place : ℕ) (taken : Option V) → length old.items ≤ place + 1 → taken ≡ slice_get old.items place
    → OnSome taken (new ≡ with_removed old place) → IfNone taken (new ≡ old) → old.items ≡ new.items ++ option_to_list taken
popped {V = V} old new place (Some x) last at out unchanged =
    last_removed old.items place x last at ∙ ap (λ (p : Places V). p.items ++ x ∷ []) (sym out)
popped {V = V} old new place None last at out unchanged =
    sym (append-nil old.items) ∙ ap (λ (p : Places V). p.items ++ []) (sym unchanged)
