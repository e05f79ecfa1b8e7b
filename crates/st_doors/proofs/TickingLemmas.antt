-- Every door is ticked, one after another.
use Rattle.std.proofs.Common.{◌≡◌, ℕ, zero, suc, ◌+◌, ◌<◌, ◌∙◌, List, [], ◌∷◌, length, get_or, set, map, refl, ap, sym, arith}
use Rattle.std.specs.List.{sum_by}
use Rattle.std.proofs.lemmas.List.Sums.{sum_by-cons}
use Rattle.st_answers.specs.declared.command.Command.TheVariants as command
use Rattle.st_doors.specs.Doors.{NamedDoor, SameLabels, told_door, ticked_doors, expired_of, all_expired_of}
use Rattle.st_doors.proofs.ToldLemmas.{id-told}

-- so many elements from the front are changed
abbrev pub changed_front : {X : Type 0} → (X → X) → ℕ → List X → List X
changed_front change zero xs = xs
changed_front change (suc more) [] = []
changed_front change (suc more) (x ∷ xs) = change x ∷ changed_front change more xs

-- the sum over so many elements from the front
abbrev pub front_sum : {X : Type 0} → (X → ℕ) → ℕ → List X → ℕ
front_sum count zero xs = 0
front_sum count (suc more) [] = 0
front_sum count (suc more) (x ∷ xs) = count x + front_sum count more xs

module _ {X : Type 0} where
  -- the next element is as it was
  pub changed-next : (change : X → X) (place : ℕ) (xs : List X) (d : X) → get_or (changed_front change place xs) place d ≡ get_or xs place d
  changed-next change zero xs d = refl
  changed-next change (suc place) [] d = refl
  changed-next change (suc place) (x ∷ xs) d = changed-next change place xs d

  -- one element more is changed
  pub changed-more : (change : X → X) (place : ℕ) (xs : List X) (d : X) → place < length xs
      → set (changed_front change place xs) place (change (get_or xs place d)) ≡ changed_front change (suc place) xs
  changed-more change zero [] d less = absurd (omega arith)
  changed-more change zero (x ∷ xs) d less = refl
  changed-more change (suc place) [] d less = absurd (omega arith)
  changed-more change (suc place) (x ∷ xs) d less = ap (λ t. change x ∷ t) (changed-more change place xs d (omega arith))

  -- all are changed
  pub changed-all : (change : X → X) (xs : List X) → changed_front change (length xs) xs ≡ map change xs
  changed-all change [] = refl
  changed-all change (x ∷ xs) = ap (λ t. change x ∷ t) (changed-all change xs)

  pub length-changed : (change : X → X) (place : ℕ) (xs : List X) → length (changed_front change place xs) ≡ length xs
  length-changed change zero xs = refl
  length-changed change (suc place) [] = refl
  length-changed change (suc place) (x ∷ xs) = ap suc (length-changed change place xs)

  -- what a change keeps
  pub map-changed : {Y : Type 0} (f : X → Y) (change : X → X) (place : ℕ) (xs : List X) → ((x : X) → f (change x) ≡ f x)
      → map f (changed_front change place xs) ≡ map f xs
  map-changed f change zero xs same = refl
  map-changed f change (suc place) [] same = refl
  map-changed f change (suc place) (x ∷ xs) same = rw (same x, map-changed f change place xs same) refl

  -- the sum over one element more
  pub sum-more : (count : X → ℕ) (place : ℕ) (xs : List X) (d : X) → place < length xs
      → front_sum count place xs + count (get_or xs place d) ≡ front_sum count (suc place) xs
  sum-more count zero [] d less = absurd (omega arith)
  sum-more count zero (x ∷ xs) d less = omega arith
  sum-more count (suc place) [] d less = absurd (omega arith)
  sum-more count (suc place) (x ∷ xs) d less =
      let rest : front_sum count place xs + count (get_or xs place d) ≡ front_sum count (suc place) xs = sum-more count place xs d (omega arith) in
      rw (← rest) (omega arith)

  -- the sum over all
  pub sum-all : (count : X → ℕ) (xs : List X) → front_sum count (length xs) xs ≡ sum_by count xs
  sum-all count [] = refl
  sum-all count (x ∷ xs) = ap (λ (n : ℕ). count x + n) (sum-all count xs) ∙ sym (sum_by-cons count x xs)

suc-is-more : (n : ℕ) → suc n ≡ n + 1
suc-is-more n = omega arith

-- doors that were ticked have the labels that they had
pub labels-ticked : (moment place : ℕ) (doors : List NamedDoor) → SameLabels doors (changed_front (told_door (command.Tick moment)) place doors)
labels-ticked moment place doors = record {
  names = map-changed (λ (door : NamedDoor). door.name) (told_door (command.Tick moment)) place doors (λ door. refl);
  slots = map-changed (λ (door : NamedDoor). door.machine.id.slot) (told_door (command.Tick moment)) place doors (λ door. ap (λ id. id.slot) (id-told door.machine (command.Tick moment)));
}

module _ (moment place : ℕ) (old doors : List NamedDoor) where
  -- doors of which so many were ticked have the labels that they had
  pub labels-so_far : doors ≡ changed_front (told_door (command.Tick moment)) place old → SameLabels old doors
  labels-so_far ticked = rw ticked (labels-ticked moment place old)

  -- the next door is one of theirs
  pub within-so_far : doors ≡ changed_front (told_door (command.Tick moment)) place old → place < length old → place < length doors
  within-so_far ticked less = rw (ticked, length-changed (told_door (command.Tick moment)) place old) less

  -- one door more is ticked
  pub ticked-more : (after : List NamedDoor) (d : NamedDoor) → doors ≡ changed_front (told_door (command.Tick moment)) place old → place < length old
      → after ≡ set doors place (told_door (command.Tick moment) (get_or doors place d)) → after ≡ changed_front (told_door (command.Tick moment)) (place + 1) old
  ticked-more after d ticked less set_is =
      set_is
      ∙ (ap (λ (t : List NamedDoor). set t place (told_door (command.Tick moment) (get_or t place d))) ticked
      ∙ (ap (λ (door : NamedDoor). set (changed_front (told_door (command.Tick moment)) place old) place (told_door (command.Tick moment) door)) (changed-next (told_door (command.Tick moment)) place old d)
      ∙ (changed-more (told_door (command.Tick moment)) place old d less ∙ ap (λ (n : ℕ). changed_front (told_door (command.Tick moment)) n old) (suc-is-more place))))

  -- and its time-outs are counted
  pub expired-more : (expired count : ℕ) (d : NamedDoor) → doors ≡ changed_front (told_door (command.Tick moment)) place old → place < length old
      → expired ≡ front_sum (expired_of moment) place old → count ≡ expired_of moment (get_or doors place d)
      → expired + count ≡ front_sum (expired_of moment) (place + 1) old
  expired-more expired count d ticked less counted count_is =
      let same : count ≡ expired_of moment (get_or old place d) =
      count_is ∙ (ap (λ (t : List NamedDoor). expired_of moment (get_or t place d)) ticked ∙ ap (expired_of moment) (changed-next (told_door (command.Tick moment)) place old d)) in
      rw (counted, same) (sum-more (expired_of moment) place old d less ∙ ap (λ (n : ℕ). front_sum (expired_of moment) n old) (suc-is-more place))

-- all doors were ticked
pub ticked-all : (moment place : ℕ) (old doors : List NamedDoor) → doors ≡ changed_front (told_door (command.Tick moment)) place old → place ≡ length old
    → doors ≡ ticked_doors moment old
ticked-all moment place old doors ticked all = rw (ticked, all) (changed-all (told_door (command.Tick moment)) old)

-- and counted
pub expired-all : (moment place expired : ℕ) (old : List NamedDoor) → expired ≡ front_sum (expired_of moment) place old → place ≡ length old
    → expired ≡ all_expired_of moment old
expired-all moment place expired old counted all = rw (counted, all) (sum-all (expired_of moment) old)
