-- The first element that passes a test, and facts under a result.
use Rattle.std.proofs.Common.{◌≡◌, ℕ, zero, suc, ◌<◌, Bool, List, [], ◌∷◌, length, get_or, set, map, Option, Some, None, Result, Ok, Err, IfOk, OnOk, OnErr, IfSome, IfNone, refl, ap, arith}
use Rattle.std.specs.List.{find}
use Rattle.st_doors.specs.Doors.{IsFirst, change_first}

-- ---- the first element that passes
pub IsFirst-found : {X : Type 0} (test : X → Bool) (xs : List X) (place : ℕ) (d : X) → IsFirst test xs place → find test xs ≡ Some (get_or xs place d)
IsFirst-found test [] place d h = absurd h
IsFirst-found test (x ∷ xs) zero d h = rw h refl
IsFirst-found test (x ∷ xs) (suc place) d h = rw h.0 (IsFirst-found test xs place d h.1)

pub IsFirst-changed : {X : Type 0} (test : X → Bool) (change : X → X) (xs : List X) (place : ℕ) (d : X) → IsFirst test xs place → change_first test change xs ≡ set xs place (change (get_or xs place d))
IsFirst-changed test change [] place d h = absurd h
IsFirst-changed test change (x ∷ xs) zero d h = rw h refl
IsFirst-changed test change (x ∷ xs) (suc place) d h = rw h.0 (ap (λ t. x ∷ t) (IsFirst-changed test change xs place d h.1))

pub IsFirst-within : {X : Type 0} (test : X → Bool) (xs : List X) (place : ℕ) → IsFirst test xs place → place < length xs
IsFirst-within test [] place h = absurd h
IsFirst-within test (x ∷ xs) zero h = omega arith
IsFirst-within test (x ∷ xs) (suc place) h = let rest : place < length xs = IsFirst-within test xs place h.1 in omega arith

pub IsFirst-map : {X Y : Type 0} (f : X → Y) (test : Y → Bool) (xs : List X) (place : ℕ) → IsFirst (λ x. test (f x)) xs place → IsFirst test (map f xs) place
IsFirst-map f test [] place h = h
IsFirst-map f test (x ∷ xs) zero h = h
IsFirst-map f test (x ∷ xs) (suc place) h = (h.0, IsFirst-map f test xs place h.1)

pub IsFirst-of_map : {X Y : Type 0} (f : X → Y) (test : Y → Bool) (xs : List X) (place : ℕ) → IsFirst test (map f xs) place → IsFirst (λ x. test (f x)) xs place
IsFirst-of_map f test [] place h = h
IsFirst-of_map f test (x ∷ xs) zero h = h
IsFirst-of_map f test (x ∷ xs) (suc place) h = (h.0, IsFirst-of_map f test xs place h.1)

-- ---- facts under a result
pub on_ok : {T E : Type 0} (P Q : Type 0) (r : Result T E) → (P → Q) → OnOk r P → OnOk r Q
on_ok P Q (Ok x) f h = f h
on_ok P Q (Err e) f h = h

pub on_err : {T E : Type 0} (P Q : Type 0) (r : Result T E) → (P → Q) → OnErr r P → OnErr r Q
on_err P Q (Ok x) f h = h
on_err P Q (Err e) f h = f h

pub if_ok : {T E : Type 0} (P Q : T → Type 0) (r : Result T E) → ((x : T) → P x → Q x) → IfOk r P → IfOk r Q
if_ok P Q (Ok x) f h = f x h
if_ok P Q (Err e) f h = h

pub if_some : {T : Type 0} (Q : T → Type 0) (o : Option T) → ((x : T) → o ≡ Some x → Q x) → IfSome o Q
if_some Q (Some x) f = f x refl
if_some Q None f = tt

pub if_none : {T : Type 0} (Q : Type 0) (o : Option T) → (o ≡ None → Q) → IfNone o Q
if_none Q (Some x) f = tt
if_none Q None f = f refl

pub ok_always : {T E : Type 0} (P : Type 0) (r : Result T E) → P → OnOk r P
ok_always P (Ok x) h = h
ok_always P (Err e) h = tt

pub err_always : {T E : Type 0} (P : Type 0) (r : Result T E) → P → OnErr r P
err_always P (Ok x) h = tt
err_always P (Err e) h = h

pub when_none : {T : Type 0} (P : Type 0) (o : Option T) → o ≡ None → IfNone o P → P
when_none P o none h = rw none at h

pub when_some : {T : Type 0} (P : T → Type 0) (o : Option T) (x : T) → o ≡ Some x → IfSome o P → P x
when_some P o x some h = rw some at h
