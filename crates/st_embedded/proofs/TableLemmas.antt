-- Machines in a map, of which one was told something.
--     wrote       what was written through a loan of the machine of a number is what that number names
--     same_back   where it is what it was, each number names what it named
use Rattle.std.proofs.Common.{◌≡◌, ◌==◌, ℕ, Bool, true, false, cond, Some, IsSome, nat_eq, refl, ap, ◌∙◌, subst}
use Rattle.std.proofs.lemmas.Bool.{eqb-true}
use Rattle.std.specs.HashMap.{HashMap, WritesThrough}
use Rattle.st_embedded.specs.Table.{machine_at, Puts, Same}

at_same : {X : Type 0} → (b : Bool) (x y : X) → (b ≡ true → x ≡ y) → cond b x y ≡ y
at_same true x y h = h refl
at_same false x y h = refl

module _ {K S : Type 0} where
  pub is_there : (m : HashMap ℕ K S) (number : ℕ) (k : K) → Some k ≡ machine_at m number → IsSome (machine_at m number)
  is_there m number k e = subst IsSome e refl

  pub wrote : (m n : HashMap ℕ K S) (number : ℕ) (k w : K) → Some k ≡ machine_at m number → WritesThrough nat_eq (nat_eq number) m w n → Puts m n number w
  wrote m n number k w e h = (h.3 (is_there m number k e)).0

  pub same_back : (m n : HashMap ℕ K S) (number : ℕ) (w : K) → Some w ≡ machine_at m number → Puts m n number w → Same m n
  same_back m n number w e puts other =
      puts other ∙ at_same (number == other) (Some w) (machine_at m other) (λ same. e ∙ ap (machine_at m) (eqb-true number other same))
