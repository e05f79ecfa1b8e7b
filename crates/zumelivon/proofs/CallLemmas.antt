-- Lemmas on what calls do to a table.
--     there         a machine is there, where that none is leads nowhere
--     ok_no_err     what was done was not refused
--     unlike        two numbers that are none
--     told, seen    what is behind a handle, where it is known what it was and is
use Rattle.std.proofs.Common.{◌≡◌, ◌==◌, ℕ, true, false, Option, Some, None, IsSome, Result, Ok, Err, refl, sym, ◌∙◌, subst}
use Rattle.std.proofs.lemmas.Bool.{eq-eqb}
use Rattle.st_embedded.specs.declared.machines.Machines.{Machines}
use Rattle.zumelivon.specs.Exports.{Seen, Told}

pub there : {X : Type 0} (o : Option X) → (o ≡ None → ⊥) → IsSome o
there None h = absurd (h refl)
there (Some x) h = refl

pub ok_no_err : {A E : Type 0} (a : A) (e : E) → ◌≡◌ {A = Result A E} (Ok a) (Err e) → ⊥
ok_no_err a e h = cc

not_both : true ≡ false → ⊥
not_both h = cc

pub unlike : (a b : ℕ) → (a == b) ≡ false → a ≡ b → ⊥
unlike a b differ same = not_both (sym (eq-eqb a b same) ∙ differ)

pub told : (How : Machines → Machines → Type 0) (old new : Option Machines) (before after : Machines) → Some before ≡ old → Some after ≡ new
    → How before after → Told old new How
told How old new before after was is how =
    subst (λ (o : Option Machines). Told o new How) was (subst (λ (n : Option Machines). Told (Some before) n How) is how)

pub seen : (So : Machines → Type 0) (old : Option Machines) (before : Machines) → Some before ≡ old → So before → Seen old So
seen So old before was so = subst (λ (o : Option Machines). Seen o So) was so
