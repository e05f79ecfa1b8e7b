-- What a `Handle` owns, taken apart and put together. Assumes `Logic`.
--     word p           the machine value of a handle at p
--     handle_out, handle_in     the handle is its pointer, and what it owns beside that
--     either           what it owns: nothing at null, or the value and the right to free its block
--     tested           whoever may free the block may compare its pointer with null
--     Z, L             the allocator, and the box in its parts, as rows
use Rattle.std.proofs.Common.{◌≡◌, ℕ, List, [], ◌∷◌, ◌++◌, refl, subst}
use seplogic.Ra.Ura.{Ura}
use mir.Raw.{raw as bare}
use mir.Val.{Val, vstruct, vcons, vnil, of_list}
use base.Fraction.{full_share}
use base.Fml.{Fml}
use base.Logic.{ent, never, via, guard, guard_i, fst∗, snd∗}
use types.Logic.{Logic, sem}
use types.Kit.{Item, Goal, Seq, Step, step, ‵, ◌$◌, drop, fsplit, fjoin, fpick, fpack, feq_i, feq_l}
use contract.Monad.{fact_use}
use mir.Syntax.{impl, tnil, dnil}
use denote.RattleType.{RattleType, Valss}
use denote.Builtin.{RawPtr}
use denote.Memory.{lone}
use denote.RawPtr.{Ptr, Testable, block_ptr, null_ptr, ptr_val, lies_at, in_a_block}
use denote.Steps.{nothing}
use denote.Param.{layout}
use denote.Param.Laws.{Laws}
use denote.Struct.Struct.{within}
use denote.Struct.Owning.{shape}
use Rattle.core.proofs.alloc.Calls.{Al}
use Rattle.std.specs.Prelude.{Option, None, Some}
use Rattle.std.specs.declared.alloc.Global.{Global}
use Rattle.std.specs.contracts.alloc.Global as global
use Rattle.std.specs.contracts.impls.GlobalAllocator.TheImpl.{ghosts}
use Rattle.std.proofs.alloc.Global.TheLaws as global_laws
use Rattle.std.proofs.GlobalToken.{dealloc_token-Testable}
use Rattle.st_loose.proofs.Parts.{Loose}
use Rattle.std.specs.Box.Ownership.{box_owns}
use Rattle.st_embedded.specs.declared.handle.Handle.{Handle}
use Rattle.st_embedded.specs.declared.machines.Machines.{Machines}
use Rattle.st_embedded.specs.contracts.handle.Handle as handle
use Rattle.st_embedded.specs.contracts.machines.Machines as inner

abbrev pub word : Ptr → Val
word p = vstruct (vcons (ptr_val p) vnil)

abbrev pub H : RattleType
H = handle.the_row

abbrev pub I : RattleType
I = inner.the_row

abbrev pub Z : RattleType
Z = global.the_row

abbrev pub LZ : Laws Z
LZ = global_laws.the_row_laws

abbrev pub al : Al
al = record { row = Z; laws = LZ; g = ghosts; d = impl [] tnil dnil; drops = impl [] tnil dnil }

abbrev pub L : RattleType
L = Loose I al

abbrev pub the_global : Global
the_global = record { memory = record { seal = tt } }

abbrev pub boxed : Ptr → Machines → Fml
boxed p x = box_owns (ghosts.dealloc_token the_global) I p x

abbrev pub heap : Ptr → Option Machines → Fml
heap p x = handle.the_heap (record { at = p; value = x })

module _ {M : Type 1} {𝓤 : Ura M} {𝓛 : Logic 𝓤} {K : Type 0} {Γ : List (Item 𝓤)} {G : Goal 𝓤 𝓛.H} where
  pub handle_out : K → (d : Handle) (vs : List Val) → (vs ≡ word d.at ∷ [] → Seq K 𝓛 (‵ (heap d.at d.value) ∷ Γ) G) → Seq K 𝓛 (‵ (H.own_val d vs) ∷ Γ) G
  handle_out t d vs k =
      fsplit t $ fpick t (λ vss. fsplit t $ feq_l t (λ ev. fsplit t $ feq_l t (λ ep. drop t $
      k (subst (λ (ps : List Val). vs ≡ vstruct (of_list (ps ++ [])) ∷ []) ep ev))))

  pub handle_in : K → (p : Ptr) (x : Option Machines) → Step K 𝓛 (‵ (H.own_val (record { at = p; value = x }) (word p ∷ [])) ∷ Γ) G (‵ (heap p x) ∷ Γ) G
  handle_in t p x = step (λ s.
      nothing t $ feq_i t (List Val) (ptr_val p ∷ []) (ptr_val p ∷ []) refl $ fjoin t $ feq_i t (List Val) (word p ∷ []) (word p ∷ []) refl $ fjoin t $
      fpack t (Valss (RawPtr ∷ [])) (within (shape handle.the_type) (p, tt) (word p ∷ [])) (ptr_val p ∷ [], tt) $ fjoin t $ s)

  pub either : K → (p : Ptr) (x : Option Machines) → (p ≡ null_ptr → x ≡ None → Seq K 𝓛 Γ G)
      → ((b o : ℕ) (y : Machines) → p ≡ block_ptr b o → x ≡ Some y → Seq K 𝓛 (‵ (boxed (block_ptr b o) y) ∷ Γ) G)
      → Seq K 𝓛 (‵ (heap p x) ∷ Γ) G
  either t p None none one = feq_l t (λ e. none e refl)
  either t p (Some y) none one =
      in_a_block t p (λ q. boxed q y) (fst∗ 𝓤 (never 𝓤) (sem 𝓛 (ghosts.dealloc_token the_global (bare (layout I)) null_ptr))) (λ b o e. one b o y e refl)

module _ {M : Type 1} {𝓤 : Ura M} (𝓛 : Logic 𝓤) where
  pub tested : (a : Global) (p : Ptr) (x : Machines) → ent 𝓤 (sem 𝓛 (boxed p x)) (guard 𝓤 (Testable p) (sem 𝓛 (boxed p x)))
  tested a p x =
      fact_use 𝓤 (Testable p)
      (via 𝓤 _ (snd∗ 𝓤 (sem 𝓛 (lies_at I full_share p x)) (sem 𝓛 (ghosts.dealloc_token a (bare (lone I.mir)) p))) (dealloc_token-Testable 𝓛 a (bare (lone I.mir)) p))
      (guard_i 𝓤 (Testable p) (sem 𝓛 (boxed p x)))
