-- What a `&` to a chain shows. Assumes `Logic`.
--     chain_Seen                  [`head`; `tail`; `count`; the first element]
--     pointer_in, pointer_out, number_in, number_out     a word is opened, and shut
use mathlib.Core.Path.{refl}
use Prim.Native.Nat.{ℕ, ◌+◌, ◌<◌, ◌^◌}
use mathlib.Core.List.{List, [], ◌∷◌}
use seplogic.Ra.Ura.{Ura}
use mir.Syntax.{w64, ty_int, ty_ptr}
use mir.Val.{Val, vint}
use base.Fml.{Lft, Share, fat, flft}
use types.Logic.{Logic}
use types.Kit.{Item, Goal, Seq, Step, Soaks, step, ‵, ◌$◌, move, drop, rewrite, fsplit, fsplit3, fjoin, feq_l, feq_i, flt_l, flt_i}
use denote.Builtin.{usize}
use denote.Memory.{cell_at, part_at, hidden_shr}
use denote.Copied.{plain_Copied, uint_Copied}
use denote.RawPtr.{Ptr, RawPtr, coded_ptr, ptr_own, rawptr_pure, ptr_val}
use denote.Struct.Laws.{RawPtr-laws}
use denote.Opens.{Shut, unhide, hide}
use denote.Steps.{looks, shuts}
use Rattle.std_alloc.proofs.BoxSteps.Form.{Bx, R}
use Rattle.st_queue.specs.Ownership.{first_lent}
use Rattle.st_queue.proofs.NodeSteps.{D, Nr}

module _ (E : Bx) {M : Type 1} {𝓤 : Ura M} {𝓛 : Logic 𝓤} {K : Type 0} {Γ : List (Item 𝓤)} {G : Goal 𝓤 𝓛.H} where
  pub chain_Seen : K → {κ : Lft} (d : D E) (b o : ℕ)
      → Step K 𝓛 (‵ (hidden_shr RawPtr κ d.head b (o + 0)) ∷ ‵ (hidden_shr RawPtr κ d.tail b (o + 8)) ∷ ‵ (hidden_shr usize κ d.count b (o + 16))
      ∷ ‵ (first_lent (R E) d.blocks d.items κ) ∷ Γ) G (‵ (hidden_shr (Nr E) κ d b o) ∷ Γ) G
  chain_Seen t d b o = step (λ s.
      unhide t $ fsplit t $ fsplit t $ move t (1 ∷ []) $ drop t $ fsplit3 t $ move t (2 ∷ []) $ fsplit t $ move t (1 ∷ []) $ drop t $
      hide t $ move t (2 ∷ []) $ hide t $ move t (2 ∷ []) $ hide t $ s)

module _ {M : Type 1} {𝓤 : Ura M} {𝓛 : Logic 𝓤} {K : Type 0} {Γ : List (Item 𝓤)} {G : Goal 𝓤 𝓛.H} where
  pub pointer_in : K → Soaks G → {κ : Lft} {q : Share} (p : Ptr) (b at : ℕ)
      → ((part : Share) → Seq K 𝓛 (‵ (fat part ty_ptr b at (ptr_val p)) ∷ Shut 𝓛 κ q (part_at RawPtr part p b at) ∷ Γ) G) → Seq K 𝓛 (‵ (hidden_shr RawPtr κ p b at) ∷ ‵ (flft κ q) ∷ Γ) G
  pointer_in t z p b at k =
      looks t z RawPtr (plain_Copied 𝓛 Ptr coded_ptr (ty_ptr ∷ []) ptr_own rawptr_pure ptr_val RawPtr-laws.tells).opens p b at (λ part vs. move t (1 ∷ []) $ feq_l t (λ e.
      rewrite t 0 (λ (us : List Val). ‵ (cell_at part RawPtr.mir us b at)) e refl $ move t (2 ∷ []) $ drop t $ k part))

  pub pointer_out : K → Soaks G → {κ : Lft} {q part : Share} (p : Ptr) (b at : ℕ)
      → Step K 𝓛 (‵ (flft κ q) ∷ Γ) G (‵ (fat part ty_ptr b at (ptr_val p)) ∷ Shut 𝓛 κ q (part_at RawPtr part p b at) ∷ Γ) G
  pointer_out t z {part = part} p b at = step (λ s.
      feq_i t (List Val) (ptr_val p ∷ []) (ptr_val p ∷ []) refl $ move t (1 ∷ 0 ∷ []) $ shuts t z RawPtr part p (ptr_val p ∷ []) b at $ s)

  pub number_in : K → Soaks G → {κ : Lft} {q : Share} (n b at : ℕ)
      → ((part : Share) → Seq K 𝓛 (‵ (fat part (ty_int w64) b at (vint w64 n)) ∷ Shut 𝓛 κ q (part_at usize part n b at) ∷ Γ) G) → Seq K 𝓛 (‵ (hidden_shr usize κ n b at) ∷ ‵ (flft κ q) ∷ Γ) G
  number_in t z n b at k =
      looks t z usize (uint_Copied 𝓛 w64).opens n b at (λ part vs. move t (1 ∷ []) $ fsplit t $ feq_l t (λ e. flt_l t (λ fn.
      rewrite t 0 (λ (us : List Val). ‵ (cell_at part usize.mir us b at)) e refl $ move t (2 ∷ []) $ drop t $ k part)))

  pub number_out : K → Soaks G → {κ : Lft} {q part : Share} (n b at : ℕ) → n < 2 ^ 64
      → Step K 𝓛 (‵ (flft κ q) ∷ Γ) G (‵ (fat part (ty_int w64) b at (vint w64 n)) ∷ Shut 𝓛 κ q (part_at usize part n b at) ∷ Γ) G
  number_out t z {part = part} n b at fn = step (λ s.
      flt_i t n (2 ^ 64) fn $ feq_i t (List Val) (vint w64 n ∷ []) (vint w64 n ∷ []) refl $ fjoin t $ move t (1 ∷ 0 ∷ []) $ shuts t z usize part n (vint w64 n ∷ []) b at $ s)
