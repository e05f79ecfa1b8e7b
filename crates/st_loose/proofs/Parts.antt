-- What a box in its parts owns, taken apart and put together. Assumes `Logic`.
--     two                           the machine value of a struct of two fields
--     fields_apart, fields_joined   a pointer and an allocator, in whatever struct: it owns [what the allocator owns]
--     Loose, loose_fits             the box in its parts as a row, and that its machine value has its type
--     Owned, owned_in_a_block       what a box owns beside its fields, and that it lies in a block
--     loose_apart, loose_joined     the box in its parts owns [what a box owns, at an address; what the allocator owns]
use Rattle.std.proofs.Common.{◌≡◌, ℕ, List, [], ◌∷◌, ◌++◌, refl, ap, ◌∙◌}
use mathlib.Core.Bool.{true, ◌&&◌}
use lib.Dec.{T}
use seplogic.Ra.Ura.{Ura}
use mir.Raw.{raw as bare}
use mir.Val.{Val, vptr, vstruct, vcons, vnil, of_list, has_ty, WT}
use base.Fml.{Fml}
use base.Logic.{never, fst∗}
use types.Logic.{Logic, sem}
use types.Kit.{Item, Goal, Seq, Step, step, ‵, ◌$◌, move, drop, fsplit, fjoin, fpick, fpack, feq_i, feq_l}
use denote.RattleType.{RattleType, Valss}
use denote.Builtin.{RawPtr}
use denote.Memory.{lone}
use denote.RawPtr.{Ptr, block_ptr, null_ptr, ptr_val, in_a_block}
use denote.Steps.{nothing}
use denote.Struct.Struct.{Shape, Struct, within}
use Rattle.core.proofs.alloc.Calls.{Al, Fits, α, token, handle_tells}
use Rattle.std.specs.Box.Ownership.{box_owns}
use Rattle.std_alloc.proofs.ResultValues.{and_tt}
use Rattle.st_loose.specs.contracts.loose_box.LooseBox as loose_box

abbrev pub two : Val → Val → Val
two v w = vstruct (vcons v (vcons w vnil))

-- ---- a pointer and an allocator: the fields of a box in its parts, and of the pair that `into_raw_with_allocator` gives
module _ (al : Al) where
  abbrev Fields : Shape
  Fields = record { name = []; args = []; types = []; fields = RawPtr ∷ al.row ∷ [] }

  module _ {M : Type 1} {𝓤 : Ura M} {𝓛 : Logic 𝓤} {K : Type 0} {Γ : List (Item 𝓤)} {G : Goal 𝓤 𝓛.H} where
    -- The pointer owns nothing, and is known by its value. The allocator is one machine value of its type,
    -- here h, which its value does not tell.
    pub fields_apart : K → (p : Ptr) (a : al.row.Denot) (vs : List Val)
        → ((h : Val) → vs ≡ two (ptr_val p) h ∷ [] → Fits al h → Seq K 𝓛 (‵ (al.row.own_val a (h ∷ [])) ∷ Γ) G)
        → Seq K 𝓛 (‵ ((Struct Fields).own_val (p, (a, tt)) vs) ∷ Γ) G
    fields_apart t p a vs k =
        fpick t (λ parts. fsplit t $ feq_l t (λ whole. fsplit t $ feq_l t (λ pointer. fsplit t $
        -- [the allocator; no further field]
        handle_tells al t a parts.1.0 (λ h allocator fits. move t (1 ∷ []) $ drop t $
        k h (whole ∙ (λ i. vstruct (of_list (pointer i ++ (allocator i ++ []))) ∷ [])) fits))))

    pub fields_joined : K → (p : Ptr) (a : al.row.Denot) (h : Val)
        → Step K 𝓛 (‵ ((Struct Fields).own_val (p, (a, tt)) (two (ptr_val p) h ∷ [])) ∷ Γ) G (‵ (al.row.own_val a (h ∷ [])) ∷ Γ) G
    fields_joined t p a h = step (λ rest. let word : List Val = two (ptr_val p) h ∷ [] in
        nothing t $ move t (1 ∷ 0 ∷ []) $ fjoin t $
        -- [the allocator, and no further field]
        feq_i t (List Val) (ptr_val p ∷ []) (ptr_val p ∷ []) refl $ fjoin t $ feq_i t (List Val) word word refl $ fjoin t $
        fpack t (Valss (RawPtr ∷ al.row ∷ [])) (within Fields (p, (a, tt)) word) (ptr_val p ∷ [], (h ∷ [], tt)) $ rest)

-- ---- the box in its parts, at a type of value and an allocator
module _ (R : RattleType) (al : Al) where
  abbrev pub Loose : RattleType
  Loose = loose_box.the_row R al.row al.g

  -- what a box owns: the value in its block, and the right to free that block
  abbrev pub Owned : al.row.Denot → Ptr → R.Denot → Fml
  Owned a p x = box_owns (token al a) R p x

  -- An address always fits its field, so that it is enough that the allocator fits.
  pub loose_fits : (b o : ℕ) (h : Val) → Fits al h → T (has_ty (α al) h && true) × WT (two (vptr b o) h)
  loose_fits b o h fits = (and_tt (has_ty (α al) h) fits.0, (tt, (fits.1, tt)))

  module _ {M : Type 1} {𝓤 : Ura M} {𝓛 : Logic 𝓤} {K : Type 0} {Γ : List (Item 𝓤)} {G : Goal 𝓤 𝓛.H} where
    -- Nothing lies at null, so what is owned lies in a block, and the pointer is an address there.
    pub owned_in_a_block : K → (a : al.row.Denot) (p : Ptr) (x : R.Denot)
        → ((b o : ℕ) → p ≡ block_ptr b o → Seq K 𝓛 (‵ (Owned a (block_ptr b o) x) ∷ Γ) G) → Seq K 𝓛 (‵ (Owned a p x) ∷ Γ) G
    owned_in_a_block t a p x = in_a_block t p (λ q. Owned a q x) (fst∗ 𝓤 (never 𝓤) (sem 𝓛 (token al a (bare (lone R.mir)) null_ptr)))

  module _ {M : Type 1} {𝓤 : Ura M} {𝓛 : Logic 𝓤} {K : Type 0} {Γ : List (Item 𝓤)} {G : Goal 𝓤 𝓛.H} where
    pub loose_apart : K → (l : Loose.Denot) (vs : List Val)
        → ((b o : ℕ) (h : Val) → l.at ≡ block_ptr b o → vs ≡ two (vptr b o) h ∷ [] → Fits al h
        → Seq K 𝓛 (‵ (Owned l.alloc (block_ptr b o) l.value) ∷ ‵ (al.row.own_val l.alloc (h ∷ [])) ∷ Γ) G)
        → Seq K 𝓛 (‵ (Loose.own_val l vs) ∷ Γ) G
    loose_apart t l vs k =
        -- [the fields; what a box owns]
        fsplit t $ fields_apart al t l.at l.alloc vs (λ h word fits.
        -- [the allocator; what a box owns]
        move t (1 ∷ []) $ owned_in_a_block t l.alloc l.at l.value (λ b o at.
        k b o h at (word ∙ ap (λ (p : Ptr). two (ptr_val p) h ∷ []) at) fits))

    pub loose_joined : K → (b o : ℕ) (h : Val) (a : al.row.Denot) (x : R.Denot)
        → Step K 𝓛 (‵ (Loose.own_val (record { at = block_ptr b o; alloc = a; value = x }) (two (vptr b o) h ∷ [])) ∷ Γ) G
        (‵ (Owned a (block_ptr b o) x) ∷ ‵ (al.row.own_val a (h ∷ [])) ∷ Γ) G
    loose_joined t b o h a x = step (λ rest.
        -- [the allocator; what a box owns], of which come [the fields; what a box owns]
        move t (1 ∷ 0 ∷ []) $ fields_joined al t (block_ptr b o) a h $ fjoin t $ rest)
