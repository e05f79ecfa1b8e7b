-- A `&` to a chain is made where one to an element is, and has the laws of what a `&` holds. Assumes `Logic`.
use mathlib.Core.List.{List, [], ◌∷◌}
use seplogic.Ra.Ura.{Ura}
use mir.Syntax.{Ty}
use base.Fml.{Lft, ftrue, ffalse, fsep, Fml, Incl}
use base.Fraction.{full_share}
use types.Logic.{Logic}
use denote.RattleType.{RattleType, RowLaws}
use denote.Param.Laws.{Laws}
use denote.RawPtr.{Ptr, lies_at, ◌+ₚ◌}
use denote.Sharing.{ShrLaws}
use denote.SharingLaws.{nothing_shr_laws}
use denote.Shares.{Shares-less}
use denote.Struct.Lending.{lent_at, lent_at_shr_laws, Lends-lies, Lends-first, Lends, Lends-nothing}
use Rattle.st_queue.specs.Links.{Link}
use Rattle.st_queue.specs.Ownership.{elem_offset, link_owns, frees, node_owns, nodes_own, first_lent}

pub first_lent_laws : (R : RattleType) (L : RowLaws R) {Z : Type 0} (ns : List (Link × Z)) (xs : List R.Denot) → ShrLaws (first_lent R ns xs)
first_lent_laws R L [] xs = nothing_shr_laws
first_lent_laws R L (n ∷ ns) [] = nothing_shr_laws
first_lent_laws R L (n ∷ ns) (x ∷ xs) = lent_at_shr_laws R L (n.0.0 +ₚ elem_offset R) x

module _ {M : Type 1} {𝓤 : Ura M} (𝓛 : Logic 𝓤) (l : Lft) (R Z : RattleType) (holds : Z.Denot → Ty → Ptr → Fml) (L : Laws R) (inc : Incl l R.lives) where
  pub Lends-nodes : (ns : List (Link × Z.Denot)) (xs : List R.Denot) → Lends 𝓛 (nodes_own R Z holds ns xs) (first_lent R ns xs) l
  Lends-nodes [] [] = Lends-nothing 𝓛 ftrue l
  Lends-nodes [] (x ∷ xs) = Lends-nothing 𝓛 ffalse l
  Lends-nodes (n ∷ ns) [] = Lends-nothing 𝓛 ffalse l
  Lends-nodes (n ∷ ns) (x ∷ xs) =
      let p = n.0.0 +ₚ elem_offset R in
      let t = lent_at R p x in
      Lends-first 𝓛 (node_owns R Z holds n x) (nodes_own R Z holds ns xs) t l
      (Lends-first 𝓛 (lies_at R full_share p x) (fsep (link_owns n.0) (frees R Z holds n.0.0 n.1)) t l (Lends-lies 𝓛 R l p x (Shares-less 𝓛 R R.lives l inc (L.shares 𝓛) x)))
