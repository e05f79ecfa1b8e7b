-- What the nodes of a chain own and lend, at elements of the row R and an allocator of the row Z.
use Rattle.std.specs.Prelude.{ℕ, ◌+◌, List, [], ◌∷◌}
use base.Fraction.{full_share}
use base.Fml.{Lft, Fml, ftrue, ffalse, fsep, fwand}
use mir.Syntax.{Ty, ty_ptr, ty_struct, tcons, tnil}
use mir.Raw.{raw}
use prog.Memory.{size, align, up}
use denote.RattleType.{RattleType}
use denote.Memory.{lone}
use denote.Sharing.{nothing}
use denote.RawPtr.{Ptr, RawPtr, lies_at, room_for, ◌+ₚ◌}
use denote.Struct.Lending.{lent_at}
use Rattle.st_queue.specs.Links.{Link}

-- where the element lies in a node
abbrev pub elem_offset : RattleType → ℕ
elem_offset R = up (align (lone R.mir)) 8

-- ownership of a node's pointer
abbrev pub link_owns : Link → Fml
link_owns l = lies_at RawPtr full_share (l.0 +ₚ 0) l.1

module _ (R Z : RattleType) where
  -- the type of `Node`, as the machine sees it
  abbrev pub node_type : Ty
  node_type = ty_struct [] (tcons ty_ptr (tcons (raw (lone R.mir)) (tcons (raw (lone Z.mir)) tnil)))

  -- where the handle lies in a node
  abbrev pub heap_offset : ℕ
  heap_offset = up (align (lone Z.mir)) (elem_offset R + size (lone R.mir))

  -- the three fields, given back empty, make the whole block
  abbrev pub fields_rejoin : Ptr → Fml
  fields_rejoin p = fwand (fsep (room_for ty_ptr (p +ₚ 0)) (fsep (room_for (raw (lone R.mir)) (p +ₚ elem_offset R)) (room_for (raw (lone Z.mir)) (p +ₚ heap_offset)))) (room_for node_type p)

  module _ (holds : Z.Denot → Ty → Ptr → Fml) where
    -- what frees the block at p: the handle h in its field, and its right to the block
    abbrev pub frees : Ptr → Z.Denot → Fml
    frees p h = fsep (lies_at Z full_share (p +ₚ heap_offset) h) (fsep (holds h node_type p) (fields_rejoin p))

    -- a node with its element
    abbrev pub node_owns : Link × Z.Denot → R.Denot → Fml
    node_owns n x = fsep (lies_at R full_share (n.0.0 +ₚ elem_offset R) x) (fsep (link_owns n.0) (frees n.0.0 n.1))

    -- all nodes with their elements
    abbrev pub nodes_own : List (Link × Z.Denot) → List R.Denot → Fml
    nodes_own [] [] = ftrue
    nodes_own [] (x ∷ xs) = ffalse
    nodes_own (n ∷ ns) [] = ffalse
    nodes_own (n ∷ ns) (x ∷ xs) = fsep (node_owns n x) (nodes_own ns xs)

-- what a `&` to a chain holds beside its words: a `&` to the first element
abbrev pub first_lent : (R : RattleType) {H : Type 0} → List (Link × H) → List R.Denot → Lft → Fml
first_lent R [] xs = nothing
first_lent R (n ∷ ns) [] = nothing
first_lent R (n ∷ ns) (x ∷ xs) = lent_at R (n.0.0 +ₚ elem_offset R) x
