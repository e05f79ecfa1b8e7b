-- A chain may cross threads as its elements and its allocator may.
use mathlib.Core.List.{List, [], ◌∷◌}
use mir.Syntax.{Ty}
use base.Fraction.{full_share}
use base.Shift.{Keyless}
use denote.Exit.{Exit, unchanged, leaves, hidden, under}
use denote.RattleType.{RattleType}
use denote.RawPtr.{Ptr, block_ptr, null_ptr, lies_at, room_for}
use denote.Builtin.{RawPtr, usize}
use denote.Struct.Struct.{exits_of}
use denote.Struct.Owning.{fields, to}
use denote.Param.Send.{IsSend, Quiet, AllSend, part_keyless, owning_send, struct_send, sendable}
use denote.Struct.Owning.{shape}
use Rattle.core.specs.declared.alloc.Allocator.{Ghosts}
use Rattle.std_alloc.proofs.SendSync.{FreesAnywhere}
use Rattle.st_queue.specs.Links.{Link}
use Rattle.st_queue.specs.Ownership.{nodes_own}
use Rattle.st_queue.specs.contracts.chain.Chain as Chain

quiet : {D X : Type 0} (f : D → X) (e : Exit X) → Quiet e → Quiet (hidden (under f e))
quiet f unchanged q = λ x w. tt
quiet f (leaves L l S s r₀) q = λ d. q (f d)

lies : (R : RattleType) → IsSend R → (p : Ptr) (x : R.Denot) → Keyless (lies_at R full_share p x)
lies R s (block_ptr b o) x = part_keyless R s full_share x b o
lies R s null_ptr x = tt

room : (τ : Ty) (p : Ptr) → Keyless (room_for τ p)
room τ (block_ptr b o) = tt
room τ null_ptr = tt

pointer_send : IsSend RawPtr
pointer_send = search sendable

number_send : IsSend usize
number_send = search sendable

module _ (R B : RattleType) (g : Ghosts B.Denot) (sr : IsSend R) (sb : IsSend B) (f : FreesAnywhere B.Denot g) where
  nodes-Keyless : (ns : List (Link × B.Denot)) (xs : List R.Denot) → Keyless (nodes_own R B g.dealloc_token ns xs)
  nodes-Keyless [] [] = tt
  nodes-Keyless [] (x ∷ xs) = tt
  nodes-Keyless (n ∷ ns) [] = tt
  nodes-Keyless (n ∷ ns) (x ∷ xs) = (
    (lies R sr _ x, (lies RawPtr pointer_send _ n.0.1, (lies B sb _ n.1, (f.frees n.1 _ n.0.0, ((room _ _, (room _ _, room _ _)), room _ n.0.0))))),
    nodes-Keyless ns xs,
  )

  pub Chain-send : IsSend (Chain.the_row R B g)
  Chain-send =
      let O = Chain.the_type R B g in
      let all : AllSend (fields O) = (pointer_send, (pointer_send, (number_send, tt))) in
      owning_send O all (λ d. nodes-Keyless d.blocks d.items) (λ k. quiet (to O) (exits_of k (fields O)) ((struct_send (shape O) all).leaving k))
