-- A `&` to a chain is made where one to an element is. Assumes `Logic`.
use mathlib.Core.List.{[], ◌++◌}
use base.Fml.{Incl-trans}
use contract.BorrowLft.{meet_⊑_left}
use denote.RattleType.{RattleType}
use denote.Param.Laws.{Laws}
use denote.Param.Shared.{copy_shared}
use denote.Struct.Field.{RawPtr-field, usize-field}
use denote.Struct.Laws.{RawPtr-copy, usize-copy}
use denote.Struct.Lending.{of_Lends}
use Rattle.core.specs.declared.alloc.Allocator.{Ghosts}
use Rattle.st_queue.specs.contracts.chain.Chain as C
use Rattle.st_queue.proofs.chain.Chain.TheLaw.Statement.{statement}
use Rattle.st_queue.proofs.Shared.{first_lent_laws, Lends-nodes}

pub shares : (R B : RattleType) (g : Ghosts B.Denot) (L : Laws R) (K : Laws B) → statement R B g L K
shares R B g L K = of_Lends (C.struct R B g) (C.the_codes R.Denot B.Denot R.coded B.coded) (C.the_heap R B g) (C.the_lent R B g)
    (λ d p. first_lent_laws R L.shr_laws d.blocks d.items) (copy_shared RawPtr-field RawPtr-copy, (copy_shared RawPtr-field RawPtr-copy, (copy_shared usize-field usize-copy, tt)))
    (λ M 𝓤 𝓛 d p.
    Lends-nodes 𝓛 (C.the_row R B g).lives R B g.dealloc_token L (Incl-trans (meet_⊑_left (R.lives ++ (B.lives ++ [])) _) (meet_⊑_left R.lives (B.lives ++ []))) d.blocks d.items)
