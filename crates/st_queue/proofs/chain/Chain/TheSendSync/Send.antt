use denote.RattleType.{RattleType}
use denote.Param.Send.{IsSend, Frees}
use Rattle.core.specs.declared.alloc.Allocator.{Ghosts}
use Rattle.st_queue.proofs.Crosses.{Chain-send}
use Rattle.st_queue.specs.contracts.chain.Chain.{the_row}

pub send : (T A : RattleType) (g : Ghosts A.Denot) → IsSend T → IsSend A → Frees g g.dealloc_token → IsSend (the_row T A g)
send = Chain-send
