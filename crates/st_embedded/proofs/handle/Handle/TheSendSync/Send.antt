-- What a handle owns says the same to every thread.
use mir.Raw.{raw}
use base.Fraction.{full_share}
use base.Shift.{Keyless}
use denote.Memory.{lone}
use denote.RawPtr.{Ptr, block_ptr, null_ptr}
use denote.Param.Send.{IsSend, part_keyless}
use Rattle.std.specs.Prelude.{Option, None, Some}
use Rattle.std.proofs.Crossing.{frees}
use Rattle.st_embedded.specs.declared.machines.Machines.{Machines}
use Rattle.st_embedded.proofs.HandleForm.{H, I, the_global, heap}
use Rattle.st_embedded.proofs.machines.Machines.TheSendSync.{the_send}

heap_keyless : (p : Ptr) (x : Option Machines) → Keyless (heap p x)
heap_keyless p None = tt
heap_keyless null_ptr (Some y) = (tt, frees.frees the_global (raw (lone I.mir)) null_ptr)
heap_keyless (block_ptr b o) (Some y) = (part_keyless I the_send full_share y b o, frees.frees the_global (raw (lone I.mir)) (block_ptr b o))

pub send : IsSend H
send = record { owned = λ h vs. ((λ vss. (tt, (tt, tt))), heap_keyless h.at h.value); leaving = λ k d w. tt }
