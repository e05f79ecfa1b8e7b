use Rattle.std.proofs.Common.{Bool, ap, sym, if◌then◌else◌}
use Rattle.st_doors.specs.Lines.{lines}
use Rattle.st_door.specs.Script.{first_script_state}
use Rattle.st_door.specs.declared.mode.Mode.TheVariants.{Trace}
use Rattle.st_door.proofs.ForgettingLemmas.{faulty}
use Rattle.st_door.proofs.laws.each_mode_has_the_same_status.Goals as goal

pub returns : goal.returns
returns c input = ap (λ (fault : Bool). if fault then 1 else 0) (sym (faulty (first_script_state Trace) (lines input)))
