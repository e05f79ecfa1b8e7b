-- What the program's orders mean, and its status after a fault.
use Rattle.std.specs.Prelude.{ℕ, Option, Some, None}
use Rattle.st_door.specs.declared.mode.Mode.{Mode}
use Rattle.st_door.specs.declared.mode.Mode.TheVariants as mode
use Rattle.st_words.specs.declared.order.Order.{Order}
use Rattle.st_words.specs.declared.order.Order.TheVariants.{Run, Trace, Pool}
use Rattle.st_doors.specs.declared.script_fault.ScriptFault.{ScriptFault}
use Rattle.st_doors.specs.declared.script_fault.ScriptFault.TheVariants.{Read, TooLong, Write, Memory}

-- the mode in which an order runs a script whose output is proved: no workers are asked for
abbrev pub mode_of : Order → Option Mode
mode_of Run = Some mode.Run
mode_of Trace = Some mode.Trace
mode_of (Pool number) = None

-- the program's status after a fault: 3 where the input or the output is at fault, 4 where memory is
abbrev pub status_of : ScriptFault → ℕ
status_of Read = 3
status_of TooLong = 3
status_of Write = 3
status_of Memory = 4
