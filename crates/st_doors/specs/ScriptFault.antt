-- What a fault of a script says of its reads and its writes.
use Rattle.std.specs.Prelude.{ℕ, ◌+◌}
use Rattle.st_doors.specs.declared.input.InputFault.{InputFault}
use Rattle.st_doors.specs.declared.input.InputFault.TheVariants as input
use Rattle.st_doors.specs.declared.script_fault.ScriptFault.{ScriptFault}
use Rattle.st_doors.specs.declared.script_fault.ScriptFault.TheVariants.{Read, TooLong, Write, Memory}

-- what a fault of the input is to the script
abbrev pub fault_of : InputFault → ScriptFault
fault_of input.Read = Read
fault_of input.TooLong = TooLong
fault_of input.Memory = Memory

-- the input could not be had
abbrev pub IsOfInput : ScriptFault → Type 0
IsOfInput Read = Unit {0}
IsOfInput TooLong = Unit {0}
IsOfInput Write = ⊥
IsOfInput Memory = ⊥

-- how many reads have failed after a fault: one more at a fault of reading, else as many as before
abbrev pub read_failures_after : ScriptFault → ℕ → ℕ
read_failures_after Read failures = failures + 1
read_failures_after TooLong failures = failures
read_failures_after Write failures = failures
read_failures_after Memory failures = failures

-- how many writes have failed after a fault: one more at a fault of writing, else as many as before
abbrev pub write_failures_after : ScriptFault → ℕ → ℕ
write_failures_after Read failures = failures
write_failures_after TooLong failures = failures
write_failures_after Write failures = failures + 1
write_failures_after Memory failures = failures
