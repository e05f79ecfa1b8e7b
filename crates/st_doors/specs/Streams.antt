-- What a call that stops midway did to the known bytes, and to the count of failures.
use Rattle.std.specs.Prelude.{◌≡◌, ℕ, ◌+◌, ◌<◌, List, ◌++◌, length, Option}
use Rattle.std.specs.Io.KnownBytes.{Appends, Consumes}
use Rattle.st_doors.specs.declared.input.InputFault.{InputFault}
use Rattle.st_doors.specs.declared.input.InputFault.TheVariants.{Read, TooLong, Memory}

-- some front of the text was appended
abbrev pub AppendsFront : Option (List ℕ) → Option (List ℕ) → List ℕ → Type 0
AppendsFront old new text =
    (front : List ℕ) × (rest : List ℕ) × (text ≡ front ++ rest) × Appends old new front

-- more bytes than the limit were read
abbrev pub ConsumesMoreThan : Option (List ℕ) → Option (List ℕ) → ℕ → Type 0
ConsumesMoreThan old new limit = (bytes : List ℕ) × Consumes old new bytes × (limit < length bytes)

-- how many reads have failed after a fault: one more for a fault of reading, else as many as before
abbrev pub failures_after : InputFault → ℕ → ℕ
failures_after Read failures = failures + 1
failures_after TooLong failures = failures
failures_after Memory failures = failures
