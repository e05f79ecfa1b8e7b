use Rattle.std.proofs.Common.{◌≡◌, ◌∷◌, ◌++◌, take, flat_map, codes, string_bytes}
use Rattle.st_doors.specs.Doors.{NamedDoor}
use Rattle.st_doors.specs.Lines.{space}
use Rattle.st_doors.proofs.doors.Doors.names.Given as goal

abbrev pub invariant-loop-place : goal.invariant-loop-place
invariant-loop-place l =
    string_bytes l.text ≡ codes "names" ++ flat_map (λ (door : NamedDoor). space ∷ door.name) (take l.place l.self)
