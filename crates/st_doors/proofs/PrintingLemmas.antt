-- How the line of the names grows by one name.
use Rattle.std.proofs.Common.{◌≡◌, ℕ, ◌+◌, ◌<◌, List, [], ◌∷◌, ◌++◌, length, get_or, take, append_assoc, append-nil}
use Rattle.std.proofs.lemmas.Grind.{flat_map-append}
use Rattle.std.proofs.lemmas.List.{take_more}
use Rattle.std.specs.List.{flat_map}
use Rattle.st_doors.specs.Doors.{NamedDoor}
use Rattle.st_doors.specs.Lines.{space}

pub names-more : (doors : List NamedDoor) (place : ℕ) (d : NamedDoor) (front before parted after name : List ℕ) → place < length doors
    → before ≡ front ++ flat_map (λ (door : NamedDoor). space ∷ door.name) (take place doors)
    → parted ≡ before ++ space ∷ [] → after ≡ parted ++ name → name ≡ (get_or doors place d).name
    → after ≡ front ++ flat_map (λ (door : NamedDoor). space ∷ door.name) (take (place + 1) doors)
names-more doors place d front before parted after name within b p a n =
    let more : take (place + 1) doors ≡ take place doors ++ get_or doors place d ∷ [] = take_more doors place d within in
    rw (a, p, b, n, more, flat_map-append) (simp (append_assoc, append-nil))
