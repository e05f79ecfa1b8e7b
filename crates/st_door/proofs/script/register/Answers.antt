use Rattle.std.proofs.Common.{ℕ, List, [], ◌∷◌, ◌++◌, ap, ◌∙◌}
use Rattle.st_doors.specs.Doors.{KeptDoor, door_named}
use Rattle.st_doors.proofs.DoorLemmas.{on_ok}
use Rattle.st_door.proofs.script.register.Goals as goal

-- the name is free
pub push-requires : goal.push-requires
push-requires c = rw c.into_string.ensures c.requires

-- the door stands under it
pub returns-clause-pushed : goal.returns-clause-pushed
returns-clause-pushed c =
    on_ok _ _ c.push.result (λ pushed. pushed
    ∙ (ap (λ (name : List ℕ). c.args.doors.now ++ door_named name c.in_ok-door.door ∷ []) c.into_string.ensures
    ∙ ap (λ (door : KeptDoor). c.args.doors.now ++ door_named c.args.name door ∷ []) c.in_ok-door.ensures))
    c.push.ensures.pushed
