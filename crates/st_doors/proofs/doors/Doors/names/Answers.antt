use Rattle.std.proofs.Common.{◌<◌, length, ap, ◌∙◌, arith, codes}
use Rattle.st_doors.specs.Doors.{NamedDoor}
use Rattle.st_doors.proofs.PrintingLemmas.{names-more}
use Rattle.st_doors.proofs.IdleLemmas.{no_door}
use Rattle.st_doors.proofs.doors.Doors.names.Goals as goal

-- one more name stands in the line
pub loop-place-preserved : goal.loop-place-preserved
loop-place-preserved c =
    let within : c.loop-place.place < length c.args.self.now = omega arith in
    names-more c.args.self.now c.loop-place.place no_door (codes "names") _ _ _ _ within c.loop-place.invariant
    c.in_ok-push_str.ensures.bytes c.in_ok-push_str-2.ensures.bytes (c.as_str.ensures.value ∙ ap (λ (door : NamedDoor). door.name) (c.entry_at.ensures no_door))
