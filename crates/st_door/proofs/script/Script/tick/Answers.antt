use Rattle.std.proofs.Common.{rules, ◌≡◌, ◌∙◌, sym}
use Rattle.st_doors.specs.Doors.{all_expired_of}
use Rattle.st_doors.proofs.LateDoorsLemmas.{kept-quiet}
use Rattle.st_door.proofs.script.Script.tick.Goals as goal

-- where no time-out expires those that rest do so still
pub invariant_of-self-then-expired-eq0 : goal.invariant_of-self-then-expired-eq0
invariant_of-self-then-expired-eq0 c =
    let zero : c.in_ok-expired.expired ≡ 0 = search rules in
    let none : all_expired_of c.args.moment c.self.inside.doors ≡ 0 = sym c.in_ok-expired.ensures.expired ∙ zero in
    rw c.in_ok-expired.ensures.ticked (kept-quiet c.args.moment c.self.inside.doors c.self.inside.slots c.self.inside.from c.self.inside.until c.self.invariant none)
