use Rattle.std.proofs.Common.{◌≡◌, ◌∙◌, sym, None, Some}
use Rattle.st_doors.specs.Numbers.{number_of}
use Rattle.st_doors.proofs.DoorLemmas.{if_some, if_none, when_some, when_none}
use Rattle.st_doors.proofs.NumberLemmas.{numbers-rise, numbered-place, number-missing, number-present}
use Rattle.st_doors.proofs.doors.Doors.place_of.Goals as goal

pub returns-in_err-number-clause-missing : goal.returns-in_err-number-clause-missing
returns-in_err-number-clause-missing c =
    let none : number_of c.args.name.now c.self.inside.entries ≡ None = sym (c.self.invariant.0 c.args.name.now) ∙ sym c.in_err-number.ensures in
    if_none _ c.from_residual.result (λ _. rw (← c.self.view_is) (number-missing c.args.name.now c.self.inside.entries none))

pub returns-clause-place : goal.returns-clause-place
returns-clause-place c =
    let entries = c.self.inside.entries in
    let found : number_of c.args.name.now entries ≡ Some c.in_ok-number.number = sym (c.self.invariant.0 c.args.name.now) ∙ sym c.in_ok-number.ensures in
    if_some _ c.place_of.result (λ place is.
    rw (← c.self.view_is) (numbered-place 0 entries c.self.inside.next c.args.name.now c.in_ok-number.number place c.self.invariant.1 found
    (when_some _ c.place_of.result place is c.place_of.ensures.place)))

pub returns-clause-missing : goal.returns-clause-missing
returns-clause-missing c =
    let entries = c.self.inside.entries in
    let found : number_of c.args.name.now entries ≡ Some c.in_ok-number.number = sym (c.self.invariant.0 c.args.name.now) ∙ sym c.in_ok-number.ensures in
    if_none _ c.place_of.result (λ missing.
    absurd (number-present c.args.name.now entries c.in_ok-number.number found (when_none _ c.place_of.result missing c.place_of.ensures.missing)))

-- the numbers of the table rise
pub place_of-requires : goal.place_of-requires
place_of-requires c = numbers-rise 0 c.self.inside.entries c.self.inside.next c.self.invariant.1
