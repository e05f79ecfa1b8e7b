use Rattle.std.proofs.Common.{◌≡◌, ℕ, Option, Some, None, if◌then◌else◌, bytes_eq, ap, sym, ◌∙◌}
use Rattle.st_doors.specs.Doors.{without_door}
use Rattle.st_doors.specs.Numbers.{doors_of_numbered, number_of, without_number}
use Rattle.st_doors.proofs.NumberLemmas.{numbers-rise, doors-less, number-less, numbered-less, serials-less, without-missing}
use Rattle.st_doors.proofs.doors.Doors.remove.Goals as goal

-- the others have their numbers still
pub invariant_of-self : goal.invariant_of-self
invariant_of-self c =
    let entries = c.self.inside.entries in
    let found : number_of c.args.name.now entries ≡ Some c.in-Some.number = sym (c.self.invariant.0 c.args.name.now) ∙ (sym c.remove.ensures.number ∙ c.in-Some.is) in
    let gone : c.remove-in-Some.new.self ≡ without_number c.in-Some.number entries = c.remove-in-Some.ensures in (
      λ other. c.remove.ensures.removed other
          ∙ (ap (λ (number : Option ℕ). if bytes_eq c.args.name.now other then None else number) (c.self.invariant.0 other)
          ∙ (sym (number-less 0 entries c.self.inside.next c.args.name.now c.in-Some.number other c.self.invariant.1 found) ∙ ap (number_of other) (sym gone))),
      rw gone (numbered-less 0 entries c.self.inside.next c.args.name.now c.in-Some.number c.self.invariant.1 found),
      rw gone (serials-less entries c.in-Some.number c.self.invariant.2),
    )

-- the door is gone
pub returns-in-Some : goal.returns-in-Some
returns-in-Some c =
    let entries = c.self.inside.entries in
    let found : number_of c.args.name.now entries ≡ Some c.in-Some.number = sym (c.self.invariant.0 c.args.name.now) ∙ (sym c.remove.ensures.number ∙ c.in-Some.is) in
    let gone : c.remove-in-Some.new.self ≡ without_number c.in-Some.number entries = c.remove-in-Some.ensures in
    ap doors_of_numbered gone
    ∙ (doors-less 0 entries c.self.inside.next c.args.name.now c.in-Some.number c.self.invariant.1 found ∙ ap (without_door c.args.name.now) c.self.view_is)

-- there was none
pub returns-in_default : goal.returns-in_default
returns-in_default c =
    let entries = c.self.inside.entries in
    let none : number_of c.args.name.now entries ≡ None = sym (c.self.invariant.0 c.args.name.now) ∙ (sym c.remove.ensures.number ∙ c.in_default.is) in
    sym (without-missing c.args.name.now entries none) ∙ ap (without_door c.args.name.now) c.self.view_is

-- the numbers of the table rise
pub remove-requires-in-Some : goal.remove-requires-in-Some
remove-requires-in-Some c = numbers-rise 0 c.self.inside.entries c.self.inside.next c.self.invariant.1
