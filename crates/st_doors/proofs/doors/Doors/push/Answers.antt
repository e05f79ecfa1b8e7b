use Rattle.std.proofs.Common.{rules, ◌≡◌, ℕ, ◌+◌, ◌≤◌, List, [], ◌∷◌, ◌++◌, take, Option, Some, None, if◌then◌else◌, bytes_eq, string_bytes, ap, sym, ◌∙◌}
use Rattle.std.proofs.Math.Seq.{take-append_seam}
use Rattle.std.specs.BTreeMap.{get_by_text}
use Rattle.st_doors.specs.Doors.{NamedDoor, door_named}
use Rattle.st_doors.specs.Numbers.{doors_of_numbered, number_of}
use Rattle.st_doors.proofs.NumberLemmas.{number-free, doors-last, number-last, numbered-last, numbered-wider, serials-last}
use Rattle.st_doors.proofs.doors.Doors.push.Goals as goal

-- the entry that was put last is gone again
back : (c : goal.After-truncate) → c.truncate.new.self ≡ c.self.inside.entries
back c =
    let entries = c.self.inside.entries in
    let last : c.push.new.self ≡ entries ++ (c.id-number.result.serial, (c.args.name, c.args.door)) ∷ [] =
    c.in_ok-push.ensures.pushed in
    c.truncate.ensures
    ∙ (ap (take c.len-place.result) last
    ∙ (ap (λ (n : ℕ). take n (entries ++ (c.id-number.result.serial, (c.args.name, c.args.door)) ∷ [])) c.len-place.ensures
    ∙ take-append_seam entries ((c.id-number.result.serial, (c.args.name, c.args.door)) ∷ [])))

pub invariant_of-self-in-Err : goal.invariant_of-self-in-Err
invariant_of-self-in-Err c = (
  λ other. c.in-Err.ensures.unchanged other ∙ (c.self.invariant.0 other ∙ ap (number_of other) (sym (back c))),
  rw (back c) c.self.invariant.1,
  rw (back c) c.self.invariant.2,
)

pub returns-in-Err-clause-unchanged : goal.returns-in-Err-clause-unchanged
returns-in-Err-clause-unchanged c = ap doors_of_numbered (back c) ∙ c.self.view_is

-- the door stands last, and its name has its number
pub invariant_of-self-2 : goal.invariant_of-self-2
invariant_of-self-2 c =
    let entries = c.self.inside.entries in
    let name : List ℕ = string_bytes c.args.name in
    let number : ℕ = c.id-number.result.serial in
    let order : c.self.inside.next ≤ number = c.in_ok-next.ensures.order in
    let serial : number ≡ c.args.door.machine.id.serial = search rules in
    let free : number_of (string_bytes c.args.name) entries ≡ None = number-free (string_bytes c.args.name) entries (rw c.self.view_is c.requires) in
    let last : c.push.new.self ≡ entries ++ (c.id-number.result.serial, (c.args.name, c.args.door)) ∷ [] =
    c.in_ok-push.ensures.pushed in
    let key : string_bytes c.in_ok-next.key ≡ string_bytes c.args.name = c.in_ok-next.ensures.key ∙ c.as_str.ensures.value in
    let counted : c.in_ok-next.next ≡ number + 1 = c.in_ok-next.ensures.next in (
      λ other. c.in_default.ensures.inserted other
          ∙ (ap (λ (n : List ℕ). if bytes_eq n other then Some number else get_by_text c.self.inside.numbers.numbers other) key
          ∙ (ap (λ (found : Option ℕ). if bytes_eq name other then Some number else found) (c.self.invariant.0 other)
          ∙ (sym (number-last entries number c.args.name c.args.door other free) ∙ ap (number_of other) (sym last)))),
      rw (last, counted) (numbered-last 0 entries number c.args.name c.args.door (numbered-wider 0 entries c.self.inside.next number order c.self.invariant.1) free),
      rw last (serials-last entries number c.args.name c.args.door serial c.self.invariant.2),
    )

pub returns-clause-pushed : goal.returns-clause-pushed
returns-clause-pushed c =
    let entries = c.self.inside.entries in
    let last : c.push.new.self ≡ entries ++ (c.id-number.result.serial, (c.args.name, c.args.door)) ∷ [] =
    c.in_ok-push.ensures.pushed in
    ap doors_of_numbered last
    ∙ (doors-last entries c.id-number.result.serial c.args.name c.args.door
    ∙ ap (λ (doors : List NamedDoor). doors ++ door_named (string_bytes c.args.name) c.args.door ∷ []) c.self.view_is)
