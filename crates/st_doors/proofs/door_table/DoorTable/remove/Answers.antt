use Rattle.std.proofs.Common.{◌≡◌, ap, sym, ◌∙◌, ◌<◌, length, map, arith, rules}
use Rattle.std.proofs.lemmas.List.{length-map}
use Rattle.st_doors.specs.Numbers.{without_number}
use Rattle.st_doors.proofs.DoorLemmas.{IsFirst-within}
use Rattle.st_doors.proofs.TableLemmas.{removed-at, kept-whole}
use Rattle.st_doors.proofs.door_table.DoorTable.remove.Goals as goal

pub remove-requires : goal.remove-requires
remove-requires c =
    let within : c.in-Some.place < length c.args.self.now = IsFirst-within _ _ c.in-Some.place c.in-Some.ensures.place in
    let same : length c.args.self.now ≡ length c.self.inside.doors.items = ap length (sym c.self.view_is) ∙ length-map c.self.inside.doors.items _ in
    grind (arith, rules, within, same)

-- the place is that of the number
pub returns-in-Some : goal.returns-in-Some
returns-in-Some c = ap (map _) c.remove.ensures.items ∙ (removed-at _ c.self.inside.doors.items c.in-Some.place c.args.number (rw c.self.view_is c.in-Some.ensures.place) ∙ ap (λ t. without_number c.args.number t) c.self.view_is)

-- there is no such number
pub returns-in_default : goal.returns-in_default
returns-in_default c = rw (← c.self.view_is) (kept-whole _ c.self.inside.doors.items c.args.number (rw c.self.view_is c.in_default.ensures.missing))
