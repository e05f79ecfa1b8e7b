use Rattle.std.proofs.Common.{◌≡◌, ◌+◌, sym, ap}
use Rattle.st_directory.specs.DirectoryState.{VacancyState, state_of}
use Rattle.st_directory.proofs.OrderLemmas.{inserted_in_order}
use Rattle.st_directory.proofs.directory.Directory.insert.Goals as goal

-- a value more leaves it in order
pub invariant_of-self : goal.invariant_of-self
invariant_of-self g c =
    let room = rw (← c.self.view_is, ← c.vacancy.view_is) at c.requires in
    let slot : c.self.inside.values.slot ≡ c.vacancy.inside.id.slot = sym (ap (λ (one : VacancyState). one.id.slot) room.next) in
    let serial : c.vacancy.inside.id.serial ≡ c.self.inside.begun + 1 = ap (λ (one : VacancyState). one.id.serial) room.next in
    rw (c.insert-2.ensures, c.insert.ensures.inserted, slot) (inserted_in_order _ c.vacancy.inside.id c.args.value
    (state_of c.self.inside.names.names c.self.inside.values.values c.self.inside.begun) serial room.numbers_left room.admits (rw slot at c.insert.ensures.vacant) c.self.invariant)
