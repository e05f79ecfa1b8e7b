use Rattle.std.proofs.Common.{◌≡◌, ◌+◌, ap}
use Rattle.st_directory.specs.DirectoryState.{VacancyState, state_of}
use Rattle.st_directory.proofs.OrderLemmas.{inserted_found, inserted_named, inserted_others}
use Rattle.st_directory.proofs.laws.an_inserted_value_is_found.Goals as goal

pub returns-clause-id : goal.returns-clause-id
returns-clause-id g c value =
    let room = rw (← c.directory.view_is) at c.requires in
    let serial : c.args.vacancy.now.id.serial ≡ c.directory.inside.begun + 1 = ap (λ (one : VacancyState). one.id.serial) room.next in
    rw (← c.directory.view_is) (inserted_found c.args.vacancy.now value
    (state_of c.directory.inside.names.names c.directory.inside.values.values c.directory.inside.begun) serial c.directory.invariant)

pub returns-clause-name : goal.returns-clause-name
returns-clause-name g c value name is = inserted_named c.args.vacancy.now value c.args.directory.now.state name c.requires.admits is

pub returns-clause-others : goal.returns-clause-others
returns-clause-others g c value other differs = inserted_others c.args.vacancy.now value c.args.directory.now.state other differs
