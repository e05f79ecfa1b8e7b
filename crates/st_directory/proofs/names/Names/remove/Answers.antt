use Rattle.std.proofs.Common.{◌∙◌, ap}
use Rattle.st_directory.specs.Entries.{names_of_entries}
use Rattle.st_directory.proofs.EntryLemmas.{id_of_entries, entries_lose_a_name}
use Rattle.st_directory.proofs.names.Names.remove.Goals as goal

pub returns-clause-id : goal.returns-clause-id
returns-clause-id c = rw (← c.self.view_is) (c.shift_remove.ensures.value ∙ id_of_entries c.args.name.now c.self.inside.entries.entries)

pub returns-clause-removed : goal.returns-clause-removed
returns-clause-removed c =
    rw (← c.self.view_is) (ap names_of_entries c.shift_remove.ensures.entries ∙ entries_lose_a_name c.args.name.now c.self.inside.entries.entries)
