use Rattle.std.proofs.Common.{◌∙◌, ap}
use Rattle.st_directory.specs.Entries.{names_of_entries}
use Rattle.st_directory.proofs.EntryLemmas.{none_of_id, names_lose_an_id}
use Rattle.st_directory.proofs.names.Names.remove_id.Goals as goal

-- the entry at its place goes
pub returns-in-Some-clause-removed : goal.returns-in-Some-clause-removed
returns-in-Some-clause-removed c =
    let there = rw (c.as_slice.ensures ∙ c.values.ensures.rest) at c.in-Some.ensures.place in
    rw (← c.self.view_is) (ap names_of_entries c.shift_remove_index.ensures.entries
    ∙ names_lose_an_id c.args.id c.self.inside.entries.entries c.in-Some.place there (rw (← c.self.view_is) at c.requires))

-- there is none
pub returns-in_default-clause-removed : goal.returns-in_default-clause-removed
returns-in_default-clause-removed c =
    let others = rw (c.as_slice.ensures ∙ c.values.ensures.rest) at c.in_default.ensures.missing in
    rw (← c.self.view_is) (none_of_id c.args.id c.self.inside.entries.entries others)
