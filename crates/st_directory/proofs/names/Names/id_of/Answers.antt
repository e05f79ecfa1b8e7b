use Rattle.std.proofs.Common.{◌∙◌}
use Rattle.st_directory.proofs.EntryLemmas.{id_of_entries}
use Rattle.st_directory.proofs.names.Names.id_of.Goals as goal

pub returns : goal.returns
returns c = rw (← c.self.view_is) (c.copied.ensures ∙ (c.get.ensures.value ∙ id_of_entries c.args.name.now c.self.inside.entries.entries))
