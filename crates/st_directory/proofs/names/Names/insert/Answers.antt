use Rattle.std.proofs.Common.{◌≡◌, ◌∙◌, ap, ◌∷◌, [], None, string_bytes}
use Rattle.std.proofs.lemmas.List.{map-append}
use Rattle.st_directory.specs.DirectoryState.{id_in}
use Rattle.st_directory.specs.Entries.{named_of_entry, names_of_entries}
use Rattle.st_directory.proofs.EntryLemmas.{entries-new}
use Rattle.st_directory.proofs.names.Names.insert.Goals as goal

-- the new name stands last
pub returns-in-Some : goal.returns-in-Some
returns-in-Some c =
    let es = c.self.inside.entries.entries in
    let free : id_in (string_bytes c.in-Some.name) c.args.self.now.names ≡ None = rw c.in-Some.is at c.requires.free in
    let entries = rw c.unwrap.ensures at c.insert.ensures.entries in
    let new = entries-new es c.in-Some.name c.args.id (rw (← c.self.view_is) at free) in
    rw (c.in-Some.is, ← c.self.view_is) (ap names_of_entries (entries ∙ new) ∙ map-append named_of_entry es ((c.in-Some.name, c.args.id) ∷ []))
