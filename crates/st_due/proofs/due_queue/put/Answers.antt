use Rattle.std.proofs.Common.{sym, subst}
use Rattle.std.specs.List.{IsDistinct}
use Rattle.indexmap.proofs.CallerLemmas.{keys-with_value_at}
use Rattle.indexmap.proofs.MapLemmas.{Found-position, insert_entry-first}
use Rattle.st_due.specs.Machines.{same_machine}
use Rattle.st_due.proofs.due_queue.put.Goals as goal

pub returns-in-Some-clause-entries : goal.returns-in-Some-clause-entries
returns-in-Some-clause-entries c =
    let entries = c.args.moments.now.entries in
    let found = Found-position (same_machine c.args.machine) entries c.in-Some.place (sym c.in-Some.ensures.index) in
    sym (insert_entry-first same_machine c.args.machine c.args.moment entries c.in-Some.place found.first)

pub returns-in-Some-clause-unique : goal.returns-in-Some-clause-unique
returns-in-Some-clause-unique c =
    subst (IsDistinct same_machine) (sym (keys-with_value_at c.args.moments.now c.in-Some.place c.args.moment)) c.get_index_of.ensures.unique
