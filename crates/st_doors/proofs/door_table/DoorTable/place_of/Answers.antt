use Rattle.std.proofs.Common.{rules, ◌≡◌, None, IfSome, IfNone, find}
use Rattle.std.specs.Result.{result_ok}
use Rattle.std.proofs.lemmas.List.Sorted.{answers_always}
use Rattle.st_doors.specs.Doors.{IsFirst}
use Rattle.st_doors.specs.Numbers.{has_number}
use Rattle.st_doors.proofs.TableLemmas.{searched}
use Rattle.st_doors.proofs.door_table.DoorTable.place_of.Goals as goal

-- what the search found: the closure gives an entry's number, and the slice is the table's
searched_for : (c : goal.After-ok)
    → record {
      found : IfSome (result_ok c.binary_search_by_key.result) (IsFirst (has_number c.args.number) c.args.self.now);
      missing : IfNone (result_ok c.binary_search_by_key.result) (find (has_number c.args.number) c.args.self.now ≡ None);
    }
searched_for c =
    let facts = c.binary_search_by_key.ensures in
    let by_number = facts.position (λ entry. entry.value.number) (answers_always _ _ _ (λ f a r g called. search rules)) in
    rw (← c.self.view_is)
    (searched (λ entry. (entry.value.number, (entry.value.name, entry.value.door))) c.self.inside.doors.items c.args.number c.binary_search_by_key.result
    (rw c.self.view_is c.requires) (rw (← c.deref.ensures.value) facts.bound) (rw (← c.deref.ensures.value) by_number))

pub returns-clause-place : goal.returns-clause-place
returns-clause-place c = rw c.ok.ensures.value (searched_for c).found

pub returns-clause-missing : goal.returns-clause-missing
returns-clause-missing c = rw c.ok.ensures.value (searched_for c).missing
