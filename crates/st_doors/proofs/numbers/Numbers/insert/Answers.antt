use Rattle.std.proofs.Common.{Some, string_bytes}
use Rattle.std.proofs.lemmas.Map.Text.{btree_map_updates_text}
use Rattle.st_doors.proofs.numbers.Numbers.insert.Goals as goal

-- the name has the number, and the others have theirs
pub returns-clause-inserted : goal.returns-clause-inserted
returns-clause-inserted c = btree_map_updates_text (string_bytes c.args.name) c.args.self.now.numbers c.insert.new.self (Some c.args.number) c.in_ok-insert.ensures.updates
