use Rattle.std.proofs.Common.{None}
use Rattle.std.proofs.lemmas.Map.Text.{btree_map_updates_text}
use Rattle.st_doors.proofs.numbers.Numbers.remove.Goals as goal

-- the name has none, and the others have theirs
pub returns-clause-removed : goal.returns-clause-removed
returns-clause-removed c = btree_map_updates_text c.args.name.now c.args.self.now.numbers c.remove.new.self None c.remove.ensures.updates
