use Rattle.std.proofs.Common.{ap, map, take, ◌∙◌, sym}
use Rattle.std.proofs.lemmas.List.{take-map}
use Rattle.st_doors.proofs.door_table.DoorTable.truncate.Goals as goal

pub returns : goal.returns
returns c = ap (map _) c.truncate.ensures.items ∙ (sym (take-map _ c.args.place c.self.inside.doors.items) ∙ ap (take c.args.place) c.self.view_is)
