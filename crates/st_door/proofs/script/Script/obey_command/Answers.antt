use Rattle.st_doors.specs.Doors.{has_name}
use Rattle.st_doors.proofs.DoorLemmas.{IsFirst-within, if_ok, on_ok}
use Rattle.st_door.proofs.script.Script.obey_command.Goals as goal

-- the place is that of the name
pub command_at-requires-clause-place : goal.command_at-requires-clause-place
command_at-requires-clause-place c = IsFirst-within (has_name c.args.name.now) c.args.self.now.doors c.in-Some.place c.in-Some.ensures.place

pub command_at-requires-clause-aim : goal.command_at-requires-clause-aim
command_at-requires-clause-aim c = IsFirst-within (has_name c.args.name.now) c.args.self.now.doors c.in-Some.place c.in-Some.ensures.place

pub returns-clause-effect : goal.returns-clause-effect
returns-clause-effect c =
    if_ok _ _ c.command_at.result (λ effect does. does c.args.name.now c.args.name.now c.in-Some.ensures.place c.in-Some.ensures.place) c.command_at.ensures.effect

pub returns-clause-script : goal.returns-clause-script
returns-clause-script c =
    on_ok _ _ c.command_at.result (λ does. does c.args.name.now c.args.name.now c.in-Some.ensures.place c.in-Some.ensures.place) c.command_at.ensures.script
