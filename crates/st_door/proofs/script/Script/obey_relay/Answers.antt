use Rattle.std.proofs.Common.{ap, sym, ◌∙◌}
use Rattle.st_door.specs.declared.effect.Effect.{Effect}
use Rattle.st_doors.specs.Doors.{has_name}
use Rattle.st_door.specs.Script.{ScriptState, effect_of, status_finished}
use Rattle.st_doors.proofs.DoorLemmas.{IsFirst-within, if_ok, on_ok}
use Rattle.st_doors.proofs.IdleLemmas.{no_door}
use Rattle.st_door.proofs.ScriptStateLemmas.{relay-acted}
use Rattle.st_door.proofs.script.Script.obey_relay.Goals as goal

-- the places are those of the names
pub id_at-id-requires : goal.id_at-id-requires
id_at-id-requires c = IsFirst-within (has_name c.args.target.now) c.args.self.now.doors c.in-Some-place_of.aim c.in-Some-place_of.ensures.place

pub command_at-requires-clause-place : goal.command_at-requires-clause-place
command_at-requires-clause-place c = IsFirst-within (has_name c.args.name.now) c.args.self.now.doors c.in-Some.place c.in-Some.ensures.place

pub command_at-requires-clause-aim : goal.command_at-requires-clause-aim
command_at-requires-clause-aim c = IsFirst-within (has_name c.args.target.now) c.args.self.now.doors c.in-Some-place_of.aim c.in-Some-place_of.ensures.place

-- the door is told to send the button
pub returns-clause-effect : goal.returns-clause-effect
returns-clause-effect c =
    let acted = relay-acted c.args.self.now c.args.name.now c.args.target.now c.args.digit c.in-Some.place c.in-Some-place_of.aim c.id_at-id.result
    c.in-Some.ensures.place c.in-Some-place_of.ensures.place (c.id_at-id.ensures no_door) in
    if_ok _ _ c.command_at.result (λ effect does. does c.args.name.now c.args.target.now c.in-Some.ensures.place c.in-Some-place_of.ensures.place
    ∙ sym (ap (λ (s : Effect × ScriptState). s.0) (ap (effect_of c.args.self.now (status_finished c.args.target.now)) acted)))
    c.command_at.ensures.effect

pub returns-clause-script : goal.returns-clause-script
returns-clause-script c =
    let acted = relay-acted c.args.self.now c.args.name.now c.args.target.now c.args.digit c.in-Some.place c.in-Some-place_of.aim c.id_at-id.result
    c.in-Some.ensures.place c.in-Some-place_of.ensures.place (c.id_at-id.ensures no_door) in
    on_ok _ _ c.command_at.result (λ does. does c.args.name.now c.args.target.now c.in-Some.ensures.place c.in-Some-place_of.ensures.place
    ∙ sym (ap (λ (s : Effect × ScriptState). s.1) (ap (effect_of c.args.self.now (status_finished c.args.target.now)) acted)))
    c.command_at.ensures.script
