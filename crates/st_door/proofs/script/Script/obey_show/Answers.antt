use Rattle.st_door.specs.declared.line.Line.TheVariants as line
use Rattle.st_doors.specs.Doors.{IsFirst, has_name}
use Rattle.st_door.specs.Script.{step_of}
use Rattle.st_doors.proofs.DoorLemmas.{IsFirst-within, if_ok, ok_always}
use Rattle.st_door.proofs.ScriptStateLemmas.{IsFirst-labels, show-done, idle-effect, idle-script}
use Rattle.st_doors.proofs.IdleLemmas.{no_door}
use Rattle.st_door.proofs.script.Script.obey_show.Goals as goal

-- the place is that of the name, also once the doors rest
pub status_effect-requires : goal.status_effect-requires
status_effect-requires c =
    IsFirst-within _ _ _ (IsFirst-labels c.args.name.now c.args.self.now.doors c.run_until_idle.new.self.doors c.in-Some.place c.in_ok-run_until_idle.ensures.same_labels c.in-Some.ensures.place)

pub returns-clause-effect : goal.returns-clause-effect
returns-clause-effect c =
    let first : IsFirst (has_name c.args.name.now) c.args.self.now.doors c.in-Some.place = c.in-Some.ensures.place in
    let idle = IsFirst-labels c.args.name.now c.args.self.now.doors c.run_until_idle.new.self.doors c.in-Some.place c.in_ok-run_until_idle.ensures.same_labels first in
    if_ok _ _ c.status_effect.result (λ effect says.
    idle-effect c.args.self.now c.run_until_idle.new.self c.args.name.now c.in-Some.place (step_of c.args.self.now (line.Show c.args.name.now)) effect c.in_ok-run_until_idle.ensures.rested
    (show-done c.args.self.now c.args.name.now c.in-Some.place first) idle (says no_door))
    c.status_effect.ensures

pub returns-clause-script : goal.returns-clause-script
returns-clause-script c =
    ok_always _ c.status_effect.result (idle-script c.args.self.now c.run_until_idle.new.self c.args.name.now (step_of c.args.self.now (line.Show c.args.name.now)) c.in_ok-run_until_idle.ensures.rested
    (show-done c.args.self.now c.args.name.now c.in-Some.place c.in-Some.ensures.place))
