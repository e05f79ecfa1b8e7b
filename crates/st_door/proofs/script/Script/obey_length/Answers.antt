use Rattle.std.proofs.Common.{◌≡◌, Some, ap, sym, ◌∙◌, get_or}
use Rattle.st_events.specs.declared.tag.Tag.{Tag}
use Rattle.st_door.specs.declared.effect.Effect.{Effect}
use Rattle.st_door.specs.declared.effect.Effect.TheVariants.{Printed}
use Rattle.st_doors.specs.Doors.{asks, door_of, has_name, refusal_in, told_of}
use Rattle.st_doors.specs.Printing.{length_text}
use Rattle.st_door.specs.Script.{ScriptState, length_finished, rested_of}
use Rattle.st_doors.proofs.DoorLemmas.{IsFirst-within, if_ok, ok_always}
use Rattle.st_doors.proofs.IdleLemmas.{no_door}
use Rattle.st_door.proofs.ScriptStateLemmas.{first-told, command-refused, told_at, told_at-refused, length-done}
use Rattle.st_door.proofs.script.Script.obey_length.Goals as goal

-- the place is that of the name
pub id_at-machine-requires : goal.id_at-machine-requires
id_at-machine-requires c = IsFirst-within (has_name c.args.name.now) c.args.self.now.doors c.in-Some.place c.in-Some.ensures.place

pub ask_length-requires : goal.ask_length-requires
ask_length-requires c = IsFirst-within (has_name c.args.name.now) c.args.self.now.doors c.in-Some.place c.in-Some.ensures.place

-- the call was refused
pub returns-in-Err-clause-effect : goal.returns-in-Err-clause-effect
returns-in-Err-clause-effect c =
    sym (ap (λ (s : Effect × ScriptState). s.0) (command-refused c.args.self.now c.args.name.now asks c.in-Some.place c.in-Err.refusal c.in-Some.ensures.place ((rw c.in-Err.is at c.in_ok-asked.ensures.refused) no_door)
    (length_finished c.args.name.now (door_of c.args.name.now c.args.self.now.doors))))

pub returns-in-Err-clause-script : goal.returns-in-Err-clause-script
returns-in-Err-clause-script c =
    let refused : Some c.in-Err.refusal ≡ refusal_in (told_of asks (get_or c.args.self.now.doors c.in-Some.place no_door)).0 = (rw c.in-Err.is at c.in_ok-asked.ensures.refused) no_door in
    c.in_ok-asked.ensures.told no_door
    ∙ (told_at-refused c.args.self.now asks c.in-Some.place c.in-Err.refusal refused
    ∙ sym (ap (λ (s : Effect × ScriptState). s.1) (command-refused c.args.self.now c.args.name.now asks c.in-Some.place c.in-Err.refusal c.in-Some.ensures.place refused
    (length_finished c.args.name.now (door_of c.args.name.now c.args.self.now.doors)))))

-- the name has its place still, once the doors rest
pub collect_length-requires : goal.collect_length-requires
collect_length-requires c =
    IsFirst-within _ _ _ (first-told c.args.self.now c.ask_length.new.self c.run_until_idle.new.self c.args.name.now asks c.in-Some.place c.in-Some.ensures.place
    (c.in_ok-asked.ensures.told no_door) c.in_ok-run_until_idle.ensures.same_labels)

pub returns-clause-effect : goal.returns-clause-effect
returns-clause-effect c =
    let tag : Tag = record { machine = c.id_at-machine.result; request = c.in-Ok.number } in
    let told : c.ask_length.new.self ≡ told_at c.args.self.now asks c.in-Some.place = c.in_ok-asked.ensures.told no_door in
    let done = length-done c.args.self.now c.run_until_idle.new.self c.args.name.now c.in-Some.place tag c.in-Some.ensures.place
    ((rw c.in-Ok.is at c.in_ok-asked.ensures.asked) no_door) (c.id_at-machine.ensures no_door) (c.in_ok-run_until_idle.ensures.rested ∙ ap rested_of told)
    (first-told c.args.self.now c.ask_length.new.self c.run_until_idle.new.self c.args.name.now asks c.in-Some.place c.in-Some.ensures.place told c.in_ok-run_until_idle.ensures.same_labels) in
    if_ok _ _ c.length_effect.result (λ effect says.
    says ∙ (ap (λ digits. Printed (length_text c.args.name.now digits)) (c.in_ok-digits.ensures.digits no_door) ∙ sym (ap (λ (s : Effect × ScriptState). s.0) done)))
    c.length_effect.ensures

pub returns-clause-script : goal.returns-clause-script
returns-clause-script c =
    let tag : Tag = record { machine = c.id_at-machine.result; request = c.in-Ok.number } in
    let told : c.ask_length.new.self ≡ told_at c.args.self.now asks c.in-Some.place = c.in_ok-asked.ensures.told no_door in
    let done = length-done c.args.self.now c.run_until_idle.new.self c.args.name.now c.in-Some.place tag c.in-Some.ensures.place
    ((rw c.in-Ok.is at c.in_ok-asked.ensures.asked) no_door) (c.id_at-machine.ensures no_door) (c.in_ok-run_until_idle.ensures.rested ∙ ap rested_of told)
    (first-told c.args.self.now c.ask_length.new.self c.run_until_idle.new.self c.args.name.now asks c.in-Some.place c.in-Some.ensures.place told c.in_ok-run_until_idle.ensures.same_labels) in
    ok_always _ c.length_effect.result (c.in_ok-digits.ensures.told no_door ∙ sym (ap (λ (s : Effect × ScriptState). s.1) done))
