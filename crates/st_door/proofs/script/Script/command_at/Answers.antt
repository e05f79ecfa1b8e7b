use Rattle.std.proofs.Common.{◌≡◌, Some, get_or, ap, sym, ◌∙◌, rules, None}
use Rattle.st_door.specs.declared.effect.Effect.{Effect}
use Rattle.st_doors.specs.Doors.{refusal_in, told_of}
use Rattle.st_door.specs.Script.{ScriptState, rested_of, status_finished}
use Rattle.st_doors.proofs.DoorLemmas.{if_ok, ok_always}
use Rattle.st_doors.proofs.IdleLemmas.{no_door}
use Rattle.st_door.proofs.ScriptStateLemmas.{first-still, still-within, command-refused, command-done, told_at, told_at-refused, idle-effect, idle-script}
use Rattle.st_door.proofs.script.Script.command_at.Goals as goal

-- the command was refused
pub returns-in-Some-clause-effect : goal.returns-in-Some-clause-effect
returns-in-Some-clause-effect c = λ name target first second.
    sym (ap (λ (s : Effect × ScriptState). s.0) (command-refused c.args.self.now name c.args.command c.args.place c.in-Some.refusal first
    (sym c.in-Some.is ∙ c.in_ok-refusal.ensures.refusal no_door) (status_finished target)))

pub returns-in-Some-clause-script : goal.returns-in-Some-clause-script
returns-in-Some-clause-script c = λ name target first second.
    let refused : Some c.in-Some.refusal ≡ refusal_in (told_of c.args.command (get_or c.args.self.now.doors c.args.place no_door)).0 =
    sym c.in-Some.is ∙ c.in_ok-refusal.ensures.refusal no_door in
    c.in_ok-refusal.ensures.told no_door
    ∙ (told_at-refused c.args.self.now c.args.command c.args.place c.in-Some.refusal refused
    ∙ sym (ap (λ (s : Effect × ScriptState). s.1) (command-refused c.args.self.now name c.args.command c.args.place c.in-Some.refusal first refused (status_finished target))))

-- the other place is one still, once the doors rest
pub status_effect-requires : goal.status_effect-requires
status_effect-requires c =
    still-within c.args.self.now c.refusal_to.new.self c.run_until_idle.new.self c.args.command c.args.place c.args.aim c.requires.place c.requires.aim
    (c.in_ok-refusal.ensures.told no_door) c.in_ok-run_until_idle.ensures.same_labels

pub returns-clause-effect : goal.returns-clause-effect
returns-clause-effect c =
    let none : c.in_ok-refusal.field-0 ≡ None = search rules in
    let accepted : None ≡ refusal_in (told_of c.args.command (get_or c.args.self.now.doors c.args.place no_door)).0 = sym none ∙ c.in_ok-refusal.ensures.refusal no_door in
    let told : c.refusal_to.new.self ≡ told_at c.args.self.now c.args.command c.args.place = c.in_ok-refusal.ensures.told no_door in
    if_ok _ _ c.status_effect.result (λ effect says. λ name target first second.
    idle-effect (told_at c.args.self.now c.args.command c.args.place) c.run_until_idle.new.self target c.args.aim _ effect
    (c.in_ok-run_until_idle.ensures.rested ∙ ap rested_of told)
    (command-done c.args.self.now name target c.args.command c.args.place first accepted)
    (first-still c.args.self.now c.refusal_to.new.self c.run_until_idle.new.self target c.args.command c.args.place c.args.aim c.requires.place second told
    c.in_ok-run_until_idle.ensures.same_labels)
    (says no_door))
    c.status_effect.ensures

pub returns-clause-script : goal.returns-clause-script
returns-clause-script c =
    let none : c.in_ok-refusal.field-0 ≡ None = search rules in
    let accepted : None ≡ refusal_in (told_of c.args.command (get_or c.args.self.now.doors c.args.place no_door)).0 = sym none ∙ c.in_ok-refusal.ensures.refusal no_door in
    let told : c.refusal_to.new.self ≡ told_at c.args.self.now c.args.command c.args.place = c.in_ok-refusal.ensures.told no_door in
    ok_always _ c.status_effect.result (λ name target first second.
    idle-script (told_at c.args.self.now c.args.command c.args.place) c.run_until_idle.new.self target _
    (c.in_ok-run_until_idle.ensures.rested ∙ ap rested_of told)
    (command-done c.args.self.now name target c.args.command c.args.place first accepted))
