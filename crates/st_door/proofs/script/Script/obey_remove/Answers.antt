use Rattle.std.proofs.Common.{◌≡◌, true, false, ap, sym, ◌∙◌, rules}
use Rattle.st_door.specs.declared.effect.Effect.{Effect}
use Rattle.st_door.specs.declared.effect.Effect.TheVariants.{Printed}
use Rattle.st_doors.specs.Doors.{IsFirst, has_name}
use Rattle.st_door.specs.Script.{ScriptState, rested_of}
use Rattle.st_doors.proofs.DoorLemmas.{IsFirst-within}
use Rattle.st_doors.proofs.IdleLemmas.{no_door}
use Rattle.st_door.proofs.ScriptStateLemmas.{remove-refused, remove-done}
use Rattle.st_door.proofs.script.Script.obey_remove.Goals as goal

pub is_over_at-requires : goal.is_over_at-requires
is_over_at-requires c = IsFirst-within (has_name c.args.name.now) c.self.inside.doors c.in-Some.place c.in-Some.ensures.place

-- a door that is not over stays
pub returns-then-not-is_over_at-clause-effect : goal.returns-then-not-is_over_at-clause-effect
returns-then-not-is_over_at-clause-effect c =
    let doors : c.self.inside.doors ≡ c.args.self.now.doors = ap (λ (script : ScriptState). script.doors) c.self.view_is in
    let first : IsFirst (has_name c.args.name.now) c.args.self.now.doors c.in-Some.place = rw (← doors) c.in-Some.ensures.place in
    let runs : c.is_over_at.result ≡ false = search rules in
    sym (ap (λ (s : Effect × ScriptState). s.0) (remove-refused c.args.self.now c.args.name.now c.in-Some.place first
    (rw (← doors) (sym (c.is_over_at.ensures no_door)) ∙ runs)))

pub returns-then-not-is_over_at-clause-script : goal.returns-then-not-is_over_at-clause-script
returns-then-not-is_over_at-clause-script c =
    let doors : c.self.inside.doors ≡ c.args.self.now.doors = ap (λ (script : ScriptState). script.doors) c.self.view_is in
    let first : IsFirst (has_name c.args.name.now) c.args.self.now.doors c.in-Some.place = rw (← doors) c.in-Some.ensures.place in
    let runs : c.is_over_at.result ≡ false = search rules in
    sym (ap (λ (s : Effect × ScriptState). s.1) (remove-refused c.args.self.now c.args.name.now c.in-Some.place first
    (rw (← doors) (sym (c.is_over_at.ensures no_door)) ∙ runs)))

-- and one that is goes
pub returns-clause-effect : goal.returns-clause-effect
returns-clause-effect c =
    let doors : c.self.inside.doors ≡ c.args.self.now.doors = ap (λ (script : ScriptState). script.doors) c.self.view_is in
    let first : IsFirst (has_name c.args.name.now) c.args.self.now.doors c.in-Some.place = rw (← doors) c.in-Some.ensures.place in
    let ends : c.is_over_at.result ≡ true = search rules in
    ap Printed (c.from.ensures ∙ c.in_ok-text.ensures)
    ∙ sym (ap (λ (s : Effect × ScriptState). s.0) (remove-done c.args.self.now c.args.name.now c.in-Some.place first
    (rw (← doors) (sym (c.is_over_at.ensures no_door)) ∙ ends)))

pub returns-clause-script : goal.returns-clause-script
returns-clause-script c =
    let doors : c.self.inside.doors ≡ c.args.self.now.doors = ap (λ (script : ScriptState). script.doors) c.self.view_is in
    let first : IsFirst (has_name c.args.name.now) c.args.self.now.doors c.in-Some.place = rw (← doors) c.in-Some.ensures.place in
    let ends : c.is_over_at.result ≡ true = search rules in
    c.in_ok-run_until_idle.ensures.rested
    ∙ (ap rested_of c.remove_door.ensures
    ∙ sym (ap (λ (s : Effect × ScriptState). s.1) (remove-done c.args.self.now c.args.name.now c.in-Some.place first
    (rw (← doors) (sym (c.is_over_at.ensures no_door)) ∙ ends))))
