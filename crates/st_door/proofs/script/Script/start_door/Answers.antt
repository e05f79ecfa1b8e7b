use Rattle.std.proofs.Common.{◌≡◌, ◌+◌, ◌<◌, Ok, length, ap, ◌∙◌, inl, inr, rules}
use Rattle.st_core.specs.declared.start.Start.TheVariants.{Running}
use Rattle.st_door.specs.Script.{ScriptState, door_start_of}
use Rattle.st_door.proofs.ScriptStateLemmas.{kept-pushed, kept-marked, next-slot, started-state, started-slot, given-id, started-script}
use Rattle.st_door.proofs.script.Script.start_door.Goals as goal

-- wherever no door came in, the same places are marked
pub invariant_of-self : goal.invariant_of-self
invariant_of-self c =
    kept-marked c.self.inside.doors c.self.inside.slots c.least_free.new.self c.self.inside.from c.self.inside.until c.least_free.ensures.same c.self.invariant

pub invariant_of-self-in_default : goal.invariant_of-self-in_default
invariant_of-self-in_default c =
    kept-marked c.self.inside.doors c.self.inside.slots c.least_free.new.self c.self.inside.from c.self.inside.until c.least_free.ensures.same c.self.invariant

pub invariant_of-self-in-NoMemory : goal.invariant_of-self-in-NoMemory
invariant_of-self-in-NoMemory c =
    kept-marked c.self.inside.doors c.self.inside.slots c.least_free.new.self c.self.inside.from c.self.inside.until c.least_free.ensures.same c.self.invariant

pub invariant_of-self-in-Err : goal.invariant_of-self-in-Err
invariant_of-self-in-Err c =
    kept-marked c.self.inside.doors c.self.inside.slots c.least_free.new.self c.self.inside.from c.self.inside.until c.least_free.ensures.same c.self.invariant

pub invariant_of-self-in_err-register-in-Ok-Running : goal.invariant_of-self-in_err-register-in-Ok-Running
invariant_of-self-in_err-register-in-Ok-Running c =
    rw c.in_err-register-in-Ok-Running.ensures.unchanged
    (kept-marked c.self.inside.doors c.self.inside.slots c.least_free.new.self c.self.inside.from c.self.inside.until c.least_free.ensures.same c.self.invariant)

-- the door that runs is the definition's
pub invariant_of-self-in-Ok-Running : goal.invariant_of-self-in-Ok-Running
invariant_of-self-in-Ok-Running c =
    let script : ScriptState = record { traced = c.self.inside.traced; doors = c.self.inside.doors; moment = c.self.inside.moment; started = c.self.inside.started } in
    let kept = kept-marked c.self.inside.doors c.self.inside.slots c.least_free.new.self c.self.inside.from c.self.inside.until c.least_free.ensures.same c.self.invariant in
    let free = next-slot c.self.inside.doors c.least_free.new.self c.in_ok-slot.slot kept.marked c.in_ok-slot.ensures.free in
    let counted : c.in-Some.serial ≡ c.self.inside.started + 1 = search rules in
    let started : Ok (Running c.in-Ok-Running.core c.in-Ok-Running.report) ≡ door_start_of script c.args.code.now =
    elim (rw c.in-Ok-Running.field-0-is at c.in-Ok-Running.ensures.start) [
      | inl same ↦ same ∙ given-id script c.args.code.now c.in_ok-slot.slot c.in-Some.serial free counted
      | inr failed ↦ let never = failed.1 in cc
    ] in
    let doors : c.self.inside.doors ≡ c.args.self.now.doors = ap (λ (script : ScriptState). script.doors) c.self.view_is in
    let reserved : length c.self.inside.doors < 65536 = rw doors c.requires.reserved in
    let state = started-state script c.args.code.now c.in-Ok-Running.core c.in-Ok-Running.report started in
    rw (c.in_ok-register-in-Ok-Running.ensures.pushed, c.take.ensures)
    (kept-pushed c.self.inside.doors c.least_free.new.self c.self.inside.from c.self.inside.until _ c.in_ok-slot.slot kept reserved c.in_ok-slot.ensures.free
    (started-slot script c.args.code.now c.in-Ok-Running.core c.in-Ok-Running.report c.in_ok-slot.slot free started) state.1)

pub returns-in-Ok-Running-clause-started : goal.returns-in-Ok-Running-clause-started
returns-in-Ok-Running-clause-started c =
    let script : ScriptState = record { traced = c.self.inside.traced; doors = c.self.inside.doors; moment = c.self.inside.moment; started = c.self.inside.started } in
    let kept = kept-marked c.self.inside.doors c.self.inside.slots c.least_free.new.self c.self.inside.from c.self.inside.until c.least_free.ensures.same c.self.invariant in
    let free = next-slot c.self.inside.doors c.least_free.new.self c.in_ok-slot.slot kept.marked c.in_ok-slot.ensures.free in
    let counted : c.in-Some.serial ≡ c.self.inside.started + 1 = search rules in
    let started : Ok (Running c.in-Ok-Running.core c.in-Ok-Running.report) ≡ door_start_of script c.args.code.now =
    elim (rw c.in-Ok-Running.field-0-is at c.in-Ok-Running.ensures.start) [
      | inl same ↦ same ∙ given-id script c.args.code.now c.in_ok-slot.slot c.in-Some.serial free counted
      | inr failed ↦ let never = failed.1 in cc
    ] in
    rw (← c.self.view_is) (started-script script c.args.name c.args.code.now c.in-Ok-Running.core c.in-Ok-Running.report c.register.new.doors c.in-Some.serial started counted
    c.in_ok-register-in-Ok-Running.ensures.pushed)
