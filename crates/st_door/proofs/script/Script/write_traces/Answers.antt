use Rattle.std.proofs.Common.{rules, ◌≡◌, ◌+◌, List, ◌∷◌, ◌++◌, drop, get_or, refl, ap, ◌∙◌}
use Rattle.st_doors.specs.Doors.{NamedDoor}
use Rattle.st_door.specs.Script.{ScriptState}
use Rattle.st_doors.specs.Traces.{trace_of_door}
use Rattle.st_doors.proofs.DoorLemmas.{err_always}
use Rattle.st_doors.proofs.IdleLemmas.{no_door}
use Rattle.st_door.proofs.ScriptLemmas.{doors_left-cons, traces_step}
use Rattle.st_doors.proofs.StreamLemmas.{appends_more, front_more}
use Rattle.st_door.proofs.script.Script.write_traces.Goals as goal

-- one trace was written
pub loop-place-preserved : goal.loop-place-preserved
loop-place-preserved g c =
    let place = c.loop-place.place in
    let doors : List NamedDoor = c.args.self.now.doors in
    let door : NamedDoor = get_or doors place no_door in
    let here : drop place doors ≡ door ∷ drop (place + 1) doors = doors_left-cons doors place no_door (search rules) in
    let same : c.self.inside.doors ≡ c.args.self.now.doors = ap (λ (script : ScriptState). script.doors) c.self.view_is in
    let written = rw same at (c.in_ok-write_trace_at.ensures.written no_door) in (
      c.in_ok-write_trace_at.ensures.failures ∙ c.loop-place.invariant.0,
      (
        c.loop-place.invariant.1.0 ++ trace_of_door door,
        appends_more _ _ _ _ _ c.loop-place.invariant.1.1 written,
        traces_step _ (trace_of_door door) door _ _ _ here refl c.loop-place.invariant.1.2,
      ),
    )

-- the write stopped within a trace
pub returns-in_err-write_trace_at-clause-front : goal.returns-in_err-write_trace_at-clause-front
returns-in_err-write_trace_at-clause-front g c =
    let place = c.loop-place.place in
    let doors : List NamedDoor = c.args.self.now.doors in
    let door : NamedDoor = get_or doors place no_door in
    let here : drop place doors ≡ door ∷ drop (place + 1) doors = doors_left-cons doors place no_door (search rules) in
    let same : c.self.inside.doors ≡ c.args.self.now.doors = ap (λ (script : ScriptState). script.doors) c.self.view_is in
    let stopped = rw same at (c.in_err-write_trace_at.ensures.front no_door) in
    err_always _ _ (front_more _ _ _ _ (trace_of_door door) _ _ c.loop-place.invariant.1.1 stopped
    (traces_step _ (trace_of_door door) door _ _ _ here refl c.loop-place.invariant.1.2))
