use Rattle.std.proofs.Common.{◌∙◌, ap}
use Rattle.st_door.specs.Script.{is_fault}
use Rattle.st_door.proofs.ScriptLemmas.{after_step, faulty_step}
use Rattle.st_door.proofs.run.trace_lines.Goals as goal

-- one line was done
pub loop-bytes-preserved : goal.loop-bytes-preserved
loop-bytes-preserved c =
    let next = c.in_ok-effect.ensures.script in
    let here = c.loop-bytes-test.true in (
      after_step _ _ _ _ here _ next _ c.loop-bytes.invariant.0,
      faulty_step _ _ _ _ here _ next _ _ _ (c.is_fault-faulty.ensures ∙ ap is_fault c.in_ok-effect.ensures.effect) c.loop-bytes.invariant.1,
    )
