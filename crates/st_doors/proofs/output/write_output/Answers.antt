use Rattle.std.proofs.Common.{◌++◌, take, arith, append_assoc}
use Rattle.std.proofs.lemmas.Grind.{common_steps}
use Rattle.st_doors.proofs.StreamLemmas.{appends_more}
use Rattle.st_doors.proofs.output.write_output.Goals as goal

-- the bytes that were written grow by the front that this write took
pub loop-rest-preserved : goal.loop-rest-preserved
loop-rest-preserved g c =
    let written = c.loop-rest.invariant.1.0 in
    let more = c.in_ok-count.ensures.bytes in (
      grind (arith, common_steps),
      (
        written ++ take c.in_ok-count.count c.loop-rest.rest.now,
        grind (arith, common_steps, append_assoc),
        appends_more _ _ _ _ _ c.loop-rest.invariant.1.2 more,
      ),
    )
