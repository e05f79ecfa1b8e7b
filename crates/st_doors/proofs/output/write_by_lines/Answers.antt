use Rattle.std.proofs.Common.{rules, ◌≡◌, List, ℕ, ◌++◌, arith, append_assoc, sym, ap, ◌∙◌}
use Rattle.std.proofs.lemmas.Grind.{common_steps}
use Rattle.st_doors.proofs.StreamLemmas.{front_more, appends_more}
use Rattle.st_doors.proofs.output.write_by_lines.Goals as goal

-- one line more is written
pub loop-rest-preserved : goal.loop-rest-preserved
loop-rest-preserved g c =
    let written : List ℕ = c.loop-rest.invariant.1.0 in
    let line : List ℕ = c.split_at.result.0.now in
    let more : List ℕ = c.split_at.result.1.now in
    let parts : c.loop-rest.rest.now ≡ line ++ more = grind (arith, common_steps) in (
      grind (arith, common_steps),
      (
        written ++ line,
        c.loop-rest.invariant.1.1 ∙ (ap (λ t. written ++ t) parts ∙ sym (append_assoc written line more)),
        appends_more _ _ _ _ _ c.loop-rest.invariant.1.2 c.in_ok-write_output.ensures.written,
      ),
    )

-- the write stopped within a line
pub returns-in_err-write_output-clause-front : goal.returns-in_err-write_output-clause-front
returns-in_err-write_output-clause-front g c =
    let written : List ℕ = c.loop-rest.invariant.1.0 in
    let line : List ℕ = c.split_at.result.0.now in
    let more : List ℕ = c.split_at.result.1.now in
    let parts : c.loop-rest.rest.now ≡ line ++ more = grind (arith, common_steps) in
    let whole : (written ++ line) ++ more ≡ c.args.bytes.now =
    append_assoc written line more ∙ (ap (λ t. written ++ t) (sym parts) ∙ sym c.loop-rest.invariant.1.1) in
    let front = front_more _ _ _ written line more _ c.loop-rest.invariant.1.2 c.in_err-write_output.ensures.front whole in
    search rules
