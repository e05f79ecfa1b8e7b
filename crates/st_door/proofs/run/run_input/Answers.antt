use Rattle.std.proofs.Common.{rules, ◌≡◌, ◌≤◌, ◌||◌, ℕ, zero, suc, Bool, true, false, if◌then◌else◌, List, [], ◌∷◌, ◌++◌, ◌∙◌, ap, arith, length, refl, Bor}
use Rattle.st_doors.proofs.DoorLemmas.{err_always}
use Rattle.st_door.specs.Script.{faulty_from}
use Rattle.st_door.proofs.ScriptLemmas.{lines_left, output_step, faulty_step}
use Rattle.st_doors.proofs.StreamLemmas.{appends_more, appends_nothing, front_more}
use Rattle.st_door.proofs.run.run_input.Goals as goal
use Rattle.st_door.proofs.run.run_input.Goals.{then-faulty, else-faulty}

-- nothing is written yet
pub loop-index-init : goal.loop-index-init
loop-index-init g c = (refl, ([], appends_nothing (g.W.Sink.held c.args.writer.now), search rules), search rules)

-- one line was done and written
pub loop-index-preserved : goal.loop-index-preserved
loop-index-preserved g c =
    let next = c.in_ok-faulty.ensures.script in
    let here = c.loop-index-test.true in (
      c.in_ok-faulty.ensures.failures ∙ c.loop-index.invariant.0,
      (
        c.loop-index.invariant.1.0 ++ _,
        appends_more _ _ _ _ _ c.loop-index.invariant.1.1 c.in_ok-faulty.ensures.written,
        output_step _ _ _ _ here _ next _ _ c.loop-index.invariant.1.2,
      ),
      faulty_step _ _ _ _ here _ next _ _ _ c.in_ok-faulty.ensures.faulty c.loop-index.invariant.2,
    )

-- the write stopped within a line
pub returns-in_err-faulty-clause-front : goal.returns-in_err-faulty-clause-front
returns-in_err-faulty-clause-front g c =
    err_always _ _ (front_more _ _ _ _ _ _ _ c.loop-index.invariant.1.1 c.in_err-faulty.ensures.front (output_step _ _ _ _ c.loop-index-test.true _ refl _ _ c.loop-index.invariant.1.2))

-- no line is left
left-none : (pieces : List (Bor (List ℕ))) (place : ℕ) → length pieces ≤ place → lines_left pieces place ≡ []
left-none [] zero over = refl
left-none [] (suc place) over = refl
left-none (piece ∷ pieces) zero over = absurd (omega arith)
left-none (piece ∷ pieces) (suc place) over = left-none pieces place (omega (arith, over))

one-faulty : (faulty left all : Bool) (status : ℕ) → status ≡ 1 → faulty ≡ true → (faulty || left) ≡ all → status ≡ (if all then 1 else 0)
one-faulty faulty left all status says is whole = rw (← whole, is) says

none-faulty : (faulty left all : Bool) (status : ℕ) → status ≡ 0 → faulty ≡ false → left ≡ false → (faulty || left) ≡ all → status ≡ (if all then 1 else 0)
none-faulty faulty left all status says is none whole = rw (← whole, is, none) says

pub returns-clause-status : goal.returns-clause-status
returns-clause-status g c =
    let over : length c.deref-bytes-items.result.now ≤ c.loop-index.index = omega (arith, c.loop-index-test.false) in
    let none : faulty_from c.loop-index.script (lines_left c.deref-bytes-items.result.now c.loop-index.index) ≡ false =
    ap (faulty_from c.loop-index.script) (left-none c.deref-bytes-items.result.now c.loop-index.index over) in
    elim c.if-faulty.branch [
      | then-faulty w ↦ one-faulty c.loop-index.faulty _ _ _ w.result-is w.if-faulty.true c.loop-index.invariant.2
      | else-faulty w ↦ none-faulty c.loop-index.faulty _ _ _ w.result-is w.if-faulty.false none c.loop-index.invariant.2
    ]
