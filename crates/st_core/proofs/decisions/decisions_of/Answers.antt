use Rattle.std.proofs.Common.{◌≡◌, ◌+◌, suc, [], drop, refl, ◌∙◌, arith}
use Rattle.std.proofs.lemmas.List.{drop_all}
use Rattle.st_actions.specs.Taking.{all_settings_of}
use Rattle.st_core.proofs.DecisionLemmas.{one_left, decision_more, decision_none, as_many_decisions, all_noted}
use Rattle.st_core.proofs.decisions.decisions_of.Goals as goal
use Rattle.st_core.proofs.decisions.decisions_of.Goals.{in-Some, in_default}

pub push_reserved-requires : goal.push_reserved-requires
push_reserved-requires g c =
    let left = one_left c.args.actions.now c.loop-index.index c.decision_at.result c.in-Some.decision c.loop-index.decisions.items _ c.decision_at.ensures c.in-Some.is c.loop-index.invariant.decisions in
    omega (arith, left, c.loop-index.invariant.reserved)

pub loop-index-preserved : goal.loop-index-preserved
loop-index-preserved g c =
    let next : c.loop-index.index + 1 ≡ suc c.loop-index.index = omega arith in
    record {
      decisions = elim c.match-decision_at.branch [
        | in-Some w ↦ rw w.decisions-is
            (decision_more c.args.actions.now c.loop-index.index (c.loop-index.index + 1) c.decision_at.result w.in-Some.decision c.loop-index.decisions.items _ _ next
            c.decision_at.ensures w.in-Some.is w.push_reserved.ensures.items c.loop-index.invariant.decisions)
        | in_default w ↦ rw w.decisions-is
            (decision_none c.args.actions.now c.loop-index.index (c.loop-index.index + 1) c.decision_at.result c.loop-index.decisions.items _ next
            c.decision_at.ensures w.in_default.is c.loop-index.invariant.decisions)
      ];
      reserved = elim c.match-decision_at.branch [
        | in-Some w ↦ rw w.decisions-is (w.push_reserved.ensures.capacity ∙ c.loop-index.invariant.reserved)
        | in_default w ↦ rw w.decisions-is c.loop-index.invariant.reserved
      ];
    }

pub loop-index-init : goal.loop-index-init
loop-index-init g c = record {
  decisions = rw c.in_ok-decisions.ensures.items refl;
  reserved = omega (arith, c.in_ok-decisions.ensures.exact, c.requires, as_many_decisions (all_settings_of c.args.actions.now));
}

-- each is noted
pub returns : goal.returns
returns g c =
    let all : drop c.loop-index.index c.args.actions.now ≡ [] = drop_all c.loop-index.index c.args.actions.now (omega (arith, c.loop-index-test.false, c.len-index-end.ensures.length)) in
    c.from.ensures ∙ all_noted c.loop-index.decisions.items [] _ refl (rw all at c.loop-index.invariant.decisions)
