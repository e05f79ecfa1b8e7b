use Rattle.std.proofs.Common.{◌≡◌, ◌==◌, ℕ, length, take, sym, ap, ◌∙◌, arith}
use Rattle.std.specs.List.{list_any}
use Rattle.std.proofs.Math.Seq.{take-length}
use Rattle.st_actions.proofs.NotedLemmas.{none_of_more, one_of_them}
use Rattle.st_actions.proofs.noted_timers.has_name.Goals as goal

pub returns-then-is_name_at : goal.returns-then-is_name_at
returns-then-is_name_at c =
    sym (one_of_them (λ (other : ℕ). c.args.name == other) c.args.names.now c.loop-index.index (sym c.is_name_at.ensures ∙ c.if-is_name_at.true))

pub loop-index-preserved : goal.loop-index-preserved
loop-index-preserved c = record {
  none = none_of_more (λ (other : ℕ). c.args.name == other) c.args.names.now c.loop-index.index
      (omega (arith, c.loop-index-test.true, c.len-index-end.ensures.length)) c.loop-index.invariant.none (sym c.is_name_at.ensures ∙ c.if-is_name_at.false);
}

pub returns : goal.returns
returns c =
    let all : c.loop-index.index ≡ length c.args.names.now =
    omega (arith, c.loop-index-test.false, c.loop-index.auto.index-end, c.len-index-end.ensures.length) in
    sym (ap (λ (names : _). list_any (λ (other : ℕ). c.args.name == other) names) (sym (ap (λ (n : ℕ). take n c.args.names.now) all ∙ take-length c.args.names.now)) ∙ c.loop-index.invariant.none)
