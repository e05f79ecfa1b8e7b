use Rattle.std.proofs.Common.{refl, arith}
use Rattle.std.proofs.lemmas.Grind.{common_steps}
use Rattle.st_core.proofs.TransitionLemmas.{one_number_more}
use Rattle.st_core.proofs.numbers.numbers_from.Goals as goal

-- one more number stands behind the others
pub loop-place-preserved : goal.loop-place-preserved
loop-place-preserved c =
    let before = c.loop-place.invariant in
    record {
      numbers = one_number_more c.args.first c.loop-place.place _ before.numbers refl c.push_reserved.ensures.items;
      count = grind (arith, common_steps);
      reserved = grind (arith, common_steps);
    }
