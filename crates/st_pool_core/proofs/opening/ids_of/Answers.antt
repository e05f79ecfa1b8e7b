use Rattle.std.proofs.Common.{◌≡◌, true, false, map, arith, sym, ap, ◌∙◌}
use Rattle.std.proofs.lemmas.List.{take_all}
use Rattle.std.specs.HashSet.{contains}
use Rattle.st_pool_core.specs.Opening.{core_id}
use Rattle.st_scheduled.specs.ScheduledMachine.{same_id}
use Rattle.st_pool_core.proofs.MessageLemmas.{own_next, lawful_own}
use Rattle.st_pool_core.proofs.OpeningLemmas.{twice, distinct_each, ids_next, not_false, not_true}
use Rattle.st_pool_core.proofs.opening.ids_of.Goals as goal

-- the id stands among those before it
pub returns-then-not-branch : goal.returns-then-not-branch
returns-then-not-branch g c each =
    let there : contains same_id c.loop-core.ids.all c.id.result ≡ true = not_false _ (sym c.in_ok-insert.ensures.added ∙ c.if-not-branch.true) in
    twice c.args.cores.now c.loop-core.core-index c.core-item.result c.loop-core-test.true c.core-item.is (rw (c.loop-core.invariant.keys, c.id.ensures) at there) each

-- it is a new one
pub loop-core-preserved : goal.loop-core-preserved
loop-core-preserved g c =
    let absent : contains same_id c.loop-core.ids.all c.id.result ≡ false = not_true _ (sym c.in_ok-insert.ensures.added ∙ c.if-not-branch.false) in
    record {
      keys = ids_next c.args.cores.now c.loop-core.core-index c.core-item.result c.loop-core.ids.all.keys c.insert.new.self.keys c.loop-core-test.true c.core-item.is
          c.loop-core.invariant.keys (rw c.id.ensures at absent) (rw c.id.ensures at c.in_ok-insert.ensures.keys);
      unique = c.insert.ensures.unique;
      own = own_next c.args.cores.now c.loop-core.core-index c.core-item.result c.loop-core-test.true c.core-item.is c.loop-core.invariant.own
          (lawful_own c.core-item.result c.a_machine_is_lawful.ensures);
    }

-- all ids, and each is of one machine
pub returns : goal.returns
returns g c =
    let whole = take_all c.loop-core.core-index c.args.cores.now (omega arith) in
    let all : c.loop-core.ids.all.keys ≡ map core_id c.args.cores.now = c.loop-core.invariant.keys ∙ ap (map core_id) whole in
    (all, distinct_each c.args.cores.now (rw all at c.loop-core.invariant.unique), rw whole at c.loop-core.invariant.own)
