use Rattle.std.proofs.Common.{refl}
use Rattle.st_pool.proofs.CarryLemmas.{slept_none, slept_carries}
use Rattle.st_pool.proofs.ThreadLemmas.{counts_none, counts_found, counts_no_find, counts_turn, counts_sleep, counts_concluded, counts_as}
use Rattle.st_pool.proofs.work.work.Goals as goal
use Rattle.st_pool.proofs.work.work.Goals.{in-None, in-Some+then-is_closing, in-Some+else-is_closing+else-not-acquire+in-Some-serve_next+in_default-conclude}

pub loop-init : goal.loop-init
loop-init g c = (counts_none _ _, c.requires.woken, c.requires.carrying)

pub loop-preserved-then-not-acquire : goal.loop-preserved-then-not-acquire
loop-preserved-then-not-acquire g c =
    let none = c.if-not-acquire.ensures.none refl in (
      counts_sleep _ _ _ _ _ (counts_no_find _ _ _ c.acquire.new.worker _ c.loop.invariant.0 none) c.pause.ensures,
      slept_none c.loop.worker c.acquire.new.worker c.pause.new.worker c.loop.invariant.1 none c.pause.ensures,
      slept_carries c.loop.worker c.acquire.new.worker c.pause.new.worker c.loop.invariant.2 none c.pause.ensures,
    )

pub loop-preserved : goal.loop-preserved
loop-preserved g c = (
  counts_concluded _ _ c.serve_next.new.self _ _ (counts_turn _ _ c.acquire.new.worker _ _ _
      (counts_found _ _ _ _ _ c.loop.invariant.0 (c.if-not-acquire.ensures.found refl) c.if-not-acquire.ensures.put)
      c.saturating_add-turns.ensures c.in-Some-serve_next.ensures.served c.in-Some-serve_next.ensures.carrying) c.conclude.ensures.puts,
  c.in-Some-conclude.ensures.woken,
  c.conclude.ensures.carrying,
)

pub returns : goal.returns
returns g c = record {
  rounds = elim c.match-next.branch [
    | in-None w ↦ counts_as _ _ c.loop.worker _ _ _ c.loop.invariant.0 w.turns-is w.worker-is
    | in-Some+then-is_closing w ↦ counts_as _ _ c.loop.worker _ _ _ c.loop.invariant.0 w.turns-is w.worker-is
    | in-Some+else-is_closing+else-not-acquire+in-Some-serve_next+in_default-conclude w ↦ counts_as _ _ w.conclude.new.worker _ _ _
        (counts_concluded _ _ w.serve_next.new.self _ _ (counts_turn _ _ w.acquire.new.worker _ _ _
        (counts_found _ _ _ _ _ c.loop.invariant.0 (w.if-not-acquire.ensures.found refl) w.if-not-acquire.ensures.put)
        w.saturating_add-turns.ensures w.in-Some-serve_next.ensures.served w.in-Some-serve_next.ensures.carrying) w.conclude.ensures.puts)
        w.turns-is w.worker-is
  ];
}
