use Rattle.std.proofs.Common.{arith}
use Rattle.st_timer_map.proofs.timer_map.TimerMap.reserve.Goals as goal

-- so many more are reserved for
pub invariant_of-self-2 : goal.invariant_of-self-2
invariant_of-self-2 g c =
    let old = c.self.invariant in
    let made = c.in_ok-reserve_exact.ensures in
    rw made.items (record {
      once_each = old.once_each;
      tied = rw c.deref.ensures.value at c.reserve_places.ensures.tied;
      counted = old.counted;
      fits = omega (arith, c.in_ok-capacity.ensures, made.ok, made.len, c.saturating_sub.ensures, c.len.ensures, c.reserve_exact.new.self.ok);
      room = c.in_ok-reserve_places.ensures.room;
    })
