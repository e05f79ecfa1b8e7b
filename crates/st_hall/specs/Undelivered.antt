-- How many messages were lost, by why.
use Rattle.std.specs.Prelude.{ℕ, ◌+◌, ◌-◌, ◌^◌, min}
use Rattle.st_events.specs.declared.refusal.Refusal.{Refusal}
use Rattle.st_events.specs.declared.refusal.Refusal.TheVariants.{Stopped, Exhausted, NoSuchMachine}
use Rattle.st_hall.specs.declared.undelivered.Undelivered.{Undelivered}

-- no message was
abbrev pub none_lost : Undelivered
none_lost = record { stopped = 0; exhausted = 0; missing = 0 }

-- one more; the greatest count stays
abbrev pub one_more : ℕ → ℕ
one_more count = min (count + 1) (2 ^ 64 - 1)

-- a message was lost whose delivery was refused so
abbrev pub with_lost : Refusal → Undelivered → Undelivered
with_lost (Stopped reason) lost = record lost { stopped = one_more lost.stopped }
with_lost Exhausted lost = record lost { exhausted = one_more lost.exhausted }
with_lost NoSuchMachine lost = record lost { missing = one_more lost.missing }
with_lost _ lost = lost
