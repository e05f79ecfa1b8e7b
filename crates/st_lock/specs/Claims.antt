-- What is claimed of the inner state under a machine's lock.
use Rattle.std.specs.Prelude.{◌≡◌, ℕ, Option, Some, None, IfSome}
use Rattle.std.specs.Option.{option_map}
use Rattle.std.specs.Global.{Box}
use Rattle.st_lock.specs.declared.claim.Claim.{Claim}
use Rattle.st_lock.specs.declared.opened.Opened.{Opened}
use Rattle.st_lock_inner.specs.Inner.{InnerState, HasEnd, counters_of}
use Rattle.st_post_counter.specs.Endpoint.{CounterId}

-- nothing is claimed
abbrev pub newcomer : Claim
newcomer = record { opened = None }

-- the machine's endpoint of this port is of this counter
abbrev pub claim : ℕ → CounterId → Claim
claim port counter = record { opened = Some (record { port = port; counter = counter }) }

module _ {M S D C : Type 0} where
  -- there is an inner state, and the machine's endpoint of this port on it is of this counter
  pub record HasEndOf (under : Option (InnerState M S D C)) (opened : Opened) : Type 0 where
    pub inner : InnerState M S D C
    pub there : under ≡ Some inner
    pub end : HasEnd inner opened.port opened.counter

  -- what lies under a lock is as is claimed, if anything is
  abbrev pub Fits : Option (InnerState M S D C) → Claim → Type 0
  Fits under claimed = IfSome claimed.opened (λ (opened : Opened). HasEndOf under opened)

  -- the inner state that lies there, if one does
  abbrev pub inner_of : Option (Box (InnerState M S D C)) → Option (InnerState M S D C)
  inner_of under = option_map (λ (inner : Box (InnerState M S D C)). inner.value) under

  -- its endpoints are of the same counters, if one lies there
  abbrev pub HasSameCounters : Option (Box (InnerState M S D C)) → InnerState M S D C → Type 0
  HasSameCounters under inner = IfSome (inner_of under) (λ (was : InnerState M S D C). counters_of inner.ends ≡ counters_of was.ends)
