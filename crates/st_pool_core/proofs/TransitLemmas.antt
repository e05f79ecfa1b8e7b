-- Messages in transit, before and after a worker takes one up or lays it down; and the hands of the other workers.
use Rattle.std.proofs.Common.{◌≡◌, ◌≢◌, ℕ, zero, suc, ◌+◌, ◌-◌, ◌<◌, ◌≤◌, inl, inr, Bool, true, false, ◌==◌, if◌then◌else◌, Option, Some, None, is_some, is_none, List, [], ◌∷◌, length, slice_get, slice_index_or, refl, ap, arith}
use Rattle.std.proofs.lemmas.Bool.{cases_Bool, ne_eqb}
use Rattle.st_events.specs.declared.machine_id.MachineId.{MachineId}
use Rattle.st_events.specs.declared.message.Message.{Message}
use Rattle.st_events.specs.declared.token.Token.{Token}
use Rattle.st_scheduled.specs.ScheduledMachine.{same_id}
use Rattle.st_scheduled.proofs.TokensCompared.{some_is}
use Rattle.st_pool_core.specs.Queues.{WorkerState, Queues, changed_at, with_hand, hand_at, is_free_at, worker_in, hand_in, is_free, handed}
use Rattle.st_pool_core.specs.Transit.{message_in, is_carrying, with_message, if_from, transit_of}

module _ {X : Type 0} where
  -- ---- one of a list becomes another
  -- another place is as it was
  pub index_other : (f : X → X) (xs : List X) (place other : ℕ) (d : X) → place ≢ other → slice_index_or (changed_at place f xs) other d ≡ slice_index_or xs other d
  index_other f [] place other d apart = refl
  index_other f (x ∷ xs) zero zero d apart = absurd (apart refl)
  index_other f (x ∷ xs) zero (suc other) d apart = refl
  index_other f (x ∷ xs) (suc place) zero d apart = refl
  index_other f (x ∷ xs) (suc place) (suc other) d apart = index_other f xs place other d (λ same. apart (ap suc same))

  get_other : (f : X → X) (xs : List X) (place other : ℕ) → place ≢ other → slice_get (changed_at place f xs) other ≡ slice_get xs other
  get_other f [] place other apart = refl
  get_other f (x ∷ xs) zero zero apart = absurd (apart refl)
  get_other f (x ∷ xs) zero (suc other) apart = refl
  get_other f (x ∷ xs) (suc place) zero apart = refl
  get_other f (x ∷ xs) (suc place) (suc other) apart = get_other f xs place other (λ same. apart (ap suc same))

-- what is found at a number is as it was, where it is at the places from 1 on
seen_unless : {Y : Type 0} (none : Bool) (nothing one other : Y) → (none ≡ false → one ≡ other) → (if none then nothing else one) ≡ (if none then nothing else other)
seen_unless true nothing one other h = refl
seen_unless false nothing one other h = h refl

-- numbers that differ, from 1 on, have places that differ
places_apart : (one other : ℕ) → 0 < one → (other == 0) ≡ false → one ≢ other → (one - 1) ≢ (other - 1)
places_apart one other h k apart same =
    let more : 0 < other = grind (arith, k) in
    apart (omega (arith, h, more, same))

-- ---- hands
-- the hand of another worker is as it was
pub hand_other : (queues : Queues) (worker other : ℕ) (hand : Option Token) → worker ≢ other → 0 < worker
    → hand_in (handed queues worker hand) other ≡ hand_in queues other
hand_other queues worker other hand apart some =
    ap hand_at (seen_unless (other == 0) None (slice_get (changed_at (worker - 1) (with_hand hand) queues.workers) (other - 1)) (slice_get queues.workers (other - 1))
    (λ more. get_other (with_hand hand) queues.workers (worker - 1) (other - 1) (places_apart worker other some more apart)))

-- a hand that is free holds nothing
free_by : (found : Option WorkerState) (token : Token) → is_free_at found ≡ true → hand_at found ≡ Some token → ⊥
free_by None token free held = cc
free_by (Some worker) token free held = let nothing : is_none (Some token) ≡ true = rw held at free in cc

pub free_holds : (queues : Queues) (worker : ℕ) (token : Token) → is_free queues worker ≡ true → hand_in queues worker ≡ Some token → ⊥
free_holds queues worker token free held = free_by (worker_in queues worker) token free held

module _ {C : Type 0} where
  -- ---- what a worker carries
  -- what another worker carries is as it was
  pub message_other : (transit : List (Option (Message C))) (worker other : ℕ) (carried : Option (Message C)) → worker ≢ other → 0 < worker
      → message_in (with_message transit worker carried) other ≡ message_in transit other
  message_other transit worker other carried apart some =
      seen_unless (other == 0) None (slice_index_or (with_message transit worker carried) (other - 1) None) (slice_index_or transit (other - 1) None)
      (λ more. index_other (λ (old : Option (Message C)). carried) transit (worker - 1) (other - 1) None (places_apart worker other some more apart))

  -- by place
  found_by : (none : Bool) (found : Option (Message C)) (message : Message C) → (if none then None else found) ≡ Some message → (none ≡ false) × (found ≡ Some message)
  found_by true found message h = cc
  found_by false found message h = (refl, h)

  pub message_there : (transit : List (Option (Message C))) (worker : ℕ) (message : Message C) → message_in transit worker ≡ Some message
      → (0 < worker) × (slice_index_or transit (worker - 1) None ≡ Some message)
  message_there transit worker message h =
      let parts = found_by (worker == 0) (slice_index_or transit (worker - 1) None) message h in
      (grind (arith, parts.0), parts.1)

  pub message_at : (transit : List (Option (Message C))) (place : ℕ) → message_in transit (place + 1) ≡ slice_index_or transit place None
  message_at transit place =
      let apart : ((place + 1) == 0) ≡ false = ne_eqb (place + 1) 0 (λ same. absurd (omega (arith, same))) in
      let back : place + 1 - 1 ≡ place = omega arith in
      rw (apart, back) refl

  -- one that carries nothing
  none_carried : (found : Option (Message C)) → is_some found ≡ false → found ≡ None
  none_carried None h = refl
  none_carried (Some message) h = cc

  pub not_carrying : (transit : List (Option (Message C))) (worker : ℕ) → is_carrying transit worker ≡ false → message_in transit worker ≡ None
  not_carrying transit worker h = none_carried (message_in transit worker) h

  none_by : (none : Bool) (found : Option (Message C)) → none ≡ false → (if none then None else found) ≡ None → found ≡ None
  none_by true found some h = cc
  none_by false found some h = h

  pub nothing_at : (transit : List (Option (Message C))) (worker : ℕ) → 0 < worker → message_in transit worker ≡ None → slice_index_or transit (worker - 1) None ≡ None
  nothing_at transit worker some h =
      none_by (worker == 0) (slice_index_or transit (worker - 1) None) (ne_eqb worker 0 (λ same. absurd (omega (arith, some, same)))) h

  -- what is put at a place is found there, or nothing is
  put_at : (transit : List (Option (Message C))) (place : ℕ) (carried message : Message C)
      → slice_index_or (changed_at place (λ (old : Option (Message C)). Some carried) transit) place None ≡ Some message → carried ≡ message
  put_at [] place carried message h = cc
  put_at (one ∷ others) zero carried message h = some_is carried message h
  put_at (one ∷ others) (suc place) carried message h = put_at others place carried message h

  pub message_put : (transit : List (Option (Message C))) (worker : ℕ) (carried message : Message C) → message_in (with_message transit worker (Some carried)) worker ≡ Some message
      → carried ≡ message
  message_put transit worker carried message h = put_at transit (worker - 1) carried message (message_there (with_message transit worker (Some carried)) worker message h).1

  gone_at : (transit : List (Option (Message C))) (place : ℕ) → slice_index_or (changed_at place (λ (old : Option (Message C)). None) transit) place None ≡ None
  gone_at [] place = refl
  gone_at (one ∷ others) zero = refl
  gone_at (one ∷ others) (suc place) = gone_at others place

  -- a worker that has laid its message down carries none
  pub message_gone : (transit : List (Option (Message C))) (worker : ℕ) (message : Message C) → message_in (with_message transit worker None) worker ≡ Some message → ⊥
  message_gone transit worker message h =
      let there = (message_there (with_message transit worker None) worker message h).1 in
      let gone = gone_at transit (worker - 1) in cc

  pub length-changed : (place : ℕ) (carried : Option (Message C)) (transit : List (Option (Message C)))
      → length (changed_at place (λ (old : Option (Message C)). carried) transit) ≡ length transit
  length-changed place carried [] = refl
  length-changed zero carried (one ∷ others) = refl
  length-changed (suc place) carried (one ∷ others) = ap suc (length-changed place carried others)

  -- ---- the messages in transit of one sender
  -- they are none where no worker carries one
  pub transit_none : (id : MachineId) (transit : List (Option (Message C)))
      → ((place : ℕ) (message : Message C) → slice_index_or transit place None ≡ Some message → same_id id message.sender ≡ true → ⊥) → transit_of id transit ≡ []
  transit_none id [] none = refl
  transit_none id (None ∷ others) none = transit_none id others (λ place message at. none (suc place) message at)
  transit_none id (Some message ∷ others) none =
      elim (cases_Bool (same_id id message.sender)) [
        | inl own ↦ absurd (none 0 message refl own)
        | inr other ↦ rw other (transit_none id others (λ place one at. none (suc place) one at))
      ]

  -- one comes to none
  pub transit_put : (id : MachineId) (message : Message C) → same_id id message.sender ≡ true → (transit : List (Option (Message C))) (place : ℕ) → place < length transit
      → slice_index_or transit place None ≡ None → transit_of id transit ≡ [] → transit_of id (changed_at place (λ (old : Option (Message C)). Some message) transit) ≡ message ∷ []
  transit_put id message own [] place within at none = absurd (omega (arith, within))
  transit_put id message own (None ∷ others) zero within at none = rw (own, none) refl
  transit_put id message own (Some one ∷ others) zero within at none = cc
  transit_put id message own (None ∷ others) (suc place) within at none = transit_put id message own others place (omega (arith, within)) at none
  transit_put id message own (Some one ∷ others) (suc place) within at none =
      elim (cases_Bool (same_id id one.sender)) [
        | inl mine ↦ let some = rw mine at none in cc
        | inr other ↦ rw other (transit_put id message own others place (omega (arith, within)) at (rw other at none))
      ]

  -- the only one leaves
  pub transit_only : (id : MachineId) (message : Message C) → same_id id message.sender ≡ true → (transit : List (Option (Message C))) (place : ℕ)
      → slice_index_or transit place None ≡ Some message → transit_of id (changed_at place (λ (old : Option (Message C)). None) transit) ≡ [] → transit_of id transit ≡ message ∷ []
  transit_only id message own [] place at none = cc
  transit_only id message own (one ∷ others) zero at none = rw (at, own, none) refl
  transit_only id message own (None ∷ others) (suc place) at none = transit_only id message own others place at none
  transit_only id message own (Some one ∷ others) (suc place) at none =
      elim (cases_Bool (same_id id one.sender)) [
        | inl mine ↦ let some = rw mine at none in cc
        | inr other ↦ rw other (transit_only id message own others place at (rw other at none))
      ]

  -- another's comes or leaves
  pub transit_put_other : (id : MachineId) (message : Message C) → same_id id message.sender ≡ false → (transit : List (Option (Message C))) (place : ℕ)
      → slice_index_or transit place None ≡ None → transit_of id (changed_at place (λ (old : Option (Message C)). Some message) transit) ≡ transit_of id transit
  transit_put_other id message other [] place at = refl
  transit_put_other id message other (None ∷ others) zero at = rw other refl
  transit_put_other id message other (Some one ∷ others) zero at = cc
  transit_put_other id message other (None ∷ others) (suc place) at = transit_put_other id message other others place at
  transit_put_other id message other (Some one ∷ others) (suc place) at =
      ap (λ (rest : List (Message C)). if_from id one rest) (transit_put_other id message other others place at)

  pub transit_gone_other : (id : MachineId) (message : Message C) → same_id id message.sender ≡ false → (transit : List (Option (Message C))) (place : ℕ)
      → slice_index_or transit place None ≡ Some message → transit_of id (changed_at place (λ (old : Option (Message C)). None) transit) ≡ transit_of id transit
  transit_gone_other id message other [] place at = cc
  transit_gone_other id message other (one ∷ others) zero at = rw (at, other) refl
  transit_gone_other id message other (None ∷ others) (suc place) at = transit_gone_other id message other others place at
  transit_gone_other id message other (Some one ∷ others) (suc place) at =
      ap (λ (rest : List (Message C)). if_from id one rest) (transit_gone_other id message other others place at)

  -- there is one at most, where no two places have one
  pub transit_sole : (id : MachineId) (transit : List (Option (Message C)))
      → ((place other : ℕ) (one two : Message C) → slice_index_or transit place None ≡ Some one → slice_index_or transit other None ≡ Some two
      → same_id id one.sender ≡ true → same_id id two.sender ≡ true → place ≡ other) → length (transit_of id transit) ≤ 1
  transit_sole id [] sole = omega arith
  transit_sole id (None ∷ others) sole =
      transit_sole id others (λ place other one two at there mine his. let next : suc place ≡ suc other = sole (suc place) (suc other) one two at there mine his in omega (arith, next))
  transit_sole id (Some message ∷ others) sole =
      elim (cases_Bool (same_id id message.sender)) [
        | inl mine ↦
            let none : transit_of id others ≡ [] =
            transit_none id others (λ place one at his. let same : 0 ≡ suc place = sole 0 (suc place) message one refl at mine his in absurd (omega (arith, same))) in
            rw (mine, none) (omega arith)
        | inr apart ↦
            rw apart (transit_sole id others (λ place other one two at there mine his.
            let next : suc place ≡ suc other = sole (suc place) (suc other) one two at there mine his in omega (arith, next)))
      ]
