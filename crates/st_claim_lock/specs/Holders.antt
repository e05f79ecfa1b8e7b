-- What a contract sees of a lock: which one it is, what a holder of it claims, and what is out.
use Rattle.std.specs.Prelude.{◌≡◌, [], ◌∷◌, None}
use Rattle.atomic_table.specs.Seated.{TableId}
use Rattle.st_claim_lock.specs.declared.claim_lock.ClaimLock.{ClaimLock}
use Rattle.st_claim_lock.specs.declared.holder.Holder.{Holder}
use Rattle.st_claim_lock.specs.declared.taken.Taken.{Taken}
use Rattle.st_claim_lock.specs.Rule.{idle, holding}

-- which lock it is
abbrev pub LockId : Type 0
LockId = TableId

module _ {T V P : Type 0} where
  -- which lock this is
  abbrev pub lock_id : ClaimLock T V P → LockId
  lock_id lock = lock.table.shared.table_id

  -- the lock out of which the value was taken
  abbrev pub taken_from : Taken T V P → LockId
  taken_from taken = lock_id taken.lock.now

  -- the value as it was taken
  abbrev pub value_taken : Taken T V P → T
  value_taken taken = taken.was.value

module _ {T V : Type 0} where
  -- the lock of which this is a holder
  abbrev pub lock_of : Holder T V → LockId
  lock_of holder = holder.seat.table_id

  -- what the holder claims
  abbrev pub claim_of : Holder T V → V
  claim_of holder = holder.seat.me.0.claim

  -- the holder claims this, and has nothing out
  abbrev pub Claims : Holder T V → V → Type 0
  Claims holder claim = holder.seat.me ≡ (idle claim, [])

  -- the holder has nothing out, whatever it claims
  abbrev pub HasNothingOut : Holder T V → Type 0
  HasNothingOut holder = Claims holder (claim_of holder)

  -- the holder claims this, and has this value out
  abbrev pub HasOut : Holder T V → V → T → Type 0
  HasOut holder claim value = holder.seat.me ≡ (holding claim value, (0, None) ∷ [])
