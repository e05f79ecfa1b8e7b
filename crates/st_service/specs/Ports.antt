-- A port of a service's machine: what was posted through it, and how many events may wait where it posts.
use Rattle.std.specs.Prelude.{◌≡◌, ◌⊎◌, ℕ, Result, Ok, Err}
use Rattle.st_events.specs.declared.refusal.Refusal.TheVariants.{NoMemory}
use Rattle.st_events.specs.declared.machine_id.MachineId.{MachineId}
use Rattle.st_core.specs.Callbacks.{Callbacks}
use Rattle.st_answers.specs.declared.entry.Entry.{Entry}
use Rattle.st_answers.specs.declared.entry.Entry.TheVariants.{Call}
use Rattle.st_client.specs.Called.{IsReceived}
use Rattle.st_client.specs.declared.called.Called.{Called}
use Rattle.st_journal.specs.declared.post.Post.{Post}
use Rattle.st_scheduled.specs.declared.posted.Posted.{Posted}
use Rattle.st_lock.specs.Bounded.{PostsWithin}
use Rattle.st_lock.specs.Ports.{PortState, posted}
use Rattle.st_lock.specs.declared.unposted.Unposted.{Unposted}
use Rattle.st_lock.specs.declared.unposted.Unposted.TheVariants.{Closed, Refused}

-- what a contract sees of a service's port: the port, and how many events may wait at its machine
pub record ServicePortState (C : Type 0) : Type 0 where
  pub port : PortState C
  pub limit : ℕ

-- an event was posted too
abbrev pub with_post : {C : Type 0} → Post C → ServicePortState C → ServicePortState C
with_post post old = record old { port = posted post old.port }

-- the number alone
abbrev pub numbered : {C : Type 0} → Result Posted (Unposted C) → Result ℕ (Unposted C)
numbered (Ok posted) = Ok posted.number
numbered (Err unposted) = Err unposted

module _ {M S D C : Type 0} (callbacks : M → Callbacks S D C) where
  -- the service takes no posts any more; or some lawful cell of the port's machine answers a bounded post so
  abbrev pub PostsUnlessClosed : MachineId → ℕ → ℕ → Entry → C → Result Posted (Unposted C) → Type 0
  PostsUnlessClosed id count limit entry content result =
      (result ≡ Err (Closed content)) ⊎ PostsWithin callbacks id count limit entry content result

  -- and so it is answered, by its number
  abbrev pub SendsWithin : MachineId → ℕ → ℕ → Entry → C → Result ℕ (Unposted C) → Type 0
  SendsWithin id count limit entry content result =
      (answer : Result Posted (Unposted C)) × PostsUnlessClosed id count limit entry content answer × (result ≡ numbered answer)

  -- a request is not sent: it is refused as a post is, or there was no memory
  abbrev pub IsNotAsked : MachineId → ℕ → ℕ → C → Unposted C → Type 0
  IsNotAsked id count limit content unposted =
      (unposted ≡ Refused (record { refusal = NoMemory; value = content })) ⊎ SendsWithin id count limit Call content (Err unposted)

  -- a call was posted under some number, and hears what waiting for its request answers
  abbrev pub IsAsked : {A : Type 0} → MachineId → ℕ → ℕ → C → Called M S D C A → Type 0
  IsAsked id count limit content called =
      (number : ℕ) × SendsWithin id count limit Call content (Ok number) × IsReceived callbacks (record { machine = id; request = number }) called
