-- A call posts one event at its port, and the request that it hands out, if it hands one out, is that event's.
use Rattle.std.specs.Prelude.{◌≡◌, ◌⊎◌, ℕ, Option, Some, None, IfSome, Result, Ok, Err}
use Rattle.st_core.specs.Callbacks.{Callbacks}
use Rattle.st_answers.specs.declared.command.Command.TheVariants as command
use Rattle.st_answers.specs.declared.entry.Entry.{Entry}
use Rattle.st_answers.specs.declared.entry.Entry.TheVariants.{Call}
use Rattle.st_events.specs.declared.refusal.Refusal.{Refusal}
use Rattle.st_events.specs.declared.refusal.Refusal.TheVariants.{NoMemory}
use Rattle.st_events.specs.declared.refused.Refused.{Refused}
use Rattle.st_events.specs.declared.tag.Tag.{Tag}
use Rattle.st_events.specs.declared.token.Token.{Token}
use Rattle.st_events.specs.declared.machine_id.MachineId.{MachineId}
use Rattle.st_requests.specs.declared.collected.Collected.{Collected}
use Rattle.st_requests.specs.declared.collected.Collected.TheVariants as collected
use Rattle.st_scheduled.specs.Answered.{collected_as, posted_as}
use Rattle.st_scheduled.specs.declared.posted.Posted.{Posted}
use Rattle.st_lock.specs.Machines.{IsToldSomewhere, PostsSomewhere}
use Rattle.st_lock.specs.Ports.{PortState, posted}
use Rattle.st_client.specs.declared.sent.Sent.{Sent}
use Rattle.st_client.specs.declared.called.Called.{Called}
use Rattle.st_client.specs.declared.called.Called.TheVariants.{Reply, Stopped, Gone, Uncollected, Unscheduled}

-- a token names a machine, if there is one
abbrev pub NamesMachine : MachineId → Option Token → Type 0
NamesMachine id token = IfSome token (λ (one : Token). one.machine ≡ id)

module _ {M S D C A : Type 0} where
  -- the request that is handed out
  abbrev pub request_in : Called M S D C A → Option Tag
  request_in (Reply content) = None
  request_in (Stopped reason) = None
  request_in Gone = None
  request_in (Uncollected id refusal) = Some id
  request_in (Unscheduled id token) = Some id

  -- the token that is left
  abbrev pub token_in : Called M S D C A → Option Token
  token_in (Reply content) = None
  token_in (Stopped reason) = None
  token_in Gone = None
  token_in (Uncollected id refusal) = None
  token_in (Unscheduled id token) = Some token

  -- a call with this content was posted, and a token that is left names the port's machine
  pub record IsCall (content : C) (called : Called M S D C A) (old new : PortState C) : Type 0 where
    pub number : ℕ
    pub posted : new ≡ posted (record { number = number; entry = Call; content = content }) old
    pub request : IfSome (request_in called) (λ (tag : Tag). tag ≡ record { machine = old.machine; request = number })
    pub token : NamesMachine old.machine (token_in called)

module _ {M S D C : Type 0} (callbacks : M → Callbacks S D C) where
  -- some lawful cell of this id, by a port of it that has posted so many events, takes this post: its number is answered, and a
  -- token that is left is the one that the machine was issued
  pub record IsSent (id : MachineId) (count : ℕ) (entry : Entry) (content : C) (number : ℕ) (left : Option Token) : Type 0 where
    pub answer : Posted
    pub taken : PostsSomewhere callbacks id count entry content (posted_as (Ok answer))
    pub numbered : number ≡ answer.number
    pub issued : IfSome left (λ (token : Token). answer.wake ≡ Some token)

  -- some such cell refuses this post for this reason
  abbrev pub IsUnsent : MachineId → ℕ → Entry → C → Refused C → Type 0
  IsUnsent id count entry content refused = PostsSomewhere callbacks id count entry content (posted_as (Err refused))

  -- a request is not sent: some such cell refuses its post, or there was no memory
  abbrev pub IsNotAsked : MachineId → ℕ → C → Refused C → Type 0
  IsNotAsked id count content refused = (refused.refusal ≡ NoMemory) ⊎ IsUnsent id count Call content refused

  -- some lawful cell of the request's machine answers a collect so
  abbrev pub IsCollected : Tag → Result (Collected C) Refusal → Type 0
  IsCollected id collected = IsToldSomewhere callbacks id.machine (command.Collect id) (collected_as collected)

module _ {M S D C A : Type 0} (callbacks : M → Callbacks S D C) where
  -- what waiting for a request answers: what some such cell answers a collect, and never that the reply is still waited for
  abbrev pub IsReceived : Tag → Called M S D C A → Type 0
  IsReceived id (Reply content) = IsCollected callbacks id (Ok (collected.Reply content))
  IsReceived id (Stopped reason) = IsCollected callbacks id (Ok (collected.Stopped reason))
  IsReceived id Gone = IsCollected callbacks id (Ok collected.Gone)
  IsReceived id (Uncollected again refusal) = (again ≡ id) × IsCollected callbacks id (Err refusal)
  IsReceived id (Unscheduled again token) = ⊥

  -- what a call hears whose request this is: nobody waits where a token is left; else what waiting for it answers
  abbrev pub IsHeard : Tag → Option Token → Called M S D C A → Type 0
  IsHeard id (Some left) (Unscheduled own token) = (own ≡ id) × (token ≡ left)
  IsHeard id (Some left) called = ⊥
  IsHeard id None called = IsReceived id called

  -- some lawful cell of this id takes the post of a call, and the call hears this
  pub record IsAsked (id : MachineId) (count : ℕ) (content : C) (called : Called M S D C A) : Type 0 where
    pub number : ℕ
    pub left : Option Token
    pub sent : IsSent callbacks id count Call content number left
    pub heard : IsHeard (record { machine = id; request = number }) left called
