-- What a port looks at and posts to, and whose journal is copied.
use Rattle.std.proofs.Common.{◌≡◌, ℕ, ◌+◌, Bool, true, false, List, [], ◌∷◌, ◌++◌, length, length-append, Result, Ok, Err, inl, inr, refl, ap, sym, ◌∙◌, subst}
use Rattle.std.specs.Prelude.{◌&&◌, if◌then◌else◌, Option, Some, None, is_none, IfOk, IfSome}
use Rattle.std.specs.Option.{option_map}
use Rattle.std.specs.Arc.{arc_value}
use Rattle.std.specs.Global.{Box}
use Rattle.st_events.specs.declared.machine_id.MachineId.{MachineId}
use Rattle.st_events.specs.declared.refusal.Refusal.{Refusal}
use Rattle.st_events.specs.declared.refused.Refused.{Refused}
use Rattle.st_events.specs.declared.token.Token.{Token}
use Rattle.st_answers.specs.declared.answer.Answer.{Answer}
use Rattle.st_answers.specs.declared.answer.Answer.TheVariants as answer
use Rattle.st_answers.specs.declared.command.Command.{Command}
use Rattle.st_answers.specs.declared.command.Command.TheVariants as command
use Rattle.st_answers.specs.declared.entry.Entry.{Entry}
use Rattle.st_answers.specs.declared.turned.Turned.TheVariants.{Reported, Idle}
use Rattle.st_core.specs.Callbacks.{Callbacks}
use Rattle.st_core.specs.MachineState.{Machine}
use Rattle.st_core.specs.Run.{step_on}
use Rattle.st_scheduled.specs.declared.outstanding.Outstanding.{Outstanding}
use Rattle.st_scheduled.specs.declared.posted.Posted.{Posted}
use Rattle.st_scheduled.specs.declared.step_answer.StepAnswer.TheVariants.{Posted as PostedAs, Moved, Rested}
use Rattle.st_scheduled.specs.declared.step_answer.StepAnswer.{StepAnswer}
use Rattle.st_scheduled.specs.Answered.{posted_as}
use Rattle.st_scheduled.specs.ScheduledMachine.{ScheduledMachine, has_message, has_work, id_of}
use Rattle.st_scheduled.specs.Serving.{content_of, counted, is_full, issued, needs_count, refused_with, retired, told_as, wake_of}
use Rattle.st_events.specs.declared.refusal.Refusal.TheVariants.{Exhausted}
use Rattle.st_scheduled.proofs.LeftStates.{step_id}
use Rattle.st_cell.specs.declared.journal.Journal.{Journal}
use Rattle.st_cell.specs.declared.look.Look.{Look}
use Rattle.st_cell.specs.Calls.{IsJournalOf, Posts, look_of}
use Rattle.st_cell.specs.Cell.{CellState, count_for, IsJournaled, IsOpen}
use Rattle.st_journal.specs.declared.post.Post.{Post}
use Rattle.st_claim_lock.specs.Holders.{lock_id, lock_of, claim_of, Claims, HasOut}
use Rattle.st_claim_lock.specs.declared.holder.Holder.{Holder}
use Rattle.st_post_counter.specs.Endpoint.{EndpointState}
use Rattle.st_post_counter.specs.Seen.{part, IsPart}
use Rattle.st_lock.specs.declared.claim.Claim.{Claim}
use Rattle.st_lock.specs.declared.port.Port.TheInside.{Inside}
use Rattle.st_lock.specs.Claims.{claim}
use Rattle.st_lock_inner.specs.Inner.{InnerState}
use Rattle.st_lock.specs.Machines.{IsCellOf, IsLookAt, IsJournalAt}
use Rattle.st_lock.specs.Ports.{IsPort, PortState, posted}
use Rattle.st_lock.proofs.ClaimLemmas.{claims_again}

-- a token that a machine of this id is issued, where it has work and none is outstanding, names the machine
token_named : (id : MachineId) (count : ℕ) (work : Bool) (token : Option Outstanding)
    → IfSome (if is_none token then option_map (λ (outstanding : Outstanding). record { machine = id; wake = outstanding.wake }) (issued count work token) else None)
    (λ (one : Token). one.machine ≡ id)
token_named id count true None = refl
token_named id count false None = tt
token_named id count work (Some outstanding) = tt

module _ {M S D C : Type 0} where
  -- a machine that has no event answers no post, whether it has a message or not
  idle_posts : (sending : Bool) (old : ScheduledMachine M S D C) (number : ℕ) (wake : Option Token)
      → ◌≡◌ {A = StepAnswer S C} (PostedAs number wake) (if◌then◌else◌ {A = StepAnswer S C × ScheduledMachine M S D C} sending (Moved, old) (Rested, retired old)).0 → ⊥
  idle_posts true old number wake is = cc
  idle_posts false old number wake is = cc

  -- the token that is handed out with a post's number names the machine
  told_named : (old : ScheduledMachine M S D C) (answered : Answer S C) (core : Machine M S D C) → core.machine.id ≡ id_of old
      → (number : ℕ) (wake : Option Token) → PostedAs number wake ≡ (told_as old answered core).0 → IfSome wake (λ (one : Token). one.machine ≡ id_of old)
  told_named old (answer.Post (Ok event)) core same number wake is =
      let shown : wake ≡ wake_of (counted old core) = cc in
      rw shown (subst (λ (id : MachineId). IfSome (wake_of (counted old core)) (λ (one : Token). one.machine ≡ id)) same
      (token_named core.machine.id (old.count + 1) (has_work core) old.token))
  told_named old (answer.Post (Err refused)) core same number wake is = absurd cc
  told_named old (answer.Tick (Ok expired)) core same number wake is = absurd cc
  told_named old (answer.Tick (Err refusal)) core same number wake is = absurd cc
  told_named old (answer.Turn (Ok (Reported report))) core same number wake is = absurd cc
  told_named old (answer.Turn (Ok Idle)) core same number wake is = absurd (idle_posts (has_message core) (record old { core = core }) number wake is)
  told_named old (answer.Turn (Err refusal)) core same number wake is = absurd cc
  told_named old (answer.Reply taken) core same number wake is = absurd cc
  told_named old (answer.Collect shown) core same number wake is = absurd cc
  told_named old (answer.Stop (Ok word)) core same number wake is = absurd cc
  told_named old (answer.Stop (Err refusal)) core same number wake is = absurd cc
  told_named old (answer.TakeOut message) core same number wake is = absurd cc

  -- also where the count may be full
  full_named : (full : Bool) (old : ScheduledMachine M S D C) (content : Option C) (answered : Answer S C) (core : Machine M S D C) → core.machine.id ≡ id_of old
      → (number : ℕ) (wake : Option Token) → PostedAs number wake ≡ (if full then (refused_with Exhausted content, old) else told_as old answered core).0
      → IfSome wake (λ (one : Token). one.machine ≡ id_of old)
  full_named true old content answered core same number wake is = absurd cc
  full_named false old content answered core same number wake is = told_named old answered core same number wake is

  module _ (callbacks : M → Callbacks S D C) where
    -- so it is with the token that a port's post hands out
    pub wake_named : (old : CellState M S D C) (new : CellState M S D C) (port : ℕ) (entry : Entry) (content : C) (result : Result Posted (Refused C))
        → Posts callbacks old port entry content (posted_as result) new
        → IfOk result (λ (posted : Posted). IfSome posted.wake (λ (one : Token). one.machine ≡ id_of old.scheduled))
    wake_named old new port entry content (Err refused) does = tt
    wake_named old new port entry content (Ok posted) (inl done) =
        let asked : Command C = command.Post entry content in
        let step = step_on callbacks old.scheduled.core asked in
        full_named (is_full old.scheduled && needs_count step.0) old.scheduled (content_of asked) step.0 step.1
        (step_id (callbacks old.scheduled.core.module_) old.scheduled.core.machine asked) posted.number posted.wake done.0
    wake_named old new port entry content (Ok posted) (inr failed) = let is = failed.1 in absurd cc

    -- the look of a cell, by a port of it that counts so many
    pub look_at : (id : MachineId) (cell : CellState M S D C) (port count : ℕ) (result : Result (Look S D) Refusal)
        → IfOk result (λ look. look ≡ look_of port cell) → IsCellOf callbacks id cell → IsOpen port cell → count_for port cell ≡ count
        → IfOk result (λ look. IsLookAt callbacks id count look)
    look_at id cell port count (Ok look) is own is_open counts = (cell, port, own, is_open, counts, is)
    look_at id cell port count (Err refusal) is own is_open counts = tt

    -- it shows how many events were posted through the port
    pub mine_at : (cell : CellState M S D C) (port count : ℕ) (result : Result (Look S D) Refusal) → IfOk result (λ look. look ≡ look_of port cell)
        → count_for port cell ≡ count → IfOk result (λ look. look.mine ≡ count)
    mine_at cell port count (Ok look) is counts = ap (λ (one : Look S D). one.mine) is ∙ counts
    mine_at cell port count (Err refusal) is counts = tt

    -- the journal of a cell
    pub journal_at : (cell : CellState M S D C) (id : MachineId) (label : List ℕ) (result : Result (Journal S C) Refusal)
        → IfOk result (λ journal. IsJournalOf cell label journal) → IsCellOf callbacks id cell → IfOk result (λ journal. IsJournalAt callbacks id label journal)
    journal_at cell id label (Ok journal) is own = (cell, own, is)
    journal_at cell id label (Err refusal) is own = tt

module _ {M S D C : Type 0} where
  -- the cell that was taken from under the lock is one of the machine
  pub taken_cell : (callbacks : M → Callbacks S D C) (id : MachineId) (taken looked inner : InnerState M S D C) → taken.cell.scheduled.core.machine.id ≡ id
      → looked ≡ taken → IsJournaled callbacks looked.cell → inner ≡ taken → IsCellOf callbacks id inner.cell
  taken_cell callbacks id taken looked inner own looks journaled is = record {
    own = ap (λ (one : InnerState M S D C). one.cell.scheduled.core.machine.id) is ∙ own;
    journaled = subst (λ (one : InnerState M S D C). IsJournaled callbacks one.cell) (looks ∙ sym is) journaled;
  }

module _ {M S D C A : Type 0} where
  -- ---- a port, after its holder gave the inner state back
  -- its endpoint is as it was
  pub port_kept : (port : Inside M S D C A) (end : EndpointState (Post C)) (was now : Holder (Option (Box (InnerState M S D C))) Claim)
      (value : Option (Box (InnerState M S D C))) → IsPort port → end ≡ port.end → HasOut was (claim port.number port.counter) value
      → Claims now (claim_of was) → lock_of now ≡ lock_id (arc_value port.machine).lock
      → IsPort (record { machine = port.machine; counter = port.counter; end = end; holder = now; number = port.number; count = port.count })
  port_kept port end was now value is same out claims lock = record {
    counter = ap (λ (one : EndpointState (Post C)). one.counter) same ∙ is.counter;
    part = subst (λ (one : EndpointState (Post C)). IsPart one.seen) (sym same) is.part;
    count = is.count ∙ ap (λ (one : EndpointState (Post C)). length one.seen.posts) (sym same);
    lock = lock;
    claims = claims_again was now (claim port.number port.counter) value out claims;
  }

  -- its endpoint saw a post
  pub port_posted : (port : Inside M S D C A) (end : EndpointState (Post C)) (post : Post C) (was now : Holder (Option (Box (InnerState M S D C))) Claim)
      (value : Option (Box (InnerState M S D C))) → IsPort port → end ≡ record port.end { seen = part (port.end.seen.posts ++ post ∷ []) }
      → HasOut was (claim port.number port.counter) value → Claims now (claim_of was) → lock_of now ≡ lock_id (arc_value port.machine).lock
      → IsPort (record { machine = port.machine; counter = port.counter; end = end; holder = now; number = port.number; count = port.count + 1 })
  port_posted port end post was now value is saw out claims lock = record {
    counter = ap (λ (one : EndpointState (Post C)). one.counter) saw ∙ is.counter;
    part = subst (λ (one : EndpointState (Post C)). IsPart one.seen) (sym saw) refl;
    count = ap (λ (n : ℕ). n + 1) is.count ∙ (sym (length-append port.end.seen.posts (post ∷ []))
        ∙ ap (λ (one : EndpointState (Post C)). length one.seen.posts) (sym saw));
    lock = lock;
    claims = claims_again was now (claim port.number port.counter) value out claims;
  }

-- ---- what a contract sees of a port
module _ {C : Type 0} where
  -- a port whose endpoint is as it was
  pub seen_kept : (id : MachineId) (was now : EndpointState (Post C)) (port : PortState C) → now ≡ was
      → ◌≡◌ {A = PortState C} (record { machine = id; posts = was.seen.posts }) port → ◌≡◌ {A = PortState C} (record { machine = id; posts = now.seen.posts }) port
  seen_kept id was now port same is = rw same is

  -- a port whose endpoint saw a post
  pub seen_posted : (id : MachineId) (was now : EndpointState (Post C)) (post : Post C) (port : PortState C) → now ≡ record was { seen = part (was.seen.posts ++ post ∷ []) }
      → ◌≡◌ {A = PortState C} (record { machine = id; posts = was.seen.posts }) port
      → ◌≡◌ {A = PortState C} (record { machine = id; posts = now.seen.posts }) (posted post port)
  seen_posted id was now post port saw is = rw saw (ap (λ (one : PortState C). posted post one) is)
