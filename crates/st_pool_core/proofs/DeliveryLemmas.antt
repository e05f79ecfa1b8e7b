-- Messages go their way: each step moves a machine's messages on, in their order.
use Rattle.std.proofs.Common.{◌≡◌, ℕ, ◌+◌, ◌-◌, ◌<◌, ◌≤◌, ◌⊎◌, inl, inr, Bool, true, false, ◌&&◌, if◌then◌else◌, Option, Some, None, List, [], ◌∷◌, ◌++◌, length, refl, sym, ap, subst, ◌∙◌, append-nil, arith}
use Rattle.std.proofs.lemmas.Bool.Decides.{eqb_tells}
use Rattle.std.proofs.lemmas.List.{append_assoc}
use Rattle.st_events.specs.declared.machine_id.MachineId.{MachineId}
use Rattle.st_events.specs.declared.message.Message.{Message}
use Rattle.st_events.specs.declared.refusal.Refusal.{Refusal}
use Rattle.st_events.specs.declared.refusal.Refusal.TheVariants.{NotPossible, NoSuchMachine}
use Rattle.st_events.specs.declared.refused.Refused.{Refused}
use Rattle.st_events.specs.declared.token.Token.{Token}
use Rattle.st_outbox.specs.Outbox.{first_message, without_message}
use Rattle.st_answers.specs.declared.command.Command.{Command}
use Rattle.st_answers.specs.declared.command.Command.TheVariants as command
use Rattle.st_answers.specs.declared.entry.Entry.TheVariants.{Info}
use Rattle.st_answers.specs.declared.report.Report.{Report}
use Rattle.st_core.specs.Callbacks.{Callbacks}
use Rattle.st_core.proofs.OutboxLemmas.{is_quiet}
use Rattle.st_scheduled.specs.declared.step_answer.StepAnswer.{StepAnswer}
use Rattle.st_scheduled.specs.declared.step_answer.StepAnswer.TheVariants as said
use Rattle.st_scheduled.specs.ScheduledMachine.{ScheduledMachine, id_of, same_id, has_message, moved}
use Rattle.st_scheduled.specs.Serving.{is_turn, refused_with, told_on, served_on}
use Rattle.st_scheduled.proofs.TokensCompared.{ids_same, same_id_self}
use Rattle.st_pool_core.specs.declared.step.Step.{Step}
use Rattle.st_pool_core.specs.declared.step.Step.TheVariants.{Post, Tick, Give, Take, Turn, PutBack, Drop, Stop, Reply, Collect, Carry, Deliver}
use Rattle.st_pool_core.specs.Balance.{IsBalanced}
use Rattle.st_pool_core.specs.PoolState.{PoolState, machine_of, changed_for, is_with_callers}
use Rattle.st_pool_core.specs.Queues.{has_lane, hand_in, pushed}
use Rattle.st_pool_core.specs.Transit.{message_in, is_carrying, with_message, if_from, transit_of}
use Rattle.st_pool_core.specs.Step.{give_of, take_step_of, put_back_of, drop_of, carried_by, delivered_by, unburdened, tell_found, serve_found, turn_of_hand, carry_found, carry_of, deliver_found, deliver_of, step_in}
use Rattle.st_pool_core.specs.Deliveries.{Delivery, HasOwnMessages, CarriesOwn, outbox_at, sent_at, sent_in, delivered_in, delivered_from, delivery_by}
use Rattle.st_pool_core.proofs.QueueLemmas.{hand_there}
use Rattle.st_pool_core.proofs.MachineLookups.{found_id, found_all}
use Rattle.st_pool_core.proofs.IdLemmas.{changed_found, changed_other}
use Rattle.st_pool_core.proofs.PlacedTokens.{given_token, held_token}
use Rattle.st_pool_core.proofs.BalanceLemmas.{one_worker}
use Rattle.st_pool_core.proofs.WentLemmas.{IsOut, told_out, IsPost, told_post}
use Rattle.st_pool_core.proofs.TransitLemmas.{message_other, message_there, message_at, not_carrying, nothing_at, message_gone, transit_none, transit_put, transit_only, transit_put_other, transit_gone_other, transit_sole}
use Rattle.st_pool_core.proofs.CarryingLemmas.{messages_of, own_first, first_split, first_there, told_keeps, told_keeps_id, told_out_keeps, Sends, served_sends, served_keeps_id, messages_changed, messages_found, messages_kept}

-- ---- lists
module _ {X : Type 0} where
  -- nothing is sent or delivered, and what is there stays
  quiet_lists : (transit outbox sent gone after left : List X) → sent ≡ [] → gone ≡ [] → after ≡ transit → left ≡ outbox
      → transit ++ (outbox ++ sent) ≡ gone ++ (after ++ left)
  quiet_lists transit outbox sent gone after left h k l m = rw (h, k, l, m) (ap (λ (rest : List X). transit ++ rest) (append-nil outbox))

  -- two stretches of a way are one
  pub joined_lists : (t o s d u p r e v q : List X) → t ++ (o ++ s) ≡ d ++ (u ++ p) → u ++ (p ++ r) ≡ e ++ (v ++ q)
      → t ++ (o ++ (s ++ r)) ≡ (d ++ e) ++ (v ++ q)
  joined_lists t o s d u p r e v q first second =
      ap (λ (rest : List X). t ++ rest) (sym (append_assoc o s r))
      ∙ (sym (append_assoc t (o ++ s) r)
      ∙ (ap (λ (all : List X). all ++ r) first
      ∙ (append_assoc d (u ++ p) r
      ∙ (ap (λ (rest : List X). d ++ rest) (append_assoc u p r)
      ∙ (ap (λ (rest : List X). d ++ rest) second ∙ sym (append_assoc d e (v ++ q)))))))

-- nothing, whichever a test chooses
either_none : {X : Type 0} (test : Bool) (sent : List X) → sent ≡ [] → (if test then sent else []) ≡ []
either_none true sent h = h
either_none false sent h = refl

-- both hold, and so the first
first_holds : (one other : Bool) → one && other ≡ true → one ≡ true
first_holds true other h = refl
first_holds false other h = h

module _ {M S D C : Type 0} (callbacks : M → Callbacks S D C) where
  -- ---- one step
  -- a step with this answer moves a machine's messages on
  abbrev pub MovesOn : MachineId → PoolState M S D C → Step C → StepAnswer S C → PoolState M S D C → Type 0
  MovesOn id old step answer new =
      transit_of id old.transit ++ (outbox_at (machine_of id old.machines) ++ sent_in callbacks id old step answer)
      ≡ delivered_from id (delivered_in callbacks old step answer) ++ (transit_of id new.transit ++ outbox_at (machine_of id new.machines))

  -- one that sends and delivers nothing leaves them
  quiet_moves : (id : MachineId) (old : PoolState M S D C) (step : Step C) (answer : StepAnswer S C) (new : PoolState M S D C)
      → sent_in callbacks id old step answer ≡ [] → delivered_in callbacks old step answer ≡ [] → transit_of id new.transit ≡ transit_of id old.transit
      → outbox_at (machine_of id new.machines) ≡ outbox_at (machine_of id old.machines) → MovesOn id old step answer new
  quiet_moves id old step answer new sent gone transit outbox =
      quiet_lists (transit_of id old.transit) (outbox_at (machine_of id old.machines)) (sent_in callbacks id old step answer)
      (delivered_from id (delivered_in callbacks old step answer)) (transit_of id new.transit) (outbox_at (machine_of id new.machines))
      sent (ap (λ (deliveries : List (Delivery C)). delivered_from id deliveries) gone) transit outbox

  -- a refused step sends nothing and delivers nothing
  refused_sends : (id : MachineId) (old : PoolState M S D C) (step : Step C) (refused : Refused (Option C)) → sent_in callbacks id old step (said.Refused refused) ≡ []
  refused_sends id old (Turn worker now) refused = refl
  refused_sends id old step refused = refl

  delivered_none : (carried : Option (Message C)) (refused : Refused (Option C)) → delivery_by {S = S} carried (said.Refused refused) ≡ []
  delivered_none None refused = refl
  delivered_none (Some message) refused = refl

  refused_delivers : (old : PoolState M S D C) (step : Step C) (refused : Refused (Option C)) → delivered_in callbacks old step (said.Refused refused) ≡ []
  refused_delivers old (Deliver worker) refused = delivered_none (message_in old.transit worker) refused
  refused_delivers old step refused = refl

  pub refused_moves : (id : MachineId) (old : PoolState M S D C) (step : Step C) (refused : Refused (Option C)) → MovesOn id old step (said.Refused refused) old
  refused_moves id old step refused =
      quiet_moves id old step (said.Refused refused) old (refused_sends id old step refused) (refused_delivers old step refused) refl refl

  guard_moves : (test : Bool) (id : MachineId) (old : PoolState M S D C) (step : Step C) (done : StepAnswer S C × PoolState M S D C)
      → (test ≡ false → MovesOn id old step done.0 done.1)
      → MovesOn id old step (if◌then◌else◌ {A = StepAnswer S C × PoolState M S D C} test (refused_with NotPossible None, old) done).0
      (if◌then◌else◌ {A = StepAnswer S C × PoolState M S D C} test (refused_with NotPossible None, old) done).1
  guard_moves true id old step done h = refused_moves id old step (record { refusal = NotPossible; value = None })
  guard_moves false id old step done h = h refl

  module _ (pool : PoolState M S D C) (balanced : IsBalanced pool) (carries : CarriesOwn pool) (id : MachineId) where
    -- ---- commands
    tell_moves : (target : MachineId) (command : Command C) → is_quiet command ≡ true → is_turn command ≡ false → (found : Option (ScheduledMachine M S D C))
        → machine_of target pool.machines ≡ found
        → outbox_at (machine_of id (tell_found callbacks pool target command found).1.machines) ≡ outbox_at (machine_of id pool.machines)
    tell_moves target command quiet no_turn None at = refl
    tell_moves target command quiet no_turn (Some old) at =
        messages_kept pool.machines id target old (told_on callbacks old command).1 at (told_keeps_id callbacks old command no_turn) (told_keeps callbacks old command quiet)

    tell_stays : (target : MachineId) (command : Command C) (found : Option (ScheduledMachine M S D C)) → (tell_found callbacks pool target command found).1.transit ≡ pool.transit
    tell_stays target command None = refl
    tell_stays target command (Some old) = refl

    -- ---- tokens
    moved_keeps : (own : Bool) (target : MachineId) (with_callers : Bool) (old : ScheduledMachine M S D C) → same_id id target ≡ own → machine_of target pool.machines ≡ Some old
        → outbox_at (machine_of id (changed_for target (moved with_callers) pool.machines)) ≡ outbox_at (machine_of id pool.machines)
    moved_keeps true target with_callers old same found =
        ap (λ (one : MachineId). outbox_at (machine_of one (changed_for target (moved with_callers) pool.machines))) (ids_same id target same)
        ∙ (ap outbox_at (changed_found target (moved with_callers) pool.machines old (λ one is. refl) found) ∙ sym (messages_found pool.machines id target old same found))
    moved_keeps false target with_callers old same found = ap outbox_at (changed_other id target (moved with_callers) pool.machines same (λ one is. refl))

    give_moves : (test : Bool) (token : Token) (lane : ℕ) → (is_with_callers pool.machines token && has_lane pool.queues lane) ≡ test
        → MovesOn id pool (Give token lane) (give_of pool token lane).0 (give_of pool token lane).1
    give_moves true token lane is =
        let with_callers = first_holds (is_with_callers pool.machines token) (has_lane pool.queues lane) is in
        let found = given_token pool.machines token with_callers in
        let kept = moved_keeps (same_id id token.machine) token.machine false found.0 refl found.1 in
        rw is (quiet_moves id pool (Give token lane) said.Moved
        (record pool { machines = changed_for token.machine (moved false) pool.machines; queues = pushed pool.queues lane token }) refl refl refl kept)
    give_moves false token lane is = rw is (refused_moves id pool (Give token lane) (record { refusal = NotPossible; value = None }))

    drop_moves : (worker : ℕ) (hand : Option Token) → hand_in pool.queues worker ≡ hand → MovesOn id pool (Drop worker) (drop_of pool worker hand).0 (drop_of pool worker hand).1
    drop_moves worker None held = refused_moves id pool (Drop worker) (record { refusal = NotPossible; value = None })
    drop_moves worker (Some token) held =
        let found = held_token pool worker token balanced held in
        quiet_moves id pool (Drop worker) said.Moved (drop_of pool worker (Some token)).1 refl refl refl (moved_keeps (same_id id token.machine) token.machine true found.0 refl found.1)

    put_back_moves : (worker : ℕ) (hand : Option Token) → MovesOn id pool (PutBack worker) (put_back_of pool worker hand).0 (put_back_of pool worker hand).1
    put_back_moves worker None = refused_moves id pool (PutBack worker) (record { refusal = NotPossible; value = None })
    put_back_moves worker (Some token) = quiet_moves id pool (PutBack worker) said.Moved (put_back_of pool worker (Some token)).1 refl refl refl refl

    -- ---- turns
    -- an answer is that of a turn that reports, or another
    abbrev pub Reports : StepAnswer S C → Type 0
    Reports answer = (report : Report S) × (answer ≡ said.Turned report)

    pub reports_or : (answer : StepAnswer S C) → Reports answer ⊎ ((report : Report S) → answer ≡ said.Turned report → ⊥)
    reports_or (said.Turned report) = inl (report, refl)
    reports_or (said.Posted number wake) = inr (λ report is. cc)
    reports_or (said.Ticked expired wake) = inr (λ report is. cc)
    reports_or said.Moved = inr (λ report is. cc)
    reports_or said.Rested = inr (λ report is. cc)
    reports_or (said.Stopped word) = inr (λ report is. cc)
    reports_or (said.Replied taken) = inr (λ report is. cc)
    reports_or (said.Collected shown) = inr (λ report is. cc)
    reports_or (said.Refused refused) = inr (λ report is. cc)
    reports_or (said.TakenOut message) = inr (λ report is. cc)
    reports_or (said.Lost refusal) = inr (λ report is. cc)

    -- one that reports nothing sends nothing
    pub unreported : (worker now : ℕ) (answer : StepAnswer S C) → ((report : Report S) → answer ≡ said.Turned report → ⊥) → sent_in callbacks id pool (Turn worker now) answer ≡ []
    unreported worker now (said.Turned report) none = absurd (none report refl)
    unreported worker now (said.Posted number wake) none = refl
    unreported worker now (said.Ticked expired wake) none = refl
    unreported worker now said.Moved none = refl
    unreported worker now said.Rested none = refl
    unreported worker now (said.Stopped word) none = refl
    unreported worker now (said.Replied taken) none = refl
    unreported worker now (said.Collected shown) none = refl
    unreported worker now (said.Refused refused) none = refl
    unreported worker now (said.TakenOut message) none = refl
    unreported worker now (said.Lost refusal) none = refl

    -- what a turn of this machine sends, or of another
    sent_own : (own : Bool) (worker now : ℕ) (token : Token) (old : ScheduledMachine M S D C) (answer : StepAnswer S C) (sends : List (Message C))
        → hand_in pool.queues worker ≡ Some token → machine_of token.machine pool.machines ≡ Some old → same_id id token.machine ≡ own
        → Reports answer → sends ≡ sent_at callbacks now (Some old) → sent_in callbacks id pool (Turn worker now) answer ≡ (if own then sends else [])
    sent_own true worker now token old answer sends held at same reports is =
        let ids : id ≡ token.machine = ids_same id token.machine same in
        let found : machine_of id pool.machines ≡ Some old = ap (λ (one : MachineId). machine_of one pool.machines) ids ∙ at in
        rw (reports.1, held, same) (ap (λ (one : Option (ScheduledMachine M S D C)). sent_at callbacks now one) found ∙ sym is)
    sent_own false worker now token old answer sends held at same reports is = rw (reports.1, held, same) refl

    -- its messages stand behind what it had
    turned_lists : (own : Bool) (worker now : ℕ) (token : Token) (old new : ScheduledMachine M S D C) (answer : StepAnswer S C) (sends : List (Message C)) (queues : List (Message C))
        → sent_in callbacks id pool (Turn worker now) answer ≡ (if own then sends else [])
        → (own ≡ true → outbox_at (machine_of id pool.machines) ≡ messages_of old) → messages_of new ≡ messages_of old ++ sends
        → queues ≡ (if own then messages_of new else outbox_at (machine_of id pool.machines))
        → transit_of id pool.transit ++ (outbox_at (machine_of id pool.machines) ++ sent_in callbacks id pool (Turn worker now) answer)
        ≡ [] ++ (transit_of id pool.transit ++ queues)
    turned_lists true worker now token old new answer sends queues sent before more after =
        rw (sent, after, more, before refl) refl
    turned_lists false worker now token old new answer sends queues sent before more after =
        rw (sent, after) (ap (λ (rest : List (Message C)). transit_of id pool.transit ++ rest) (append-nil (outbox_at (machine_of id pool.machines))))

    -- what an answer of a turn sends is what the machine sent
    sent_by : (worker now : ℕ) (token : Token) (old new : ScheduledMachine M S D C) (answer : StepAnswer S C) (sends : Sends callbacks old now answer new)
        → hand_in pool.queues worker ≡ Some token → machine_of token.machine pool.machines ≡ Some old
        → Reports answer ⊎ ((report : Report S) → answer ≡ said.Turned report → ⊥)
        → sent_in callbacks id pool (Turn worker now) answer ≡ (if same_id id token.machine then sends.sent else [])
    sent_by worker now token old new answer sends held at (inl reports) =
        sent_own (same_id id token.machine) worker now token old answer sends.sent held at refl reports (sends.named reports.0 reports.1)
    sent_by worker now token old new answer sends held at (inr none) =
        unreported worker now answer none ∙ sym (either_none (same_id id token.machine) sends.sent (sends.quiet none))

    serve_moves : (worker now : ℕ) (token : Token) (found : Option (ScheduledMachine M S D C)) → hand_in pool.queues worker ≡ Some token
        → machine_of token.machine pool.machines ≡ found
        → MovesOn id pool (Turn worker now) (serve_found callbacks pool worker token.machine now found).0 (serve_found callbacks pool worker token.machine now found).1
    serve_moves worker now token None held at = refused_moves id pool (Turn worker now) (record { refusal = NotPossible; value = None })
    serve_moves worker now token (Some old) held at =
        let served = served_on callbacks old now in
        let sends = served_sends callbacks old now in
        turned_lists (same_id id token.machine) worker now token old served.1 served.0 sends.sent
        (outbox_at (machine_of id (changed_for token.machine (λ (one : ScheduledMachine M S D C). served.1) pool.machines)))
        (sent_by worker now token old served.1 served.0 sends held at (reports_or served.0))
        (λ own. messages_found pool.machines id token.machine old own at) sends.messages
        (messages_changed (same_id id token.machine) pool.machines id token.machine old served.1 refl at (served_keeps_id callbacks old now))

    turn_moves : (worker now : ℕ) (hand : Option Token) → hand_in pool.queues worker ≡ hand
        → MovesOn id pool (Turn worker now) (turn_of_hand callbacks pool worker now hand).0 (turn_of_hand callbacks pool worker now hand).1
    turn_moves worker now None held = refused_moves id pool (Turn worker now) (record { refusal = NotPossible; value = None })
    turn_moves worker now (Some token) held = serve_moves worker now token (machine_of token.machine pool.machines) held refl

    -- ---- taking up
    -- who carries a message of the machine whose token a worker has is that worker
    sole : (worker other : ℕ) (token : Token) (message : Message C) → hand_in pool.queues worker ≡ Some token → message_in pool.transit other ≡ Some message
        → same_id token.machine message.sender ≡ true → worker ≡ other
    sole worker other token message held at same =
        let carried = carries.carried other message at in
        one_worker pool balanced worker other token carried.0 held carried.1 (ids_same token.machine message.sender same ∙ sym carried.2)

    -- where its worker carries none, none of its messages is in transit
    none_in_transit : (worker : ℕ) (token : Token) → hand_in pool.queues worker ≡ Some token → message_in pool.transit worker ≡ None → transit_of token.machine pool.transit ≡ []
    none_in_transit worker token held none =
        transit_none token.machine pool.transit
        (λ place message at same.
        let there : message_in pool.transit (place + 1) ≡ Some message = message_at pool.transit place ∙ at in
        let workers : worker ≡ place + 1 = sole worker (place + 1) token message held there same in
        let both : message_in pool.transit worker ≡ Some message = ap (λ (n : ℕ). message_in pool.transit n) workers ∙ there in cc)

    -- where it lays its one down, none is left
    none_left : (worker : ℕ) (token : Token) → hand_in pool.queues worker ≡ Some token → 0 < worker → transit_of token.machine (with_message pool.transit worker None) ≡ []
    none_left worker token held some =
        transit_none token.machine (with_message pool.transit worker None)
        (λ place message at same.
        let there : message_in (with_message pool.transit worker None) (place + 1) ≡ Some message = message_at (with_message pool.transit worker None) place ∙ at in
        elim (eqb_tells worker (place + 1)) [
          | inl is ↦ message_gone pool.transit worker message (ap (λ (n : ℕ). message_in (with_message pool.transit worker None) n) is.1 ∙ there)
          | inr apart ↦ apart.1 (sole worker (place + 1) token message held (sym (message_other pool.transit worker (place + 1) None apart.1 some) ∙ there) same)
        ])

    -- a message goes from the outbox into transit
    taken_up : (own : Bool) (worker : ℕ) (token : Token) (old after : ScheduledMachine M S D C) (message : Message C) → same_id id token.machine ≡ own
        → hand_in pool.queues worker ≡ Some token → message_in pool.transit worker ≡ None → machine_of token.machine pool.machines ≡ Some old
        → first_message (messages_of old) ≡ Some message → messages_of after ≡ without_message (messages_of old) → id_of after ≡ id_of old
        → MovesOn id pool (Carry worker) said.Moved (record pool {
          machines = changed_for token.machine (λ (one : ScheduledMachine M S D C). after) pool.machines;
          transit = with_message pool.transit worker (Some message);
        })
    taken_up true worker token old after message same held none at first rest keeps =
        let ids : id ≡ token.machine = ids_same id token.machine same in
        let there = hand_there pool.queues worker token held in
        let own = found_all HasOwnMessages token.machine pool.machines old at carries.own in
        let sender : message.sender ≡ token.machine = own_first (id_of old) (messages_of old) message first own ∙ found_id token.machine pool.machines old at in
        let mine : same_id id message.sender ≡ true = ap (λ (one : MachineId). same_id id one) (sender ∙ sym ids) ∙ same_id_self id in
        let empty : transit_of id pool.transit ≡ [] = ap (λ (one : MachineId). transit_of one pool.transit) ids ∙ none_in_transit worker token held none in
        let within : worker - 1 < length pool.transit = let hands = carries.hands in omega (arith, there, hands) in
        let full : transit_of id (with_message pool.transit worker (Some message)) ≡ message ∷ [] =
        transit_put id message mine pool.transit (worker - 1) within (nothing_at pool.transit worker there.0 none) empty in
        let before : outbox_at (machine_of id pool.machines) ≡ message ∷ without_message (messages_of old) =
        messages_found pool.machines id token.machine old same at ∙ first_split (messages_of old) message first in
        let left : outbox_at (machine_of id (changed_for token.machine (λ (one : ScheduledMachine M S D C). after) pool.machines)) ≡ without_message (messages_of old) =
        messages_changed true pool.machines id token.machine old after same at keeps ∙ rest in
        rw (empty, full, before, left) (append-nil (message ∷ without_message (messages_of old)))
    taken_up false worker token old after message same held none at first rest keeps =
        let there = hand_there pool.queues worker token held in
        let own = found_all HasOwnMessages token.machine pool.machines old at carries.own in
        let sender : message.sender ≡ token.machine = own_first (id_of old) (messages_of old) message first own ∙ found_id token.machine pool.machines old at in
        let other : same_id id message.sender ≡ false = ap (λ (one : MachineId). same_id id one) sender ∙ same in
        quiet_moves id pool (Carry worker) said.Moved (record pool {
          machines = changed_for token.machine (λ (one : ScheduledMachine M S D C). after) pool.machines;
          transit = with_message pool.transit worker (Some message);
        }) refl refl (transit_put_other id message other pool.transit (worker - 1) (nothing_at pool.transit worker there.0 none))
        (messages_changed false pool.machines id token.machine old after same at keeps)

    carried_moves : (worker : ℕ) (token : Token) (old after : ScheduledMachine M S D C) (given : StepAnswer S C) (message : Message C)
        → hand_in pool.queues worker ≡ Some token → message_in pool.transit worker ≡ None → machine_of token.machine pool.machines ≡ Some old
        → first_message (messages_of old) ≡ Some message → IsOut callbacks (first_message (messages_of old)) given
        → (given ≡ said.TakenOut (Some message) → messages_of after ≡ without_message (messages_of old)) → id_of after ≡ id_of old
        → MovesOn id pool (Carry worker) (carried_by pool worker token.machine after given).0 (carried_by pool worker token.machine after given).1
    carried_moves worker token old after given message held none at first (inl out) rest keeps =
        let is : given ≡ said.TakenOut (Some message) = out ∙ ap (λ (one : Option (Message C)). said.TakenOut one) first in
        subst (λ (one : StepAnswer S C). MovesOn id pool (Carry worker) (carried_by pool worker token.machine after one).0 (carried_by pool worker token.machine after one).1) (sym is)
        (taken_up (same_id id token.machine) worker token old after message refl held none at first (rest is) keeps)
    carried_moves worker token old after given message held none at first (inr refused) rest keeps =
        subst (λ (one : StepAnswer S C). MovesOn id pool (Carry worker) (carried_by pool worker token.machine after one).0 (carried_by pool worker token.machine after one).1) (sym refused.1)
        (refused_moves id pool (Carry worker) refused.0)

    either_moves : (test : Bool) (step : Step C) (done : StepAnswer S C × PoolState M S D C) → (test ≡ true → MovesOn id pool step done.0 done.1)
        → MovesOn id pool step (if◌then◌else◌ {A = StepAnswer S C × PoolState M S D C} test done (refused_with NotPossible None, pool)).0
        (if◌then◌else◌ {A = StepAnswer S C × PoolState M S D C} test done (refused_with NotPossible None, pool)).1
    either_moves true step done h = h refl
    either_moves false step done h = refused_moves id pool step (record { refusal = NotPossible; value = None })

    carry_found_moves : (worker : ℕ) (token : Token) (found : Option (ScheduledMachine M S D C)) → hand_in pool.queues worker ≡ Some token
        → message_in pool.transit worker ≡ None → machine_of token.machine pool.machines ≡ found
        → MovesOn id pool (Carry worker) (carry_found callbacks pool worker token.machine found).0 (carry_found callbacks pool worker token.machine found).1
    carry_found_moves worker token None held none at = refused_moves id pool (Carry worker) (record { refusal = NotPossible; value = None })
    carry_found_moves worker token (Some old) held none at =
        let told = told_on callbacks old command.TakeOut in
        either_moves (has_message old.core) (Carry worker) (carried_by pool worker token.machine told.1 told.0)
        (λ some.
        let first = first_there (messages_of old) some in
        carried_moves worker token old told.1 told.0 first.0 held none at first.1 (told_out callbacks old)
        (λ is. told_out_keeps callbacks old (Some first.0) is) (told_keeps_id callbacks old command.TakeOut refl))

    carry_moves : (worker : ℕ) (hand : Option Token) → hand_in pool.queues worker ≡ hand → message_in pool.transit worker ≡ None
        → MovesOn id pool (Carry worker) (carry_of callbacks pool worker hand).0 (carry_of callbacks pool worker hand).1
    carry_moves worker None held none = refused_moves id pool (Carry worker) (record { refusal = NotPossible; value = None })
    carry_moves worker (Some token) held none = carry_found_moves worker token (machine_of token.machine pool.machines) held none refl

    -- ---- laying down
    -- a message goes from transit to where it was delivered, or lost
    laid_down : (own : Bool) (worker : ℕ) (message : Message C) (left : List (Message C)) → same_id id message.sender ≡ own → message_in pool.transit worker ≡ Some message
        → left ≡ outbox_at (machine_of id pool.machines)
        → transit_of id pool.transit ++ (outbox_at (machine_of id pool.machines) ++ [])
        ≡ if_from id message [] ++ (transit_of id (with_message pool.transit worker None) ++ left)
    laid_down true worker message left same at kept =
        let ids : id ≡ message.sender = ids_same id message.sender same in
        let there = message_there pool.transit worker message at in
        let carried = carries.carried worker message at in
        let none : transit_of id (with_message pool.transit worker None) ≡ [] =
        ap (λ (one : MachineId). transit_of one (with_message pool.transit worker None)) (ids ∙ sym carried.2) ∙ none_left worker carried.0 carried.1 there.0 in
        let only : transit_of id pool.transit ≡ message ∷ [] = transit_only id message same pool.transit (worker - 1) there.1 none in
        rw (same, none, only, kept) (ap (λ (rest : List (Message C)). message ∷ rest) (append-nil (outbox_at (machine_of id pool.machines))))
    laid_down false worker message left same at kept =
        let there = message_there pool.transit worker message at in
        let stays : transit_of id (with_message pool.transit worker None) ≡ transit_of id pool.transit =
        transit_gone_other id message same pool.transit (worker - 1) there.1 in
        rw (same, stays, kept) (ap (λ (rest : List (Message C)). transit_of id pool.transit ++ rest) (append-nil (outbox_at (machine_of id pool.machines))))

    -- so it is where it was posted
    posted_moves : (worker number : ℕ) (wake : Option Token) (message : Message C) (old after : ScheduledMachine M S D C) → message_in pool.transit worker ≡ Some message
        → machine_of message.target pool.machines ≡ Some old → id_of after ≡ id_of old → messages_of after ≡ messages_of old
        → MovesOn id pool (Deliver worker) (said.Posted number wake)
        (record (unburdened pool worker) { machines = changed_for message.target (λ (one : ScheduledMachine M S D C). after) pool.machines })
    posted_moves worker number wake message old after at found keeps same =
        let left = messages_kept pool.machines id message.target old after found keeps same in
        rw at (laid_down (same_id id message.sender) worker message _ refl at left)

    -- and where it was lost
    lost_moves : (worker : ℕ) (why : Refusal) (message : Message C) → message_in pool.transit worker ≡ Some message
        → MovesOn id pool (Deliver worker) (said.Lost why) (unburdened pool worker)
    lost_moves worker why message at = rw at (laid_down (same_id id message.sender) worker message _ refl at refl)

    delivered_moves : (worker : ℕ) (message : Message C) (old after : ScheduledMachine M S D C) (given : StepAnswer S C) → message_in pool.transit worker ≡ Some message
        → machine_of message.target pool.machines ≡ Some old → id_of after ≡ id_of old → messages_of after ≡ messages_of old → IsPost callbacks given
        → MovesOn id pool (Deliver worker) (delivered_by pool worker message.target after given).0 (delivered_by pool worker message.target after given).1
    delivered_moves worker message old after given at found keeps same (inl posted) =
        subst (λ (one : StepAnswer S C). MovesOn id pool (Deliver worker) (delivered_by pool worker message.target after one).0 (delivered_by pool worker message.target after one).1)
        (sym posted.2) (posted_moves worker posted.0 posted.1 message old after at found keeps same)
    delivered_moves worker message old after given at found keeps same (inr refused) =
        subst (λ (one : StepAnswer S C). MovesOn id pool (Deliver worker) (delivered_by pool worker message.target after one).0 (delivered_by pool worker message.target after one).1)
        (sym refused.1) (lost_moves worker refused.0.refusal message at)

    deliver_found_moves : (worker : ℕ) (message : Message C) (found : Option (ScheduledMachine M S D C)) → message_in pool.transit worker ≡ Some message
        → machine_of message.target pool.machines ≡ found
        → MovesOn id pool (Deliver worker) (deliver_found callbacks pool worker message found).0 (deliver_found callbacks pool worker message found).1
    deliver_found_moves worker message None at found = lost_moves worker NoSuchMachine message at
    deliver_found_moves worker message (Some old) at found =
        let posts = command.Post Info message.content in
        delivered_moves worker message old (told_on callbacks old posts).1 (told_on callbacks old posts).0 at found
        (told_keeps_id callbacks old posts refl) (told_keeps callbacks old posts refl) (told_post callbacks old message.content)

    deliver_moves : (worker : ℕ) (carried : Option (Message C)) → message_in pool.transit worker ≡ carried
        → MovesOn id pool (Deliver worker) (deliver_of callbacks pool worker carried).0 (deliver_of callbacks pool worker carried).1
    deliver_moves worker None is = refused_moves id pool (Deliver worker) (record { refusal = NotPossible; value = None })
    deliver_moves worker (Some message) is = deliver_found_moves worker message (machine_of message.target pool.machines) is refl

    -- ---- any step by its definition
    told_moves : (step : Step C) (target : MachineId) (command : Command C) → is_quiet command ≡ true → is_turn command ≡ false
        → ((answer : StepAnswer S C) → sent_in callbacks id pool step answer ≡ []) → ((answer : StepAnswer S C) → delivered_in callbacks pool step answer ≡ [])
        → MovesOn id pool step (tell_found callbacks pool target command (machine_of target pool.machines)).0
        (tell_found callbacks pool target command (machine_of target pool.machines)).1
    told_moves step target command quiet no_turn sent gone =
        let told = tell_found callbacks pool target command (machine_of target pool.machines) in
        quiet_moves id pool step told.0 told.1 (sent told.0) (gone told.0)
        (ap (λ (transit : List (Option (Message C))). transit_of id transit) (tell_stays target command (machine_of target pool.machines)))
        (tell_moves target command quiet no_turn (machine_of target pool.machines) refl)

    pub step_in_moves : (step : Step C) → MovesOn id pool step (step_in callbacks pool step).0 (step_in callbacks pool step).1
    step_in_moves (Post target entry content) = told_moves (Post target entry content) target (command.Post entry content) refl refl (λ answer. refl) (λ answer. refl)
    step_in_moves (Tick target now) = told_moves (Tick target now) target (command.Tick now) refl refl (λ answer. refl) (λ answer. refl)
    step_in_moves (Give token lane) = give_moves (is_with_callers pool.machines token && has_lane pool.queues lane) token lane refl
    step_in_moves (Take worker lane) = quiet_moves id pool (Take worker lane) (take_step_of pool worker lane).0 (take_step_of pool worker lane).1 refl refl refl refl
    step_in_moves (Turn worker now) =
        guard_moves (is_carrying pool.transit worker) id pool (Turn worker now) (turn_of_hand callbacks pool worker now (hand_in pool.queues worker))
        (λ free. turn_moves worker now (hand_in pool.queues worker) refl)
    step_in_moves (PutBack worker) =
        guard_moves (is_carrying pool.transit worker) id pool (PutBack worker) (put_back_of pool worker (hand_in pool.queues worker))
        (λ free. put_back_moves worker (hand_in pool.queues worker))
    step_in_moves (Drop worker) =
        guard_moves (is_carrying pool.transit worker) id pool (Drop worker) (drop_of pool worker (hand_in pool.queues worker))
        (λ free. drop_moves worker (hand_in pool.queues worker) refl)
    step_in_moves (Stop target reason) = told_moves (Stop target reason) target (command.Stop reason) refl refl (λ answer. refl) (λ answer. refl)
    step_in_moves (Reply target tag content) = told_moves (Reply target tag content) target (command.Reply tag content) refl refl (λ answer. refl) (λ answer. refl)
    step_in_moves (Collect target tag) = told_moves (Collect target tag) target (command.Collect tag) refl refl (λ answer. refl) (λ answer. refl)
    step_in_moves (Carry worker) =
        guard_moves (is_carrying pool.transit worker) id pool (Carry worker) (carry_of callbacks pool worker (hand_in pool.queues worker))
        (λ free. carry_moves worker (hand_in pool.queues worker) refl (not_carrying pool.transit worker free))
    step_in_moves (Deliver worker) = deliver_moves worker (message_in pool.transit worker) refl

module _ {M S D C : Type 0} where
  -- of each machine one message at most is in transit
  pub one_in_transit : (pool : PoolState M S D C) → IsBalanced pool → CarriesOwn pool → (id : MachineId) → length (transit_of id pool.transit) ≤ 1
  one_in_transit pool balanced carries id =
      transit_sole id pool.transit
      (λ place other one two at there mine his.
      let first : message_in pool.transit (place + 1) ≡ Some one = message_at pool.transit place ∙ at in
      let second : message_in pool.transit (other + 1) ≡ Some two = message_at pool.transit other ∙ there in
      let carried = carries.carried (place + 1) one first in
      let held = carries.carried (other + 1) two second in
      let same : carried.0.machine ≡ held.0.machine =
      carried.2 ∙ (sym (ids_same id one.sender mine) ∙ (ids_same id two.sender his ∙ sym held.2)) in
      let workers : place + 1 ≡ other + 1 = one_worker pool balanced (place + 1) (other + 1) carried.0 held.0 carried.1 held.1 same in
      omega (arith, workers))
