-- Messages go their way in a play: in their senders' order, as reported; each that arrived is a post among its target's
-- commands; and each other was lost for a reason.
use Rattle.std.proofs.Common.{◌≡◌, ℕ, zero, suc, ◌+◌, ◌-◌, ◌<◌, ◌^◌, ◌⊎◌, inl, inr, Bool, true, false, ◌&&◌, nat_lt, if◌then◌else◌, Option, Some, None, Result, Ok, Err, List, [], ◌∷◌, ◌++◌, length, map, replicate, take, slice_index_or, All, refl, sym, ap, subst, ◌∙◌, append-nil, arith}
use Rattle.std.proofs.Math.Seq.{take-suc}
use Rattle.std.proofs.lemmas.Bool.{cases_Bool}
use Rattle.std.proofs.lemmas.List.{append_assoc, map-append}
use Rattle.std.proofs.lemmas.List.Elements.{All-append, All-cons, All-nil, All-head, All-tail}
use Rattle.st_events.specs.declared.machine_id.MachineId.{MachineId}
use Rattle.st_events.specs.declared.message.Message.{Message}
use Rattle.st_events.specs.declared.refusal.Refusal.TheVariants.{NoMemory, NotPossible, NoSuchMachine, Exhausted}
use Rattle.st_events.specs.declared.refused.Refused.{Refused}
use Rattle.st_events.specs.declared.token.Token.{Token}
use Rattle.st_outbox.specs.Outbox.{message_numbers, AreFrom, AreSentBy}
use Rattle.st_answers.specs.declared.answer.Answer.{Answer}
use Rattle.st_answers.specs.declared.answer.Answer.TheVariants as answer
use Rattle.st_answers.specs.declared.command.Command.{Command}
use Rattle.st_answers.specs.declared.command.Command.TheVariants as command
use Rattle.st_answers.specs.declared.entry.Entry.{Entry}
use Rattle.st_answers.specs.declared.entry.Entry.TheVariants.{Info}
use Rattle.st_core.specs.declared.machine_state.MachineState.{MachineState}
use Rattle.st_answers.specs.declared.report.Report.{Report}
use Rattle.st_core.specs.Callbacks.{Callbacks}
use Rattle.st_core.specs.Lawful.{IsLawful}
use Rattle.st_core.specs.MachineState.{Machine}
use Rattle.st_core.specs.Post.{post_running, post_of}
use Rattle.st_core.specs.Run.{step_on}
use Rattle.st_core.specs.Stop.{unless_ended}
use Rattle.st_scheduled.specs.declared.step_answer.StepAnswer.{StepAnswer}
use Rattle.st_scheduled.specs.declared.step_answer.StepAnswer.TheVariants as said
use Rattle.st_scheduled.specs.ScheduledMachine.{ScheduledMachine, same_id}
use Rattle.st_scheduled.specs.Serving.{needs_count, is_full, refused_with, scheduled_at_first, told_as, told_on, served_on}
use Rattle.st_scheduled.proofs.TokensCompared.{ids_same}
use Rattle.st_pool_core.specs.declared.step.Step.{Step}
use Rattle.st_pool_core.specs.declared.step.Step.TheVariants.{Turn, Deliver}
use Rattle.st_pool_core.specs.Balance.{IsBalanced}
use Rattle.st_pool_core.specs.Opening.{idle_workers, opened, HasItsOwn}
use Rattle.st_pool_core.specs.Play.{Plays, entry_of, left_by, history_of}
use Rattle.st_pool_core.specs.PoolState.{PoolState, machine_of}
use Rattle.st_pool_core.specs.Queues.{hand_in}
use Rattle.st_pool_core.specs.Transit.{message_in, is_carrying, if_from, transit_of}
use Rattle.st_pool_core.specs.Step.{delivered_by, serve_found, turn_of_hand, deliver_found, deliver_of, step_in, content_in, without_memory, DoesStep}
use Rattle.st_pool_core.specs.Deliveries.{Fate, Arrived, WasLost, Delivery, IsWhyLost, IsFate, HasOwnMessages, CarriesOwn, outbox_at, sent_at, if_turn_of, reported_by, sent_in, reported_in, delivered_in, delivery_by, delivered_from, arrival_by, arrivals_at, sent_of, deliveries_of, StandIn, nothing, passed, shared, SendsInOrder, KeepsMessages}
use Rattle.st_pool_core.proofs.BalanceLemmas.{step-balanced}
use Rattle.st_pool_core.proofs.CommandLemmas.{step-left}
use Rattle.st_pool_core.proofs.TransitLemmas.{message_there}
use Rattle.st_pool_core.proofs.CarryingLemmas.{Sends, served_sends}
use Rattle.st_pool_core.proofs.CarriedLemmas.{step-carries}
use Rattle.st_pool_core.proofs.DeliveryLemmas.{joined_lists, MovesOn, refused_moves, step_in_moves, Reports, reports_or, unreported}

-- ---- lists
module _ {X : Type 0} where
  all_passed : (xs : List X) → StandIn [] xs
  all_passed [] = nothing
  all_passed (x ∷ xs) = passed x (all_passed xs)

  all_shared : (xs : List X) → StandIn xs xs
  all_shared [] = nothing
  all_shared (x ∷ xs) = shared x (all_shared xs)

  stand-append : {some all more others : List X} → StandIn some all → StandIn more others → StandIn (some ++ more) (all ++ others)
  stand-append nothing second = second
  stand-append (passed x first) second = passed x (stand-append first second)
  stand-append (shared x first) second = shared x (stand-append first second)

module _ {C : Type 0} where
  from_by : (own : Bool) (message : Message C) (some more : List (Message C))
      → (if own then message ∷ (some ++ more) else some ++ more) ≡ (if own then message ∷ some else some) ++ more
  from_by true message some more = refl
  from_by false message some more = refl

  delivered-append : (id : MachineId) (some more : List (Delivery C)) → delivered_from id (some ++ more) ≡ delivered_from id some ++ delivered_from id more
  delivered-append id [] more = refl
  delivered-append id (delivery ∷ some) more =
      ap (λ (rest : List (Message C)). if_from id delivery.message rest) (delivered-append id some more)
      ∙ from_by (same_id id delivery.message.sender) delivery.message (delivered_from id some) (delivered_from id more)

-- nothing is reported of another machine, nor where nothing is
turn_none : {X : Type 0} (id : MachineId) (hand : Option Token) → if_turn_of {X = X} id hand [] ≡ []
turn_none id None = refl
turn_none id (Some token) = elim (cases_Bool (same_id id token.machine)) [ inl own ↦ rw own refl | inr other ↦ rw other refl ]

-- ---- why a post is refused
module _ {C : Type 0} where
  -- a refusal is one for which a message is lost
  abbrev RefusesSo : Result ℕ (Refused C) → Type 0
  RefusesSo (Ok number) = Unit {0}
  RefusesSo (Err refused) = IsWhyLost refused.refusal

module _ {S D C : Type 0} where
  either_so : (test : Bool) (one other : Result ℕ (Refused C) × MachineState S D C) → RefusesSo one.0 → RefusesSo other.0 → RefusesSo (if test then one else other).0
  either_so true one other h k = h
  either_so false one other h k = k

  unless_so : (ended : Option (ℕ × ℕ)) (content : C) (machine : MachineState S D C) (done : Result ℕ (Refused C) × MachineState S D C) → RefusesSo done.0
      → RefusesSo (unless_ended ended (λ refusal. Err (record { refusal = refusal; value = content })) machine done).0
  unless_so None content machine done h = h
  unless_so (Some end) content machine done h = tt

  post_so : (machine : MachineState S D C) (entry : Entry) (content : C) → RefusesSo (post_of machine entry content).0
  post_so machine entry content =
      unless_so machine.ended content machine (post_running machine entry content) (either_so (nat_lt machine.schedule.next_number (2 ^ 63)) _ _ tt tt)

module _ {M S D C : Type 0} (callbacks : M → Callbacks S D C) where
  -- an answer is a post, or a refusal for which a message is lost
  abbrev pub AnswersSo : StepAnswer S C → Type 0
  AnswersSo given = ((number : ℕ) × (wake : Option Token) × (given ≡ said.Posted number wake)) ⊎ ((refused : Refused (Option C)) × (given ≡ said.Refused refused) × IsWhyLost refused.refusal)

  told_so : (old : ScheduledMachine M S D C) (result : Result ℕ (Refused C)) (core : Machine M S D C) → RefusesSo result → AnswersSo (told_as old (answer.Post result) core).0
  told_so old (Ok number) core so = inl (number, _, refl)
  told_so old (Err refused) core so = inr (record { refusal = refused.refusal; value = Some refused.value }, refl, so)

  full_so : (full : Bool) (old : ScheduledMachine M S D C) (content : Option C) (told : StepAnswer S C × ScheduledMachine M S D C) → AnswersSo told.0
      → AnswersSo (if◌then◌else◌ {A = StepAnswer S C × ScheduledMachine M S D C} full (refused_with Exhausted content, old) told).0
  full_so true old content told h = inr (record { refusal = Exhausted; value = content }, refl, tt)
  full_so false old content told h = h

  pub post_answers : (old : ScheduledMachine M S D C) (content : C) → AnswersSo (told_on callbacks old (command.Post Info content)).0
  post_answers old content =
      let step = step_on callbacks old.core (command.Post Info content) in
      full_so (is_full old && needs_count step.0) old (Some content) (told_as old step.0 step.1)
      (told_so old (post_of old.core.machine Info content).0 step.1 (post_so old.core.machine Info content))

  -- ---- fates
  abbrev AreFates : List (Delivery C) → Type 0
  AreFates deliveries = All (λ (delivery : Delivery C). IsFate delivery.fate) deliveries

  one_fate : (message : Message C) (fate : Fate) → IsFate fate → AreFates (record { message = message; fate = fate } ∷ [])
  one_fate message fate is = All-cons (λ (delivery : Delivery C). IsFate delivery.fate) (record { message = message; fate = fate }) [] is (All-nil (λ (delivery : Delivery C). IsFate delivery.fate))

  no_fates : AreFates []
  no_fates = All-nil (λ (delivery : Delivery C). IsFate delivery.fate)

  delivered_fates : (pool : PoolState M S D C) (worker : ℕ) (message : Message C) (after : ScheduledMachine M S D C) (given : StepAnswer S C) → AnswersSo given
      → AreFates (delivery_by (Some message) (delivered_by pool worker message.target after given).0)
  delivered_fates pool worker message after given (inl posted) =
      subst (λ (one : StepAnswer S C). AreFates (delivery_by (Some message) (delivered_by pool worker message.target after one).0)) (sym posted.2)
      (one_fate message (Arrived posted.0) tt)
  delivered_fates pool worker message after given (inr refused) =
      subst (λ (one : StepAnswer S C). AreFates (delivery_by (Some message) (delivered_by pool worker message.target after one).0)) (sym refused.1)
      (one_fate message (WasLost refused.0.refusal) refused.2)

  found_fates : (pool : PoolState M S D C) (worker : ℕ) (message : Message C) (found : Option (ScheduledMachine M S D C))
      → AreFates (delivery_by (Some message) (deliver_found callbacks pool worker message found).0)
  found_fates pool worker message None = one_fate message (WasLost NoSuchMachine) tt
  found_fates pool worker message (Some old) =
      let told = told_on callbacks old (command.Post Info message.content) in
      delivered_fates pool worker message told.1 told.0 (post_answers old message.content)

  deliver_fates : (pool : PoolState M S D C) (worker : ℕ) (carried : Option (Message C)) → AreFates (delivery_by carried (deliver_of callbacks pool worker carried).0)
  deliver_fates pool worker None = no_fates
  deliver_fates pool worker (Some message) = found_fates pool worker message (machine_of message.target pool.machines)

  refused_fates : (carried : Option (Message C)) (refused : Refused (Option C)) → AreFates (delivery_by {S = S} carried (said.Refused refused))
  refused_fates None refused = no_fates
  refused_fates (Some message) refused = no_fates

  step_fates : (old new : PoolState M S D C) (step : Step C) (given : StepAnswer S C) → DoesStep callbacks old step given new → AreFates (delivered_in callbacks old step given)
  step_fates old new (Deliver worker) given (inl done) =
      subst (λ (one : StepAnswer S C). AreFates (delivery_by (message_in old.transit worker) one)) (sym done.0) (deliver_fates old worker (message_in old.transit worker))
  step_fates old new (Deliver worker) given (inr unmet) =
      subst (λ (one : StepAnswer S C). AreFates (delivery_by (message_in old.transit worker) one)) (sym unmet.1)
      (refused_fates (message_in old.transit worker) (record { refusal = NoMemory; value = None }))
  step_fates old new step given does = no_fates

  -- ---- arrivals
  arrival_stands : (own : Bool) (entry : Command C × Answer S C) → StandIn ((if own then entry ∷ [] else []) ++ []) (if own then entry ∷ [] else [])
  arrival_stands true entry = shared entry nothing
  arrival_stands false entry = nothing

  carried_arrives : (id : MachineId) (pool : PoolState M S D C) (worker : ℕ) (carried : Option (Message C)) (given : StepAnswer S C) → message_in pool.transit worker ≡ carried
      → StandIn (arrivals_at id (delivery_by carried given)) (entry_of id pool (Deliver worker) given)
  carried_arrives id pool worker None given at = all_passed (entry_of id pool (Deliver worker) given)
  carried_arrives id pool worker (Some message) (said.Posted number wake) at =
      rw at (arrival_stands (same_id id message.target) (command.Post Info message.content, answer.Post (Ok number)))
  carried_arrives id pool worker (Some message) (said.Lost why) at = all_passed (entry_of id pool (Deliver worker) (said.Lost why))
  carried_arrives id pool worker (Some message) given at = all_passed (entry_of id pool (Deliver worker) given)

  step_arrives : (id : MachineId) (pool : PoolState M S D C) (step : Step C) (given : StepAnswer S C)
      → StandIn (arrivals_at id (delivered_in callbacks pool step given)) (entry_of id pool step given)
  step_arrives id pool (Deliver worker) given = carried_arrives id pool worker (message_in pool.transit worker) given refl
  step_arrives id pool step given = all_passed (entry_of id pool step given)

  arrivals-append : (id : MachineId) (some more : List (Delivery C)) → arrivals_at {S = S} id (some ++ more) ≡ arrivals_at id some ++ arrivals_at id more
  arrivals-append id [] more = refl
  arrivals-append id (delivery ∷ some) more =
      ap (λ (rest : List (Command C × Answer S C)). arrival_by id delivery.message delivery.fate ++ rest) (arrivals-append id some more)
      ∙ sym (append_assoc (arrival_by id delivery.message delivery.fate) (arrivals_at id some) (arrivals_at id more))

  -- ---- reports
  not_reported : (given : StepAnswer S C) → ((report : Report S) → given ≡ said.Turned report → ⊥) → reported_by given ≡ []
  not_reported (said.Turned report) none = absurd (none report refl)
  not_reported given none = refl

  -- a turn of this machine or of another
  reported_own : (own : Bool) (pool : PoolState M S D C) (id : MachineId) (worker now : ℕ) (token : Token) (old : ScheduledMachine M S D C) (report : Report S) (given : StepAnswer S C)
      → hand_in pool.queues worker ≡ Some token → machine_of token.machine pool.machines ≡ Some old → same_id id token.machine ≡ own → given ≡ said.Turned report
      → message_numbers (sent_at callbacks now (Some old)) ≡ report.sent
      → message_numbers (sent_in callbacks id pool (Turn worker now) given) ≡ reported_in callbacks id pool (Turn worker now) given
  reported_own true pool id worker now token old report given held at same is numbers =
      let ids : id ≡ token.machine = ids_same id token.machine same in
      let found : machine_of id pool.machines ≡ Some old = ap (λ (one : MachineId). machine_of one pool.machines) ids ∙ at in
      rw (is, held, same) (ap (λ (one : Option (ScheduledMachine M S D C)). message_numbers (sent_at callbacks now one)) found ∙ numbers)
  reported_own false pool id worker now token old report given held at same is numbers = rw (is, held, same) refl

  -- one that reports nothing
  unreported_lists : (pool : PoolState M S D C) (balanced : IsBalanced pool) (carries : CarriesOwn pool) (id : MachineId) (worker now : ℕ) (given : StepAnswer S C)
      → ((report : Report S) → given ≡ said.Turned report → ⊥)
      → message_numbers (sent_in callbacks id pool (Turn worker now) given) ≡ reported_in callbacks id pool (Turn worker now) given
  unreported_lists pool balanced carries id worker now given none =
      ap message_numbers (unreported callbacks pool balanced carries id worker now given none)
      ∙ sym (ap (λ (numbers : List ℕ). if_turn_of id (hand_in pool.queues worker) numbers) (not_reported given none) ∙ turn_none id (hand_in pool.queues worker))

  served_reports : (pool : PoolState M S D C) (balanced : IsBalanced pool) (carries : CarriesOwn pool) (id : MachineId) (worker now : ℕ) (token : Token)
      (old new : ScheduledMachine M S D C) (given : StepAnswer S C) (sends : Sends callbacks old now given new) → hand_in pool.queues worker ≡ Some token
      → machine_of token.machine pool.machines ≡ Some old → Reports callbacks pool balanced carries id given ⊎ ((report : Report S) → given ≡ said.Turned report → ⊥)
      → message_numbers (sent_in callbacks id pool (Turn worker now) given) ≡ reported_in callbacks id pool (Turn worker now) given
  served_reports pool balanced carries id worker now token old new given sends held at (inl reports) =
      reported_own (same_id id token.machine) pool id worker now token old reports.0 given held at refl reports.1
      (ap message_numbers (sym (sends.named reports.0 reports.1)) ∙ sends.reported reports.0 reports.1)
  served_reports pool balanced carries id worker now token old new given sends held at (inr none) = unreported_lists pool balanced carries id worker now given none

  -- what a turn answers that is no report
  refusal_reports : (pool : PoolState M S D C) (balanced : IsBalanced pool) (carries : CarriesOwn pool) (id : MachineId) (worker now : ℕ) (refused : Refused (Option C))
      → message_numbers (sent_in callbacks id pool (Turn worker now) (said.Refused refused)) ≡ reported_in callbacks id pool (Turn worker now) (said.Refused refused)
  refusal_reports pool balanced carries id worker now refused = unreported_lists pool balanced carries id worker now (said.Refused refused) (λ report is. cc)

  found_reports : (pool : PoolState M S D C) (balanced : IsBalanced pool) (carries : CarriesOwn pool) (id : MachineId) (worker now : ℕ) (token : Token)
      (found : Option (ScheduledMachine M S D C)) → hand_in pool.queues worker ≡ Some token → machine_of token.machine pool.machines ≡ found
      → message_numbers (sent_in callbacks id pool (Turn worker now) (serve_found callbacks pool worker token.machine now found).0)
      ≡ reported_in callbacks id pool (Turn worker now) (serve_found callbacks pool worker token.machine now found).0
  found_reports pool balanced carries id worker now token None held at = refusal_reports pool balanced carries id worker now (record { refusal = NotPossible; value = None })
  found_reports pool balanced carries id worker now token (Some old) held at =
      let served = served_on callbacks old now in
      served_reports pool balanced carries id worker now token old served.1 served.0 (served_sends callbacks old now) held at
      (reports_or callbacks pool balanced carries id served.0)

  hand_reports : (pool : PoolState M S D C) (balanced : IsBalanced pool) (carries : CarriesOwn pool) (id : MachineId) (worker now : ℕ) (hand : Option Token)
      → hand_in pool.queues worker ≡ hand
      → message_numbers (sent_in callbacks id pool (Turn worker now) (turn_of_hand callbacks pool worker now hand).0)
      ≡ reported_in callbacks id pool (Turn worker now) (turn_of_hand callbacks pool worker now hand).0
  hand_reports pool balanced carries id worker now None held = refusal_reports pool balanced carries id worker now (record { refusal = NotPossible; value = None })
  hand_reports pool balanced carries id worker now (Some token) held = found_reports pool balanced carries id worker now token (machine_of token.machine pool.machines) held refl

  guard_reports : (test : Bool) (pool : PoolState M S D C) (balanced : IsBalanced pool) (carries : CarriesOwn pool) (id : MachineId) (worker now : ℕ) (done : StepAnswer S C × PoolState M S D C)
      → message_numbers (sent_in callbacks id pool (Turn worker now) done.0) ≡ reported_in callbacks id pool (Turn worker now) done.0
      → message_numbers (sent_in callbacks id pool (Turn worker now) (if◌then◌else◌ {A = StepAnswer S C × PoolState M S D C} test (refused_with NotPossible None, pool) done).0)
      ≡ reported_in callbacks id pool (Turn worker now) (if◌then◌else◌ {A = StepAnswer S C × PoolState M S D C} test (refused_with NotPossible None, pool) done).0
  guard_reports true pool balanced carries id worker now done h = refusal_reports pool balanced carries id worker now (record { refusal = NotPossible; value = None })
  guard_reports false pool balanced carries id worker now done h = h

  step_reports : (old new : PoolState M S D C) (step : Step C) (given : StepAnswer S C) (id : MachineId) → IsBalanced old → CarriesOwn old → DoesStep callbacks old step given new
      → message_numbers (sent_in callbacks id old step given) ≡ reported_in callbacks id old step given
  step_reports old new (Turn worker now) given id balanced carries (inl done) =
      subst (λ (one : StepAnswer S C). message_numbers (sent_in callbacks id old (Turn worker now) one) ≡ reported_in callbacks id old (Turn worker now) one) (sym done.0)
      (guard_reports (is_carrying old.transit worker) old balanced carries id worker now (turn_of_hand callbacks old worker now (hand_in old.queues worker))
      (hand_reports old balanced carries id worker now (hand_in old.queues worker) refl))
  step_reports old new (Turn worker now) given id balanced carries (inr unmet) =
      subst (λ (one : StepAnswer S C). message_numbers (sent_in callbacks id old (Turn worker now) one) ≡ reported_in callbacks id old (Turn worker now) one) (sym unmet.1)
      (refusal_reports old balanced carries id worker now (record { refusal = NoMemory; value = None }))
  step_reports old new step given id balanced carries does = refl

  -- ---- steps
  does_moves : (old new : PoolState M S D C) (step : Step C) (given : StepAnswer S C) (id : MachineId) → IsBalanced old → CarriesOwn old → DoesStep callbacks old step given new
      → MovesOn callbacks id old step given new
  does_moves old new step given id balanced carries (inl done) =
      subst (λ (one : StepAnswer S C). MovesOn callbacks id old step one new) (sym done.0)
      (subst (λ (pool : PoolState M S D C). MovesOn callbacks id old step (step_in callbacks old step).0 pool) (sym done.1) (step_in_moves callbacks old balanced carries id step))
  does_moves old new step given id balanced carries (inr unmet) =
      subst (λ (one : StepAnswer S C). MovesOn callbacks id old step one new) (sym unmet.1)
      (subst (λ (pool : PoolState M S D C). MovesOn callbacks id old step (without_memory step) pool) (sym unmet.2)
      (refused_moves callbacks id old step (record { refusal = NoMemory; value = content_in step })))

  -- ---- plays
  begun_order : (id : MachineId) (old new : PoolState M S D C) → new ≡ old → SendsInOrder callbacks id old [] [] new
  begun_order id old new is = rw is (ap (λ (rest : List (Message C)). transit_of id old.transit ++ rest) (append-nil (outbox_at (machine_of id old.machines))))

  more_order : (id : MachineId) (old next new : PoolState M S D C) (step : Step C) (given : StepAnswer S C) (steps : List (Step C)) (answers : List (StepAnswer S C))
      → next ≡ left_by callbacks old step given → MovesOn callbacks id old step given next → SendsInOrder callbacks id next steps answers new
      → SendsInOrder callbacks id old (step ∷ steps) (given ∷ answers) new
  more_order id old next new step given steps answers left moves later =
      let rest : SendsInOrder callbacks id (left_by callbacks old step given) steps answers new =
      subst (λ (pool : PoolState M S D C). SendsInOrder callbacks id pool steps answers new) left later in
      let first : MovesOn callbacks id old step given (left_by callbacks old step given) = subst (λ (pool : PoolState M S D C). MovesOn callbacks id old step given pool) left moves in
      let pool = left_by callbacks old step given in
      joined_lists (transit_of id old.transit) (outbox_at (machine_of id old.machines)) (sent_in callbacks id old step given)
      (delivered_from id (delivered_in callbacks old step given)) (transit_of id pool.transit) (outbox_at (machine_of id pool.machines))
      (sent_of callbacks id pool steps answers) (delivered_from id (deliveries_of callbacks pool steps answers))
      (transit_of id new.transit) (outbox_at (machine_of id new.machines)) first rest
      ∙ ap (λ (gone : List (Message C)). gone ++ (transit_of id new.transit ++ outbox_at (machine_of id new.machines)))
      (sym (delivered-append id (delivered_in callbacks old step given) (deliveries_of callbacks pool steps answers)))

  -- a pool's messages go their way in a play
  pub plays-keep : (old new : PoolState M S D C) (steps : List (Step C)) (answers : List (StepAnswer S C)) → IsBalanced old → CarriesOwn old
      → Plays callbacks old steps answers new → KeepsMessages callbacks old steps answers new
  plays-keep old new [] [] balanced carries played = record {
    in_order = λ id. begun_order id old new played;
    reported = λ id. refl;
    arrived = λ id. nothing;
    fates = no_fates;
  }
  plays-keep old new [] (given ∷ answers) balanced carries played = absurd played
  plays-keep old new (step ∷ steps) [] balanced carries played = absurd played
  plays-keep old new (step ∷ steps) (given ∷ answers) balanced carries played =
      let next : PoolState M S D C = played.0 in
      let left : next ≡ left_by callbacks old step given = step-left callbacks old next step given balanced played.1 in
      let later = plays-keep next new steps answers (step-balanced callbacks old next step given balanced played.1) (step-carries callbacks old next step given balanced carries played.1) played.2 in
      let kept : KeepsMessages callbacks (left_by callbacks old step given) steps answers new =
      subst (λ (pool : PoolState M S D C). KeepsMessages callbacks pool steps answers new) left later in
      let pool = left_by callbacks old step given in
      let here = delivered_in callbacks old step given in
      let there = deliveries_of callbacks pool steps answers in
      record {
        in_order = λ id. more_order id old next new step given steps answers left (does_moves old next step given id balanced carries played.1) (later.in_order id);
        reported = λ id.
            map-append (λ (message : Message C). message.number) (sent_in callbacks id old step given) (sent_of callbacks id pool steps answers)
            ∙ (ap (λ (numbers : List ℕ). numbers ++ message_numbers (sent_of callbacks id pool steps answers)) (step_reports old next step given id balanced carries played.1)
            ∙ ap (λ (numbers : List ℕ). reported_in callbacks id old step given ++ numbers) (kept.reported id));
        arrived = λ id.
            subst (λ (arrivals : List (Command C × Answer S C)). StandIn arrivals (history_of callbacks id old (step ∷ steps) (given ∷ answers))) (sym (arrivals-append id here there))
            (stand-append (step_arrives id old step given) (kept.arrived id));
        fates = All-append (λ (delivery : Delivery C). IsFate delivery.fate) here there (step_fates old next step given played.1) kept.fates;
      }

-- ---- a pool as it begins
idle_hands : (C : Type 0) (workers : ℕ) → length (replicate {A = Option (Message C)} workers None) ≡ length (idle_workers workers)
idle_hands C zero = refl
idle_hands C (suc workers) = ap suc (idle_hands C workers)

idle_carries : {C : Type 0} (workers place : ℕ) (message : Message C) → slice_index_or (replicate workers None) place None ≡ Some message → ⊥
idle_carries zero place message h = cc
idle_carries (suc workers) zero message h = cc
idle_carries (suc workers) (suc place) message h = idle_carries workers place message h

module _ {C : Type 0} where
  -- messages that are numbered as a machine's are its own
  numbered_own : (sender : MachineId) (number : ℕ) (messages : List (Message C)) (next : ℕ) → AreSentBy sender number messages next → AreFrom sender messages
  numbered_own sender number [] next numbered = tt
  numbered_own sender number (message ∷ messages) next numbered = (numbered.0, numbered_own sender (number + 1) messages next numbered.2)

module _ {M S D C : Type 0} where
  own_at_first : (cores : List (Machine M S D C)) → All HasItsOwn cores
      → All HasOwnMessages (map scheduled_at_first cores)
  own_at_first [] own = All-nil HasOwnMessages
  own_at_first (core ∷ cores) own =
      All-cons HasOwnMessages (scheduled_at_first core) (map scheduled_at_first cores) (All-head HasItsOwn core cores own)
      (own_at_first cores (All-tail HasItsOwn core cores own))

  -- no worker carries a message, and each machine's are its own where they were
  pub opened-carries : (workers : ℕ) (cores : List (Machine M S D C)) → All HasItsOwn cores
      → CarriesOwn (opened workers cores)
  opened-carries workers cores own = record {
    hands = idle_hands C workers;
    own = own_at_first cores own;
    carried = λ worker message at.
        absurd (idle_carries workers (worker - 1) message (message_there (replicate workers None) worker message at).1);
  }

  -- a machine that is lawful has its own
  pub lawful_own : (core : Machine M S D C) → IsLawful core.machine → HasItsOwn core
  lawful_own core lawful = numbered_own core.machine.id lawful.sent.first core.machine.outbox.messages core.machine.outbox.next_number lawful.sent.numbered

  -- one machine more has its own
  pub own_next : (cores : List (Machine M S D C)) (place : ℕ) (core : Machine M S D C) → place < length cores → core ≡ slice_index_or cores place core
      → All HasItsOwn (take place cores) → HasItsOwn core → All HasItsOwn (take (place + 1) cores)
  own_next cores place core within is so_far own =
      let next : place + 1 ≡ suc place = omega arith in
      rw (next, take-suc cores place core within, ← is)
      (All-append HasItsOwn (take place cores) (core ∷ []) so_far (All-cons HasItsOwn core [] own (All-nil HasItsOwn)))
