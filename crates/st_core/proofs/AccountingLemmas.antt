-- Each event that is accepted waits on or is finished, once; and none that is finished comes again.
use Rattle.std.proofs.Common.{◌≡◌, ℕ, zero, suc, ◌+◌, ◌<◌, ◌≤◌, ◌^◌, ◌==◌, min, Bool, true, false, if◌then◌else◌, Option, Some, None, List, [], ◌∷◌, ◌++◌, length, refl, ap, sym, ◌∙◌, arith, inl, inr}
use Rattle.std.specs.Prelude.{Ok, Err, nat_lt}
use Rattle.std.specs.Option.{option_map}
use Rattle.st_events.specs.declared.event.Event.{Event}
use Rattle.st_events.specs.declared.insert.Insert.{Insert}
use Rattle.st_events.specs.declared.refusal.Refusal.{Refusal}
use Rattle.st_events.specs.declared.refusal.Refusal.TheVariants.{Exhausted, Moment}
use Rattle.st_events.specs.declared.setting.Setting.{Setting}
use Rattle.st_timeouts.specs.declared.running.Running.{Running}
use Rattle.st_actions.specs.Plan.{inserts_of, postpone_of, settings_of}
use Rattle.st_agenda.specs.declared.item.Item.TheVariants.{Posted}
use Rattle.st_agenda.specs.Items.{has, numbered, numbers_of}
use Rattle.st_events.specs.Timers.{AskedOnce}
use Rattle.st_actions.proofs.OnceLemmas.{settings_once}
use Rattle.st_agenda.specs.Agenda.{running_on}
use Rattle.st_agenda.specs.Timing.{numbers_taken}
use Rattle.st_agenda.specs.declared.schedule.Schedule.{Schedule}
use Rattle.st_agenda.specs.Agenda.{next_in, with_all_expired, settled_in}
use Rattle.st_agenda.specs.Lawful.{times, waiting_numbers, running_numbers, live_numbers, IsLawfulSchedule}
use Rattle.st_agenda.proofs.LawfulReceiving.{next_is_live}
use Rattle.st_agenda.proofs.LawfulSetting.{times-append, numbered_times, posted_waiting, lawful_posted, expired_waiting}
use Rattle.st_agenda.proofs.LawfulTurn.{has_times, next_below, settled_waiting, settled_next, settled_gone, finished_gone}
use Rattle.st_answers.specs.declared.answer.Answer.{Answer}
use Rattle.st_answers.specs.declared.answer.Answer.TheVariants as answer
use Rattle.st_answers.specs.declared.command.Command.{Command}
use Rattle.st_answers.specs.declared.command.Command.TheVariants as command
use Rattle.st_answers.specs.declared.entry.Entry.{Entry}
use Rattle.st_answers.specs.declared.turned.Turned.TheVariants.{Reported}
use Rattle.st_core.specs.declared.machine_state.MachineState.{MachineState}
use Rattle.st_core.specs.MachineState.{Machine}
use Rattle.st_core.specs.Callbacks.{Callbacks, Called, called_of}
use Rattle.st_core.specs.Choice.{next_event_of}
use Rattle.st_core.specs.Stop.{unless_ended, stop_running}
use Rattle.st_core.specs.Transition.{with_moment, with_called, with_settled, has_numbers, done_by, report_of, unless_refused, concluded, transition_of, turn_running}
use Rattle.st_core.specs.Post.{posted_event, with_posted, post_refused, post_running}
use Rattle.st_core.specs.Tick.{with_expiries, expiring_of, tick_running}
use Rattle.st_core.specs.Run.{Meets, Does, takes_memory, without_memory, step_of, Runs}
use Rattle.st_core.specs.Lawful.{IsLawful}
use Rattle.st_core.specs.Accounting.{waiting_in, finished_as, accepted_by, finished_by, accepted_in, finished_in, IsAccounted}
use Rattle.std.proofs.lemmas.Bool.{and_parts}
use Rattle.st_agenda.specs.Timing as timing
use Rattle.st_core.proofs.TransitionLemmas.{enough_for_all}
use Rattle.st_core.proofs.LawfulLemmas.{lawful_moment, does_meets, does_lawful}

-- ---- how often a number stands in a list
marked_by : (count : ℕ) → (if nat_lt 0 count then 1 else 0) ≡ min 1 count
marked_by count = grind arith

-- a number is among these where it stands there once at least
marked : (n : ℕ) (numbers : List ℕ) → (if has numbers n then 1 else 0) ≡ min 1 (times n numbers)
marked n numbers = ap (λ (among : Bool). if among then 1 else 0) (has_times numbers n) ∙ marked_by (times n numbers)

pub marked_behind : (n : ℕ) (numbers more : List ℕ) → (if has (numbers ++ more) n then 1 else 0) ≡ min 1 (times n numbers + times n more)
marked_behind n numbers more = marked n (numbers ++ more) ∙ ap (min 1) (times-append n numbers more)

none_by : (same : Bool) → same ≡ false → (if same then 1 else 0) + 0 ≡ 0
none_by same e = rw e refl

not_alone : (n number : ℕ) → (number ≡ n → ⊥) → times n (number ∷ []) ≡ 0
not_alone n number differ = none_by (number == n) (grind (arith, differ))

alone_by : (same : Bool) → (if same then 1 else 0) + 0 ≡ 1 → same ≡ true
alone_by true h = refl
alone_by false h = absurd (omega (arith, h))

alone_is : (n number : ℕ) → times n (number ∷ []) ≡ 1 → number ≡ n
alone_is n number h = let same : (number == n) ≡ true = alone_by (number == n) h in grind (arith, same)

-- what is finished does not come again, so that it is counted once
pub counted_on : (waits_after waits_next waits accepted accepted_later finished finished_later : ℕ) → waits_next + finished ≡ min 1 (waits + accepted)
    → waits_after + finished_later ≡ min 1 (waits_next + accepted_later) → (finished ≡ 1 → accepted_later ≡ 0)
    → waits_after + (finished + finished_later) ≡ min 1 (waits + (accepted + accepted_later))
counted_on waits_after waits_next waits accepted accepted_later zero finished_later first others none = omega (arith, first, others)
counted_on waits_after waits_next waits accepted accepted_later (suc finished) finished_later first others none =
    let one : suc finished ≡ 1 = omega (arith, first) in
    omega (arith, first, others, none one)

-- ---- what is accepted and what is finished between two schedules
module _ {C : Type 0} where
  -- a number that was given out, and may not be handled any more
  abbrev pub IsGone : ℕ → Schedule C → Type 0
  IsGone n s = (n < s.next_number) × (times n (live_numbers s) ≡ 0)

  -- each number that waited, or is accepted, waits on or is finished, and once; none that was gone is
  -- accepted or comes again, and what is finished is gone
  pub record Accounts (old new : Schedule C) (accepted finished : List ℕ) : Type 0 where
    pub moved : (n : ℕ) → times n (waiting_numbers new.pending) + times n finished ≡ min 1 (times n (waiting_numbers old.pending) + times n accepted)
    pub stays_gone : (n : ℕ) → IsGone n old → IsGone n new
    pub not_again : (n : ℕ) → IsGone n old → times n accepted ≡ 0
    pub leaves : (n : ℕ) → times n finished ≡ 1 → IsGone n new

  finished_same : {old new : Schedule C} {accepted finished others : List ℕ} → others ≡ finished → Accounts old new accepted finished
      → Accounts old new accepted others
  finished_same same accounts = rw same accounts

  pub waiting_once : (latest : ℕ) (s : Schedule C) (n : ℕ) → IsLawfulSchedule latest s → times n (waiting_numbers s.pending) ≤ 1
  waiting_once latest s n law = omega (arith, law.distinct n, times-append n (waiting_numbers s.pending) (running_numbers s.running))

  -- neither is there where the same events wait and the same time-outs run
  accounts_same : (latest : ℕ) (old new : Schedule C) → IsLawfulSchedule latest old → new.next_number ≡ old.next_number
      → waiting_numbers new.pending ≡ waiting_numbers old.pending → live_numbers new ≡ live_numbers old → Accounts old new [] []
  accounts_same latest old new law next waits live = record {
    moved = λ n. omega (arith, ap (times n) waits, waiting_once latest old n law);
    stays_gone = λ n is_gone. (omega (arith, next, is_gone.0), ap (times n) live ∙ is_gone.1);
    not_again = λ n is_gone. refl;
    leaves = λ n one. absurd (omega (arith, one));
  }

  accounts_expired : (latest : ℕ) (s : Schedule C) (expiring : List (Running C)) → IsLawfulSchedule latest s
      → Accounts s (with_all_expired expiring s) [] []
  accounts_expired latest s expiring law =
      let waits = expired_waiting s expiring in
      accounts_same latest s (with_all_expired expiring s) law refl waits (ap (λ numbers. numbers ++ running_numbers s.running) waits)

  accounts_posted : (latest : ℕ) (s : Schedule C) (event : Event C) → event.number ≡ s.next_number → s.next_number < 2 ^ 63 → IsLawfulSchedule latest s
      → Accounts s (record s { pending = s.pending ++ Posted event ∷ []; next_number = s.next_number + 1 }) (event.number ∷ []) []
  accounts_posted latest s event same reserved law =
      let new : Schedule C = record s { pending = s.pending ++ Posted event ∷ []; next_number = s.next_number + 1 } in
      let not_among : (n : ℕ) → n < s.next_number → times n (event.number ∷ []) ≡ 0 = λ n less. not_alone n event.number (λ e. omega (arith, e, same, less)) in
      record {
        moved = λ n. omega (arith, posted_waiting s event n, waiting_once latest new n (lawful_posted latest s event same reserved law));
        stays_gone = λ n is_gone. (
          omega (arith, is_gone.0),
          omega (
            arith,
            times-append n (waiting_numbers (s.pending ++ Posted event ∷ [])) (running_numbers s.running),
            times-append n (waiting_numbers s.pending) (running_numbers s.running),
            posted_waiting s event n,
            not_among n is_gone.0,
            is_gone.1,
          ),
        );
        not_again = λ n is_gone. not_among n is_gone.0;
        leaves = λ n one. absurd (omega (arith, one));
      }

  leaves_by : (postpone : Bool) (number n : ℕ) (new : Schedule C) → number < new.next_number → (postpone ≡ false → times number (live_numbers new) ≡ 0)
      → times n (if postpone then [] else number ∷ []) ≡ 1 → IsGone n new
  leaves_by true number n new less none one = absurd (omega (arith, one))
  leaves_by false number n new less none one =
      let same : number ≡ n = alone_is n number one in rw (← same) (less, none refl)

  module _ (now : ℕ) (s : Schedule C) (number : ℕ) (postpone changed : Bool) (inserts : List (Insert C)) (settings : List (Setting C)) where
    accounts_settled : IsLawfulSchedule now s → option_map (λ (e : Event C). e.number) (next_in s) ≡ Some number
        → AskedOnce settings → s.next_number + (length inserts + numbers_taken (running_on changed s) settings) ≤ 2 ^ 63
        → Accounts s (settled_in now s number postpone changed inserts settings) (number ∷ numbers_of (numbered s.next_number inserts)) (if postpone then [] else number ∷ [])
    accounts_settled law next once reserved =
        let below = next_below now s number law next in
        let more = settled_next now s number postpone changed inserts settings law next once reserved in
        record {
          moved = λ n. settled_waiting now s number postpone changed inserts settings law next once reserved n
              ∙ marked_behind n (waiting_numbers s.pending) (number ∷ numbers_of (numbered s.next_number inserts));
          stays_gone = λ n is_gone. (
            omega (arith, is_gone.0, more),
            settled_gone now s number postpone changed inserts settings law next once reserved n is_gone.0 is_gone.1,
          );
          not_again = λ n is_gone.
              let other : times n (number ∷ []) ≡ 0 = not_alone n number (λ e. omega (arith, ap (λ m. times m (live_numbers s)) e, next_is_live now s number law next, is_gone.1)) in
              omega (arith, other, numbered_times n s.next_number inserts is_gone.0);
          leaves = λ n one. leaves_by postpone number n (settled_in now s number postpone changed inserts settings) (omega (arith, below, more))
              (finished_gone now s number postpone changed inserts settings law next once reserved) one;
        }

-- ---- what a step accepts and finishes
finished_by_done : (postpone : Bool) (number : ℕ) → finished_as (done_by postpone) (Some number) ≡ (if postpone then [] else number ∷ [])
finished_by_done true number = refl
finished_by_done false number = refl

module _ {S D C : Type 0} where
  -- by this answer, said so, to a call of a machine, and what it leaves
  abbrev AccountsFor : {A : Type 0} → (A → Answer S C) → MachineState S D C → A × MachineState S D C → Type 0
  AccountsFor say old done = Accounts old.schedule done.1.schedule (accepted_by (say done.0)) (finished_by (say done.0))

  -- a call of a machine that runs
  accounts_running : {A : Type 0} (say : A → Answer S C) (end : Option (ℕ × ℕ)) (refused : Refusal → A) (machine : MachineState S D C) (done : A × MachineState S D C)
      → end ≡ None → (done.1.ended ≡ None → AccountsFor say machine done) → (unless_ended end refused machine done).1.ended ≡ None
      → AccountsFor say machine (unless_ended end refused machine done)
  accounts_running say None refused machine done runs accounts still = accounts still
  accounts_running say (Some end) refused machine done runs accounts still = cc

  module _ (machine : MachineState S D C) (law : IsLawful machine) where
    accounts_unchanged : Accounts machine.schedule machine.schedule [] []
    accounts_unchanged = accounts_same machine.latest machine.schedule machine.schedule law.scheduled refl refl refl

    -- a post
    post_accounts : (entry : Entry) (content : C) (reserved : Bool) → nat_lt machine.schedule.next_number (2 ^ 63) ≡ reserved
        → AccountsFor answer.Post machine
        (if reserved then (Ok machine.schedule.next_number, with_posted machine entry content) else (post_refused content Exhausted, machine))
    post_accounts entry content true e =
        accounts_posted machine.latest machine.schedule (posted_event machine entry content) refl (grind (arith, e)) law.scheduled
    post_accounts entry content false e = accounts_unchanged

    -- a tick
    tick_accounts : (now : ℕ) (early : Bool) → nat_lt now (2 ^ 63) ≡ early
        → AccountsFor answer.Tick machine
        (if early then (Ok (length (expiring_of (with_moment machine now))), with_expiries (with_moment machine now)) else (Err Moment, machine))
    tick_accounts now true e = accounts_expired machine.latest machine.schedule (expiring_of (with_moment machine now)) law.scheduled
    tick_accounts now false e = accounts_unchanged

    -- a turn
    module _ (callbacks : Callbacks S D C) (now : ℕ) (law_at : IsLawful (with_moment machine now)) where
      went_on_accounts : (number : ℕ) (called : Called S D C) → option_map (λ (e : Event C). e.number) (next_in machine.schedule) ≡ Some number
          → (enough : Bool) → has_numbers (with_moment machine now) called ≡ enough
          → AccountsFor answer.Turn machine (unless_refused machine
          (if enough
          then (Ok (Reported (report_of (with_moment machine now) number called)), with_settled (with_called (with_moment machine now) called) number called)
          else (Err Exhausted, with_moment machine now)))
      went_on_accounts number called next true e =
          finished_same (finished_by_done (postpone_of called.actions) number)
          (accounts_settled (with_moment machine now).latest machine.schedule number (postpone_of called.actions) called.changed
          (inserts_of called.actions) (settings_of called.actions) law_at.scheduled next (settings_once called.actions)
          (enough_for_all machine.schedule.next_number (length (inserts_of called.actions)) (numbers_taken (running_on called.changed machine.schedule) (settings_of called.actions))
          (and_parts (timing.has_numbers machine.schedule.next_number (running_on called.changed machine.schedule) (inserts_of called.actions) (settings_of called.actions)) _ e).0))
      went_on_accounts number called next false e = accounts_unchanged

      concluded_accounts : (number : ℕ) (called : Called S D C) → option_map (λ (e : Event C). e.number) (next_in machine.schedule) ≡ Some number
          → (reason : Option ℕ) → (unless_refused machine (concluded callbacks (with_moment machine now) number called reason)).1.ended ≡ None
          → AccountsFor answer.Turn machine (unless_refused machine (concluded callbacks (with_moment machine now) number called reason))
      concluded_accounts number called next None still = went_on_accounts number called next (has_numbers (with_moment machine now) called) refl
      concluded_accounts number called next (Some reason) still = cc

      transition_accounts : (event : Option (Event C)) → next_in machine.schedule ≡ event
          → (unless_refused machine (transition_of callbacks (with_moment machine now) event)).1.ended ≡ None
          → AccountsFor answer.Turn machine (unless_refused machine (transition_of callbacks (with_moment machine now) event))
      transition_accounts None next still = accounts_unchanged
      transition_accounts (Some event) next still =
          let called = called_of callbacks (with_moment machine now) event in
          concluded_accounts event.number called (ap (option_map (λ (e : Event C). e.number)) next) called.reason still

    turn_accounts : (callbacks : Callbacks S D C) (now : ℕ) (early : Bool) → nat_lt now (2 ^ 63) ≡ early
        → (if early then unless_refused machine (transition_of callbacks (with_moment machine now) (next_event_of (with_moment machine now))) else (Err Moment, machine)).1.ended ≡ None
        → AccountsFor answer.Turn machine
        (if early then unless_refused machine (transition_of callbacks (with_moment machine now) (next_event_of (with_moment machine now))) else (Err Moment, machine))
    turn_accounts callbacks now true e still =
        transition_accounts callbacks now (lawful_moment machine now (grind (arith, e)) law) (next_in machine.schedule) refl still
    turn_accounts callbacks now false e still = accounts_unchanged

    -- a command without memory
    without_memory_accounts : (command : Command C) → Accounts machine.schedule machine.schedule (accepted_by {S = S} (without_memory command)) (finished_by {S = S} (without_memory command))
    without_memory_accounts (command.Post entry content) = accounts_unchanged
    without_memory_accounts (command.Tick now) = accounts_unchanged
    without_memory_accounts (command.Turn now) = accounts_unchanged
    without_memory_accounts (command.Reply tag content) = accounts_unchanged
    without_memory_accounts (command.Collect tag) = accounts_unchanged
    without_memory_accounts (command.Stop reason) = accounts_unchanged
    without_memory_accounts command.TakeOut = accounts_unchanged

    -- a command to a machine that runs, and runs on
    step_accounts : (callbacks : Callbacks S D C) (command : Command C) → machine.ended ≡ None → (step_of callbacks machine command).1.ended ≡ None
        → AccountsFor (λ (a : Answer S C). a) machine (step_of callbacks machine command)
    step_accounts callbacks (command.Post entry content) runs still =
        accounts_running answer.Post machine.ended (post_refused content) machine (post_running machine entry content) runs
        (λ more. post_accounts entry content (nat_lt machine.schedule.next_number (2 ^ 63)) refl) still
    step_accounts callbacks (command.Tick now) runs still =
        accounts_running answer.Tick machine.ended (λ refusal. Err refusal) machine (tick_running machine now) runs
        (λ more. tick_accounts now (nat_lt now (2 ^ 63)) refl) still
    step_accounts callbacks (command.Turn now) runs still =
        accounts_running answer.Turn machine.ended (λ refusal. Err refusal) machine (turn_running callbacks machine now) runs
        (turn_accounts callbacks now (nat_lt now (2 ^ 63)) refl) still
    step_accounts callbacks (command.Reply tag content) runs still = accounts_unchanged
    step_accounts callbacks (command.Collect tag) runs still = accounts_unchanged
    step_accounts callbacks command.TakeOut runs still = accounts_unchanged
    step_accounts callbacks (command.Stop reason) runs still =
        accounts_running answer.Stop machine.ended (λ refusal. Err refusal) machine (stop_running callbacks machine reason) runs (λ more. cc) still

    met_accounts : (command : Command C) (answer : Answer S C) (new : MachineState S D C) (definition : Answer S C × MachineState S D C)
        → Meets takes_memory (without_memory command) answer machine new definition
        → (definition.1.ended ≡ None → AccountsFor (λ (a : Answer S C). a) machine definition) → new.ended ≡ None
        → Accounts machine.schedule new.schedule (accepted_by answer) (finished_by answer)
    met_accounts command answer new definition (inl (same_answer, same_new)) accounts still =
        rw (same_answer, same_new) (accounts (rw (← same_new) still))
    met_accounts command answer new definition (inr (takes, same_answer, same_new)) accounts still =
        rw (same_answer, same_new) (without_memory_accounts command)

  -- ---- a machine that has ended runs no more
  unless_runs : {A : Type 0} (end : Option (ℕ × ℕ)) (refused : Refusal → A) (machine : MachineState S D C) (done : A × MachineState S D C)
      → machine.ended ≡ end → (unless_ended end refused machine done).1.ended ≡ None → machine.ended ≡ None
  unless_runs None refused machine done same still = same
  unless_runs (Some end) refused machine done same still = still

  module _ (callbacks : Callbacks S D C) where
    step_runs : (machine : MachineState S D C) (command : Command C) → (step_of callbacks machine command).1.ended ≡ None → machine.ended ≡ None
    step_runs machine (command.Post entry content) still = unless_runs machine.ended _ machine (post_running machine entry content) refl still
    step_runs machine (command.Tick now) still = unless_runs machine.ended _ machine (tick_running machine now) refl still
    step_runs machine (command.Turn now) still = unless_runs machine.ended _ machine (turn_running callbacks machine now) refl still
    step_runs machine (command.Reply tag content) still = still
    step_runs machine (command.Collect tag) still = still
    step_runs machine command.TakeOut still = still
    step_runs machine (command.Stop reason) still = unless_runs machine.ended _ machine (stop_running callbacks machine reason) refl still

    met_runs : (without answer : Answer S C) (old new : MachineState S D C) (definition : Answer S C × MachineState S D C)
        → Meets takes_memory without answer old new definition → (definition.1.ended ≡ None → old.ended ≡ None) → new.ended ≡ None → old.ended ≡ None
    met_runs without answer old new definition (inl (same_answer, same_new)) runs still = runs (rw (← same_new) still)
    met_runs without answer old new definition (inr (takes, same_answer, same_new)) runs still = rw (← same_new) still

module _ {M S D C : Type 0} (callbacks : M → Callbacks S D C) where
  -- a command leaves a machine running that ran
  pub does_runs : (old new : Machine M S D C) (command : Command C) (answer : Answer S C) → Does callbacks old command answer new
      → new.machine.ended ≡ None → old.machine.ended ≡ None
  does_runs old new command answer does still =
      met_runs (callbacks old.module_) (without_memory command) answer old.machine new.machine (step_of (callbacks old.module_) old.machine command)
      (does_meets callbacks old new command answer does) (step_runs (callbacks old.module_) old.machine command) still

  -- so where the machine runs in the end, it ran all the time
  ran_before : (old : Machine M S D C) (commands : List (Command C)) (answers : List (Answer S C)) (new : Machine M S D C)
      → Runs callbacks old commands answers new → new.machine.ended ≡ None → old.machine.ended ≡ None
  ran_before old [] [] new ran still = rw (← ran) still
  ran_before old [] (a ∷ answers) new ran still = absurd ran
  ran_before old (c ∷ commands) [] new ran still = absurd ran
  ran_before old (c ∷ commands) (a ∷ answers) new ran still =
      does_runs old ran.0 c a ran.1 (ran_before ran.0 commands answers new ran.2 still)

  -- ---- what a run accepts and finishes
  pub does_accounts : (old new : Machine M S D C) (command : Command C) (answer : Answer S C) → IsLawful old.machine
      → Does callbacks old command answer new → new.machine.ended ≡ None
      → Accounts old.machine.schedule new.machine.schedule (accepted_by answer) (finished_by answer)
  does_accounts old new command answer law does still =
      met_accounts old.machine law command answer new.machine (step_of (callbacks old.module_) old.machine command)
      (does_meets callbacks old new command answer does)
      (step_accounts old.machine law (callbacks old.module_) command (does_runs old new command answer does still)) still

  -- what is gone is not accepted again
  never_again : (old : Machine M S D C) (commands : List (Command C)) (answers : List (Answer S C)) (new : Machine M S D C)
      → IsLawful old.machine → Runs callbacks old commands answers new → new.machine.ended ≡ None → (n : ℕ) → IsGone n old.machine.schedule
      → times n (accepted_in answers) ≡ 0
  never_again old [] [] new law ran still n is_gone = refl
  never_again old [] (a ∷ answers) new law ran still n is_gone = absurd ran
  never_again old (c ∷ commands) [] new law ran still n is_gone = absurd ran
  never_again old (c ∷ commands) (a ∷ answers) new law ran still n is_gone =
      let one = does_accounts old ran.0 c a law ran.1 (ran_before ran.0 commands answers new ran.2 still) in
      let others = never_again ran.0 commands answers new (does_lawful callbacks old ran.0 c a ran.1 law) ran.2 still n (one.stays_gone n is_gone) in
      omega (arith, times-append n (accepted_by a) (accepted_in answers), one.not_again n is_gone, others)

  accounted_times : (old : Machine M S D C) (commands : List (Command C)) (answers : List (Answer S C)) (new : Machine M S D C)
      → IsLawful old.machine → Runs callbacks old commands answers new → new.machine.ended ≡ None → (n : ℕ)
      → times n (waiting_in new.machine) + times n (finished_in answers) ≡ min 1 (times n (waiting_in old.machine) + times n (accepted_in answers))
  accounted_times old [] [] new law ran still n =
      rw ran (omega (arith, waiting_once old.machine.latest old.machine.schedule n law.scheduled))
  accounted_times old [] (a ∷ answers) new law ran still n = absurd ran
  accounted_times old (c ∷ commands) [] new law ran still n = absurd ran
  accounted_times old (c ∷ commands) (a ∷ answers) new law ran still n =
      let one = does_accounts old ran.0 c a law ran.1 (ran_before ran.0 commands answers new ran.2 still) in
      let law_next = does_lawful callbacks old ran.0 c a ran.1 law in
      rw (times-append n (finished_by a) (finished_in answers), times-append n (accepted_by a) (accepted_in answers))
      (counted_on (times n (waiting_in new.machine)) (times n (waiting_in ran.0.machine)) (times n (waiting_in old.machine)) (times n (accepted_by a)) (times n (accepted_in answers))
      (times n (finished_by a)) (times n (finished_in answers)) (one.moved n)
      (accounted_times ran.0 commands answers new law_next ran.2 still n)
      (λ finished. never_again ran.0 commands answers new law_next ran.2 still n (one.leaves n finished)))

-- nothing that is accepted is lost, and nothing is finished twice
pub accounted : {M S D C : Type 0} (callbacks : M → Callbacks S D C) (old : Machine M S D C) (commands : List (Command C)) (answers : List (Answer S C)) (new : Machine M S D C)
    → IsLawful old.machine → Runs callbacks old commands answers new → new.machine.ended ≡ None → IsAccounted old.machine answers new.machine
accounted callbacks old commands answers new law ran still number =
    accounted_times callbacks old commands answers new law ran still number
    ∙ sym (marked_behind number (waiting_in old.machine) (accepted_in answers))
