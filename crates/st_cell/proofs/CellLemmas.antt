-- A cell stays one: its machine is the replay of its journal, the entries are numbered, the machine has its token, and the
-- posts are counted, after each call.
use Rattle.std.proofs.Common.{◌≡◌, ℕ, ◌+◌, ◌-◌, ◌≤◌, ◌<◌, ◌^◌, inl, inr, Bool, true, false, ◌==◌, if◌then◌else◌, Option, Some, None, List, [], ◌∷◌, ◌++◌, length, refl, sym, ap, subst, ◌∙◌, arith, append-nil}
use Rattle.std.specs.Prelude.{Result, Ok, Err, OnOk, OnErr, slice_index, is_some}
use Rattle.std.proofs.lemmas.Bool.{and_parts}
use Rattle.std.proofs.lemmas.List.{length-append, map-append, length-set, get_or-set_same, get_or-set_other, get_or_append_left}
use Rattle.std.proofs.Math.Seq.{get_or-append_seam}
use Rattle.st_events.specs.declared.message.Message.{Message}
use Rattle.st_events.specs.declared.refused.Refused.{Refused}
use Rattle.st_events.specs.declared.token.Token.{Token}
use Rattle.st_answers.specs.declared.answer.Answer.{Answer}
use Rattle.st_answers.specs.declared.command.Command.{Command}
use Rattle.st_answers.specs.declared.command.Command.TheVariants as command
use Rattle.st_answers.specs.declared.entry.Entry.{Entry}
use Rattle.st_answers.specs.declared.entry.Entry.TheVariants.{Info}
use Rattle.st_core.specs.declared.machine_state.MachineState.{MachineState}
use Rattle.st_core.specs.Accounting.{IsAccounted}
use Rattle.st_core.specs.Callbacks.{Callbacks}
use Rattle.st_core.specs.Lawful.{IsLawful}
use Rattle.st_core.specs.MachineState.{Machine}
use Rattle.st_core.specs.Run.{step_on}
use Rattle.st_core.proofs.AccountingLemmas.{accounted}
use Rattle.st_core.proofs.LawfulLemmas.{runs_lawful}
use Rattle.st_core.proofs.RunLemmas.{run_more}
use Rattle.st_scheduled.specs.declared.posted.Posted.{Posted}
use Rattle.st_scheduled.specs.declared.outstanding.Outstanding.{Outstanding}
use Rattle.st_scheduled.specs.declared.step_answer.StepAnswer.{StepAnswer}
use Rattle.st_scheduled.specs.declared.step_answer.StepAnswer.TheVariants as step
use Rattle.st_scheduled.specs.Answered.{posted_as, answered_by, is_refused, is_counted}
use Rattle.st_scheduled.specs.ScheduledMachine.{ScheduledMachine, HasTokenForWork, has_wake, same_id, id_of, is_token_of}
use Rattle.st_scheduled.specs.Serving.{is_turn, told_on, served_on}
use Rattle.st_scheduled.proofs.CountLemmas.{IsCountedOf, told_counted, served_counted, told_limit, served_limit}
use Rattle.st_scheduled.proofs.ServedMachines.{told_follows, served_serves, first_for_work}
use Rattle.st_scheduled.proofs.ToldLemmas.{only_turns, refused_told, refused_served}
use Rattle.st_journal.specs.declared.journal_entry.JournalEntry.{JournalEntry}
use Rattle.st_scheduled.specs.declared.next.Next.{Next}
use Rattle.st_journal.specs.declared.source.Source.{Source}
use Rattle.st_journal.specs.declared.source.Source.TheVariants as source
use Rattle.st_cell.specs.Calls.{kept_answer, entry_of, with_entry, counted_at, told_by, post_by, served_at, next_as, given_as, delivered_as, MeetsCall, Posts, IsToldBy, IsTold, TurnsBy, Turns, TakesOutBy, TakesOut, Delivers, opened, cut}
use Rattle.st_cell.specs.Cell.{CellState, cell_at_first, IsOpen, count_for, AreCounted, IsJournaled}
use Rattle.st_journal.specs.Journal.{is_port, commands_of, answers_of, AreNumbered, IsReplay, posts_of}
use Rattle.st_cell.proofs.JournalLemmas.{numbered_more, one_more, none_more}

-- what is so of either of two is so of what is the one at success and the other at a refusal
pub either_kept : {T E X : Type 0} (P : X → Type 0) (result : Result T E) (new one other : X) → OnOk result (new ≡ one) → OnErr result (new ≡ other)
    → P one → P other → P new
either_kept P (Ok x) new one other done refused holds held = subst P (sym done) holds
either_kept P (Err e) new one other done refused holds held = subst P (sym refused) held

-- what is refused is not counted
refused_uncounted : {S C : Type 0} (answer : StepAnswer S C) → is_refused answer ≡ true → is_counted answer ≡ false
refused_uncounted (step.Refused refused) h = refl
refused_uncounted (step.Posted number wake) h = let same : false ≡ true = h in cc
refused_uncounted (step.Ticked expired wake) h = let same : false ≡ true = h in cc
refused_uncounted step.Moved h = refl
refused_uncounted (step.Turned report) h = let same : false ≡ true = h in cc
refused_uncounted step.Rested h = refl
refused_uncounted (step.Stopped word) h = let same : false ≡ true = h in cc
refused_uncounted (step.Replied taken) h = let same : false ≡ true = h in cc
refused_uncounted (step.Collected shown) h = let same : false ≡ true = h in cc
refused_uncounted (step.TakenOut message) h = let same : false ≡ true = h in cc
refused_uncounted (step.Lost refusal) h = refl

-- what is at most the next and is not the next
below_next : (n most : ℕ) → n ≤ most + 1 → (n ≡ most + 1 → ⊥) → n ≤ most
below_next n most least differ = omega (arith, least, differ)

-- numbers that are the same or not
not_same : (one other : ℕ) → (one == other) ≡ false → one ≡ other → ⊥
not_same one other differ same = grind arith

-- a machine whose token this is has one
token_there : (wake : ℕ) (token : Option Outstanding) → has_wake wake token ≡ true → (outstanding : Outstanding) × (token ≡ Some outstanding)
token_there wake None h = let same : false ≡ true = h in cc
token_there wake (Some outstanding) h = (outstanding, refl)

module _ {S C : Type 0} where
  -- ---- one entry more
  -- a command that was counted has an entry
  entry_counted : (number : ℕ) (source : Source) (command : Command C) (said : StepAnswer S C) (answer : Answer S C) → is_counted said ≡ true
      → answered_by said ≡ Some answer → entry_of number source command (kept_answer said) ≡ record { number = number; source = source; command = command; answer = answer } ∷ []
  entry_counted number source command said answer counted is = rw (counted, is) refl

  -- one that was not has none
  no_entry : (number : ℕ) (source : Source) (command : Command C) (said : StepAnswer S C) → is_counted said ≡ false
      → entry_of number source command (kept_answer said) ≡ []
  no_entry number source command said counted = rw counted refl

  -- an entry that came through no port posts nothing of a port
  pub none_by : (port number : ℕ) (source : Source) (entries : List (JournalEntry S C)) (command : Command C) (kept : Option (Answer S C))
      → is_port port source ≡ false → posts_of port (entries ++ entry_of number source command kept) ≡ posts_of port entries
  none_by port number source entries command None other = ap (posts_of port) (append-nil entries)
  none_by port number source entries command (Some answer) other =
      none_more port entries (record { number = number; source = source; command = command; answer = answer }) other

module _ {M S D C : Type 0} where
  -- the count stays or goes up
  count_up : (old : ScheduledMachine M S D C) (step : Answer S C × Machine M S D C) (told : StepAnswer S C × ScheduledMachine M S D C)
      → IsCountedOf old step told → old.count ≤ told.1.count
  count_up old step told (inl counted) = let is = counted.3 in omega (arith, is)
  count_up old step told (inr none) = let is = none.2 in omega (arith, is)

  -- ---- posts are counted
  -- a command that came through no port
  pub plain_counted : (cell : CellState M S D C) (source : Source) (step : Answer S C × Machine M S D C) (command : Command C)
      (told : StepAnswer S C × ScheduledMachine M S D C) → ((port : ℕ) → is_port port source ≡ false)
      → AreCounted cell → IsCountedOf cell.scheduled step told → AreCounted (with_entry cell source command told).1
  plain_counted cell source step command told no_port counted is = record {
    fewer = λ port is_open. rw (none_by port told.1.count source cell.journal command (kept_answer told.0) (no_port port)) (counted.fewer port is_open);
    others = λ port past. none_by port told.1.count source cell.journal command (kept_answer told.0) (no_port port) ∙ counted.others port past;
    bounded = λ port is_open. let least = counted.bounded port is_open in let up = count_up cell.scheduled step told is in omega (arith, least, up);
  }

  -- a port that has one post more, and another one
  count_at : (test : Bool) (cell : CellState M S D C) (port other : ℕ) → (other == port) ≡ test → IsOpen port cell → IsOpen other cell
      → slice_index (counted_at port true cell.ports) (other - 1) ≡ (if test then count_for port cell + 1 else count_for other cell)
  count_at true cell port other same is_open other_open =
      let is : other ≡ port = grind arith in
      let place = is_open.0 in let within = is_open.1 in
      rw is (get_or-set_same cell.ports (port - 1) (count_for port cell + 1) 0 (omega (arith, place, within)))
  count_at false cell port other same is_open other_open =
      let place = is_open.0 in let other_place = other_open.0 in
      let differ = not_same other port same in
      get_or-set_other cell.ports (port - 1) (other - 1) (count_for port cell + 1) 0 (λ h. differ (omega (arith, place, other_place, h)))

  posts_at : (test : Bool) (cell : CellState M S D C) (port other number : ℕ) (command : Command C) (answer : Answer S C) → (other == port) ≡ test → IsOpen port cell
      → IsOpen other cell → AreCounted cell
      → length (posts_of other (cell.journal ++ record { number = number; source = source.Port port; command = command; answer = answer } ∷ []))
      ≤ (if test then count_for port cell + 1 else count_for other cell)
  posts_at true cell port other number command answer same is_open other_open counted =
      let is : other ≡ port = grind arith in
      let entry : JournalEntry S C = record { number = number; source = source.Port port; command = command; answer = answer } in
      let more : length (posts_of other (cell.journal ++ entry ∷ [])) ≤ length (posts_of other cell.journal) + 1 = one_more other cell.journal entry in
      let few : length (posts_of other cell.journal) ≤ count_for port cell = subst (λ (n : ℕ). length (posts_of other cell.journal) ≤ count_for n cell) is (counted.fewer other other_open) in
      omega (arith, more, few)
  posts_at false cell port other number command answer same is_open other_open counted =
      rw (none_more other cell.journal (record { number = number; source = source.Port port; command = command; answer = answer }) same) (counted.fewer other other_open)

  bound_at : (test : Bool) (cell : CellState M S D C) (port other : ℕ) → IsOpen port cell → IsOpen other cell → AreCounted cell
      → (if test then count_for port cell + 1 else count_for other cell) ≤ cell.scheduled.count + 1
  bound_at true cell port other is_open other_open counted = let least = counted.bounded port is_open in omega (arith, least)
  bound_at false cell port other is_open other_open counted = let least = counted.bounded other other_open in omega (arith, least)

  -- a post that was taken
  post_counted : (cell : CellState M S D C) (port number : ℕ) (command : Command C) (answer : Answer S C) (new : ScheduledMachine M S D C) → IsOpen port cell
      → AreCounted cell → new.count ≡ cell.scheduled.count + 1 → AreCounted (record cell {
        scheduled = new;
        journal = cell.journal ++ record { number = number; source = source.Port port; command = command; answer = answer } ∷ [];
        ports = counted_at port true cell.ports;
      })
  post_counted cell port number command answer new is_open counted up =
      let same : length (counted_at port true cell.ports) ≡ length cell.ports = length-set cell.ports (port - 1) (count_for port cell + 1) in
      let entry : JournalEntry S C = record { number = number; source = source.Port port; command = command; answer = answer } in
      record {
        fewer = λ other other_open.
            let was : IsOpen other cell = (other_open.0, subst (λ n. other ≤ n) same other_open.1) in
            rw (count_at (other == port) cell port other refl is_open was) (posts_at (other == port) cell port other number command answer refl is_open was counted);
        others = λ other past.
            let beyond : length cell.ports < other = subst (λ n. n < other) same past in
            let within = is_open.1 in
            let differ : (other == port) ≡ false = grind (arith, beyond, within) in
            none_more other cell.journal entry differ ∙ counted.others other beyond;
        bounded = λ other other_open.
            let was : IsOpen other cell = (other_open.0, subst (λ n. other ≤ n) same other_open.1) in
            rw (up, count_at (other == port) cell port other refl is_open was) (bound_at (other == port) cell port other is_open was counted);
      }

  -- the count of a port after one was opened: that of one that was is_open, or none
  opened_by : (test : Bool) (cell : CellState M S D C) (port : ℕ) (P : ℕ → Type 0) → (port == (length cell.ports + 1)) ≡ test → 0 < port → port ≤ length cell.ports + 1
      → (IsOpen port cell → P (count_for port cell)) → (length cell.ports < port → P 0) → P (slice_index (cell.ports ++ 0 ∷ []) (port - 1))
  opened_by true cell port P same place within was past =
      let is : port ≡ length cell.ports + 1 = grind arith in
      let last : port - 1 ≡ length cell.ports = omega (arith, is) in
      subst P (sym (ap (λ n. slice_index (cell.ports ++ 0 ∷ []) n) last ∙ get_or-append_seam cell.ports 0 [] 0)) (past (omega (arith, is)))
  opened_by false cell port P same place within was past =
      let differ = not_same port (length cell.ports + 1) same in
      let is_open : port ≤ length cell.ports = below_next port (length cell.ports) within differ in
      subst P (sym (get_or_append_left cell.ports (0 ∷ []) 0 (port - 1) (omega (arith, is_open, place)))) (was (place, is_open))

  -- a port that is opened has posted nothing
  opened_counted : (cell : CellState M S D C) → AreCounted cell → AreCounted (opened cell).1
  opened_counted cell counted =
      let longer : length (cell.ports ++ 0 ∷ []) ≡ length cell.ports + 1 = length-append cell.ports (0 ∷ []) in
      record {
        fewer = λ port is_open. opened_by (port == (length cell.ports + 1)) cell port (λ n. length (posts_of port cell.journal) ≤ n) refl is_open.0
            (subst (λ n. port ≤ n) longer is_open.1) (λ was. counted.fewer port was) (λ past. rw (counted.others port past) (omega arith));
        others = λ port past. let beyond : length cell.ports + 1 < port = subst (λ n. n < port) longer past in
            counted.others port (omega (arith, beyond));
        bounded = λ port is_open. opened_by (port == (length cell.ports + 1)) cell port (λ n. n ≤ cell.scheduled.count) refl is_open.0
            (subst (λ n. port ≤ n) longer is_open.1) (λ was. counted.bounded port was) (λ past. omega arith);
      }

  -- a journal that is cut has no posts
  cut_counted : (cell : CellState M S D C) → AreCounted cell → AreCounted (cut cell)
  cut_counted cell counted = record {
    fewer = λ port is_open. omega arith;
    others = λ port past. refl;
    bounded = counted.bounded;
  }

  module _ (callbacks : M → Callbacks S D C) where
    -- ---- replays
    -- the machine of a cell is lawful, as its base is
    pub replay_lawful : (cell : CellState M S D C) → IsJournaled callbacks cell → IsLawful cell.scheduled.core.machine
    replay_lawful cell is =
        runs_lawful callbacks (record { module_ = cell.scheduled.core.module_; machine = cell.base }) (commands_of cell.journal) (answers_of cell.journal)
        cell.scheduled.core is.replayed is.lawful

    -- as long as it has not ended it is accounted for
    pub replay_accounted : (cell : CellState M S D C) → IsJournaled callbacks cell → cell.scheduled.core.machine.ended ≡ None
        → IsAccounted cell.base (answers_of cell.journal) cell.scheduled.core.machine
    replay_accounted cell is running =
        accounted callbacks (record { module_ = cell.scheduled.core.module_; machine = cell.base }) (commands_of cell.journal) (answers_of cell.journal)
        cell.scheduled.core is.lawful is.replayed running

    -- a replay goes on by one command
    replay_more : (base : MachineState S D C) (entries : List (JournalEntry S C)) (core : Machine M S D C) (entry : JournalEntry S C)
        → IsReplay callbacks base entries core → entry.answer ≡ (step_on callbacks core entry.command).0
        → IsReplay callbacks base (entries ++ entry ∷ []) (step_on callbacks core entry.command).1
    replay_more base entries core entry replayed answered =
        rw (map-append (λ (one : JournalEntry S C). one.command) entries (entry ∷ []), map-append (λ (one : JournalEntry S C). one.answer) entries (entry ∷ []))
        (run_more callbacks (record { module_ = core.module_; machine = base }) (commands_of entries) (answers_of entries) core entry.command entry.answer
        (step_on callbacks core entry.command).1 replayed (inl (answered, refl)))

    -- ---- a command more
    -- after a command, counted or not, the machine is the replay of the journal still, and the entries are numbered
    kept_by : (cell : CellState M S D C) (source : Source) (command : Command C) (told : StepAnswer S C × ScheduledMachine M S D C) (ports : List ℕ)
        → IsJournaled callbacks cell → IsCountedOf cell.scheduled (step_on callbacks cell.scheduled.core command) told → HasTokenForWork told.1
        → told.1.count < 2 ^ 63 → AreCounted (record (with_entry cell source command told).1 { ports = ports })
        → IsJournaled callbacks (record (with_entry cell source command told).1 { ports = ports })
    kept_by cell source command told ports is (inl counted) for_work limit posts =
        let entry : JournalEntry S C = record { number = told.1.count; source = source; command = command; answer = (step_on callbacks cell.scheduled.core command).0 } in
        let one : entry_of told.1.count source command (kept_answer told.0) ≡ entry ∷ [] =
        entry_counted told.1.count source command told.0 (step_on callbacks cell.scheduled.core command).0 counted.0 counted.1 in
        let enough = is.enough in
        let longer : length (cell.journal ++ entry ∷ []) ≡ length cell.journal + 1 = length-append cell.journal (entry ∷ []) in
        let before : told.1.count - length (cell.journal ++ entry ∷ []) ≡ cell.scheduled.count - length cell.journal =
        rw (longer, counted.3) (omega arith) in
        record {
          lawful = is.lawful;
          replayed = rw (one, counted.2) (replay_more cell.base cell.journal cell.scheduled.core entry is.replayed refl);
          numbered = rw (one, before) (subst (λ last. AreNumbered (cell.scheduled.count - length cell.journal) (cell.journal ++ entry ∷ []) last) (sym counted.3) (numbered_more (cell.scheduled.count - length cell.journal) cell.scheduled.count cell.journal entry is.numbered counted.3));
          enough = rw (one, longer, counted.3) (omega (arith, enough));
          limited = limit;
          for_work = for_work;
          counted = posts;
        }
    kept_by cell source command told ports is (inr none) for_work limit posts =
        let same : cell.journal ++ entry_of told.1.count source command (kept_answer told.0) ≡ cell.journal =
        ap (λ more. cell.journal ++ more) (no_entry told.1.count source command told.0 none.0) ∙ append-nil cell.journal in
        record {
          lawful = is.lawful;
          replayed = rw (same, none.1) is.replayed;
          numbered = rw (same, none.2) is.numbered;
          enough = rw (same, none.2) is.enough;
          limited = limit;
          for_work = for_work;
          counted = posts;
        }

    -- a command that came through no port and is no turn
    pub told_kept : (cell : CellState M S D C) (source : Source) (command : Command C) → ((port : ℕ) → is_port port source ≡ false) → is_turn command ≡ false
        → IsJournaled callbacks cell → IsJournaled callbacks (told_by callbacks cell source command).1
    told_kept cell source command no_port no_turn is =
        let told = told_on callbacks cell.scheduled command in
        let went = told_counted callbacks cell.scheduled command (replay_lawful cell is).one_each (only_turns callbacks cell.scheduled.core command no_turn) in
        kept_by cell source command told cell.ports is went (told_follows cell.scheduled is.for_work callbacks command no_turn).for_work
        (told_limit callbacks cell.scheduled command is.limited)
        (plain_counted cell source (step_on callbacks cell.scheduled.core command) command told no_port is.counted went)

    -- a turn by the machine's token
    pub served_kept : (cell : CellState M S D C) (token : Token) (now : ℕ) → is_token_of token cell.scheduled ≡ true → IsJournaled callbacks cell
        → IsJournaled callbacks (served_at callbacks cell now).1
    served_kept cell token now own is =
        let told = served_on callbacks cell.scheduled now in
        let went = served_counted callbacks cell.scheduled now (replay_lawful cell is).one_each in
        let has = token_there token.wake cell.scheduled.token (and_parts (same_id token.machine (id_of cell.scheduled)) (has_wake token.wake cell.scheduled.token) own).1 in
        kept_by cell source.Caller (command.Turn now) told cell.ports is went (served_serves cell.scheduled is.for_work has.0 has.1 callbacks now).for_work
        (served_limit callbacks cell.scheduled now is.limited)
        (plain_counted cell source.Caller (step_on callbacks cell.scheduled.core (command.Turn now)) (command.Turn now) told (λ port. refl) is.counted went)

    -- the posts are counted where a post was counted, or was not
    post_counts : (cell : CellState M S D C) (port : ℕ) (entry : Entry) (content : C) (told : StepAnswer S C × ScheduledMachine M S D C) → IsOpen port cell
        → AreCounted cell → IsCountedOf cell.scheduled (step_on callbacks cell.scheduled.core (command.Post entry content)) told
        → AreCounted (record (with_entry cell (source.Port port) (command.Post entry content) told).1 { ports = counted_at port (is_counted told.0) cell.ports })
    post_counts cell port entry content told is_open counted (inl went) =
        rw (entry_counted told.1.count (source.Port port) (command.Post entry content) told.0 (step_on callbacks cell.scheduled.core (command.Post entry content)).0 went.0 went.1, went.0)
        (post_counted cell port told.1.count (command.Post entry content) (step_on callbacks cell.scheduled.core (command.Post entry content)).0 told.1 is_open counted went.3)
    post_counts cell port entry content told is_open counted (inr none) =
        let same : cell.journal ++ entry_of told.1.count (source.Port port) (command.Post entry content) (kept_answer told.0) ≡ cell.journal =
        ap (λ more. cell.journal ++ more) (no_entry told.1.count (source.Port port) (command.Post entry content) told.0 none.0) ∙ append-nil cell.journal in
        record {
          fewer = λ other was. rw (same, none.0) (counted.fewer other (rw none.0 at was));
          others = λ other past. rw same (counted.others other (rw none.0 at past));
          bounded = λ other was. rw (none.0, none.2) (counted.bounded other (rw none.0 at was));
        }

    -- a post
    pub post_kept : (cell : CellState M S D C) (port : ℕ) (entry : Entry) (content : C) → IsOpen port cell → IsJournaled callbacks cell
        → IsJournaled callbacks (post_by callbacks cell port entry content).1
    post_kept cell port entry content is_open is =
        let told = told_on callbacks cell.scheduled (command.Post entry content) in
        let went = told_counted callbacks cell.scheduled (command.Post entry content) (replay_lawful cell is).one_each
        (only_turns callbacks cell.scheduled.core (command.Post entry content) refl) in
        kept_by cell (source.Port port) (command.Post entry content) told (counted_at port (is_counted told.0) cell.ports) is went
        (told_follows cell.scheduled is.for_work callbacks (command.Post entry content) refl).for_work
        (told_limit callbacks cell.scheduled (command.Post entry content) is.limited)
        (post_counts cell port entry content told is_open is.counted went)

    -- ---- calls
    -- a call that meets its definition, which keeps a cell one, keeps it one
    met_kept : (command : Command C) (answer : StepAnswer S C) (old new : CellState M S D C) (definition : StepAnswer S C × CellState M S D C)
        → MeetsCall command answer old new definition → IsJournaled callbacks old → IsJournaled callbacks definition.1 → IsJournaled callbacks new
    met_kept command answer old new definition (inl done) is kept = rw done.1 kept
    met_kept command answer old new definition (inr none) is kept = rw none.2 is

    -- a post
    pub posts_kept : (old new : CellState M S D C) (port : ℕ) (entry : Entry) (content : C) (answer : StepAnswer S C) → IsOpen port old
        → Posts callbacks old port entry content answer new → IsJournaled callbacks old → IsJournaled callbacks new
    posts_kept old new port entry content answer is_open done is =
        met_kept (command.Post entry content) answer old new (post_by callbacks old port entry content) done is (post_kept old port entry content is_open is)

    -- a command that came through no port and is no turn
    told_by_kept : (old new : CellState M S D C) (source : Source) (command : Command C) (answer : StepAnswer S C) → ((port : ℕ) → is_port port source ≡ false)
        → is_turn command ≡ false → IsToldBy callbacks old source command answer new → IsJournaled callbacks old → IsJournaled callbacks new
    told_by_kept old new source command answer no_port no_turn done is =
        met_kept command answer old new (told_by callbacks old source command) done is (told_kept old source command no_port no_turn is)

    -- a command that is no post and no turn
    pub is_told_kept : (old new : CellState M S D C) (command : Command C) (answer : StepAnswer S C) → is_turn command ≡ false
        → IsTold callbacks old command answer new → IsJournaled callbacks old → IsJournaled callbacks new
    is_told_kept old new command answer no_turn done is = told_by_kept old new source.Caller command answer (λ port. refl) no_turn done is

    -- a delivery
    pub delivers_kept : (old new : CellState M S D C) (message : Message C) (result : Result Posted (Refused (Message C)))
        → Delivers callbacks old message result new → IsJournaled callbacks old → IsJournaled callbacks new
    delivers_kept old new message result done is =
        told_by_kept old new (source.Message message.sender message.number) (command.Post Info message.content) (delivered_as result) (λ port. refl) refl done is

    -- a take-out by a token that is the machine's, or is not
    takes_by_kept : (own : Bool) (old new : CellState M S D C) (token : Token) (result : Result (Option (Message C)) (Refused Token))
        → TakesOutBy callbacks own old token result new → IsJournaled callbacks old → IsJournaled callbacks new
    takes_by_kept false old new token result done is = rw done.1 is
    takes_by_kept true old new token result done is = is_told_kept old new command.TakeOut (given_as result) refl done is

    pub takes_kept : (old new : CellState M S D C) (token : Token) (result : Result (Option (Message C)) (Refused Token))
        → TakesOut callbacks old token result new → IsJournaled callbacks old → IsJournaled callbacks new
    takes_kept old new token result done is = takes_by_kept (is_token_of token old.scheduled) old new token result done is

    -- a turn by a token that is the machine's, or is not
    turns_by_kept : (own : Bool) (old new : CellState M S D C) (token : Token) (now : ℕ) (result : Result Next (Refused Token)) → is_token_of token old.scheduled ≡ own
        → TurnsBy callbacks own old token now result new → IsJournaled callbacks old → IsJournaled callbacks new
    turns_by_kept false old new token now result own done is = rw done.1 is
    turns_by_kept true old new token now result own done is =
        met_kept (command.Turn now) done.0 old new (served_at callbacks old now) done.1 is (served_kept old token now own is)

    pub turns_kept : (old new : CellState M S D C) (token : Token) (now : ℕ) (result : Result Next (Refused Token))
        → Turns callbacks old token now result new → IsJournaled callbacks old → IsJournaled callbacks new
    turns_kept old new token now result done is = turns_by_kept (is_token_of token old.scheduled) old new token now result refl done is

    -- a refused answer leaves the cell as it was
    refused_same : (old : CellState M S D C) (now : ℕ) (token : Token) (keeps : Bool) (answer : StepAnswer S C) (refused : Refused Token)
        → next_as token answer keeps ≡ Err refused → answer ≡ (served_at callbacks old now).0 → (served_at callbacks old now).1 ≡ old
    refused_same old now token keeps (step.Refused said) refused is same =
        let told = served_on callbacks old.scheduled now in
        let none : told.1 ≡ old.scheduled = refused_served callbacks old.scheduled now (ap is_refused (sym same)) in
        let entries : old.journal ++ entry_of told.1.count source.Caller (command.Turn now) (kept_answer told.0) ≡ old.journal =
        ap (λ more. old.journal ++ more) (no_entry told.1.count source.Caller (command.Turn now) told.0 (ap is_counted (sym same))) ∙ append-nil old.journal in
        ap (λ (scheduled : ScheduledMachine M S D C). record old { scheduled = scheduled; journal = old.journal ++ entry_of told.1.count source.Caller (command.Turn now) (kept_answer told.0) }) none
        ∙ ap (λ (journal : List (JournalEntry S C)). record old { journal = journal }) entries
    refused_same old now token keeps (step.Posted number wake) refused is same = cc
    refused_same old now token keeps (step.Ticked expired wake) refused is same = cc
    refused_same old now token keeps step.Moved refused is same = cc
    refused_same old now token keeps (step.Turned report) refused is same = cc
    refused_same old now token keeps step.Rested refused is same = cc
    refused_same old now token keeps (step.Stopped word) refused is same = cc
    refused_same old now token keeps (step.Replied taken) refused is same = cc
    refused_same old now token keeps (step.Collected shown) refused is same = cc
    refused_same old now token keeps (step.TakenOut message) refused is same = cc
    refused_same old now token keeps (step.Lost refusal) refused is same = cc

    turns_by_refused : (own : Bool) (old new : CellState M S D C) (token : Token) (now : ℕ) (refused : Refused Token)
        → TurnsBy callbacks own old token now (Err refused) new → new ≡ old
    turns_by_refused false old new token now refused done = done.1
    turns_by_refused true old new token now refused (answer, inl done, is) =
        done.1 ∙ refused_same old now token (is_some new.scheduled.token) answer refused (sym is) done.0
    turns_by_refused true old new token now refused (answer, inr none, is) = none.2

    -- a refused turn changes nothing
    pub turns_refused : (old new : CellState M S D C) (token : Token) (now : ℕ) (result : Result Next (Refused Token))
        → Turns callbacks old token now result new → OnErr result (new ≡ old)
    turns_refused old new token now (Ok next) done = tt
    turns_refused old new token now (Err refused) done = turns_by_refused (is_token_of token old.scheduled) old new token now refused done

    -- a command that is refused leaves the cell as it was
    told_refused : (old new : CellState M S D C) (source : Source) (command : Command C) (answer : StepAnswer S C) → is_refused answer ≡ true
        → IsToldBy callbacks old source command answer new → new ≡ old
    told_refused old new source command answer refused (inr none) = none.2
    told_refused old new source command answer refused (inl done) =
        let told = told_on callbacks old.scheduled command in
        let said : is_refused told.0 ≡ true = ap is_refused (sym done.0) ∙ refused in
        let entries : old.journal ++ entry_of told.1.count source command (kept_answer told.0) ≡ old.journal =
        ap (λ more. old.journal ++ more) (no_entry told.1.count source command told.0 (refused_uncounted told.0 said)) ∙ append-nil old.journal in
        let none : told.1 ≡ old.scheduled = refused_told callbacks old.scheduled command said in
        done.1 ∙ (ap (λ (journal : List (JournalEntry S C)). record old { scheduled = told.1; journal = journal }) entries
        ∙ ap (λ (scheduled : ScheduledMachine M S D C). record old { scheduled = scheduled }) none)

    -- so a refused call that tells a command changes nothing
    pub told_unchanged : {T E : Type 0} (old new : CellState M S D C) (command : Command C) (said : Result T E → StepAnswer S C) (result : Result T E)
        → ((refused : E) → is_refused (said (Err refused)) ≡ true) → IsTold callbacks old command (said result) new → OnErr result (new ≡ old)
    told_unchanged old new command said (Ok answer) refuses done = tt
    told_unchanged old new command said (Err refused) refuses done = told_refused old new source.Caller command (said (Err refused)) (refuses refused) done

    -- a refused delivery changes nothing
    pub delivers_unchanged : (old new : CellState M S D C) (message : Message C) (result : Result Posted (Refused (Message C)))
        → Delivers callbacks old message result new → OnErr result (new ≡ old)
    delivers_unchanged old new message (Ok posted) done = tt
    delivers_unchanged old new message (Err refused) done =
        told_refused old new (source.Message message.sender message.number) (command.Post Info message.content) (delivered_as (Err refused)) refl done

    -- and neither does a refused take-out
    takes_by_unchanged : (own : Bool) (old new : CellState M S D C) (token : Token) (refused : Refused Token)
        → TakesOutBy callbacks own old token (Err refused) new → new ≡ old
    takes_by_unchanged false old new token refused done = done.1
    takes_by_unchanged true old new token refused done = told_refused old new source.Caller command.TakeOut (given_as (Err refused)) refl done

    pub takes_unchanged : (old new : CellState M S D C) (token : Token) (result : Result (Option (Message C)) (Refused Token))
        → TakesOut callbacks old token result new → OnErr result (new ≡ old)
    takes_unchanged old new token (Ok message) done = tt
    takes_unchanged old new token (Err refused) done = takes_by_unchanged (is_token_of token old.scheduled) old new token refused done

    -- a refused post leaves the cell as it was
    pub posts_refused : (old new : CellState M S D C) (port : ℕ) (entry : Entry) (content : C) (answer : StepAnswer S C) → is_refused answer ≡ true
        → Posts callbacks old port entry content answer new → new ≡ old
    posts_refused old new port entry content answer refused (inr none) = none.2
    posts_refused old new port entry content answer refused (inl done) =
        let told = told_on callbacks old.scheduled (command.Post entry content) in
        let said : is_refused told.0 ≡ true = ap is_refused (sym done.0) ∙ refused in
        let counted : is_counted told.0 ≡ false = refused_uncounted told.0 said in
        let entries : old.journal ++ entry_of told.1.count (source.Port port) (command.Post entry content) (kept_answer told.0) ≡ old.journal =
        ap (λ more. old.journal ++ more) (no_entry told.1.count (source.Port port) (command.Post entry content) told.0 counted) ∙ append-nil old.journal in
        let none : told.1 ≡ old.scheduled = refused_told callbacks old.scheduled (command.Post entry content) said in
        done.1 ∙ (ap (λ (posted : Bool). record (with_entry old (source.Port port) (command.Post entry content) told).1 { ports = counted_at port posted old.ports }) counted
        ∙ (ap (λ (journal : List (JournalEntry S C)). record old { scheduled = told.1; journal = journal }) entries
        ∙ ap (λ (scheduled : ScheduledMachine M S D C). record old { scheduled = scheduled }) none))

    -- by the result of a post
    pub posts_unchanged : (old new : CellState M S D C) (port : ℕ) (entry : Entry) (content : C) (result : Result Posted (Refused C))
        → Posts callbacks old port entry content (posted_as result) new → OnErr result (new ≡ old)
    posts_unchanged old new port entry content (Ok posted) done = tt
    posts_unchanged old new port entry content (Err refused) done = posts_refused old new port entry content (posted_as (Err refused)) refl done

    -- ---- open ports stay open
    -- by a post
    open_by : (posted : Bool) (port : ℕ) (counts : List ℕ) → length (counted_at port posted counts) ≡ length counts
    open_by true port counts = length-set counts (port - 1) (slice_index counts (port - 1) + 1)
    open_by false port counts = refl

    pub posts_open : (old new : CellState M S D C) (port : ℕ) (entry : Entry) (content : C) (answer : StepAnswer S C)
        → Posts callbacks old port entry content answer new → length new.ports ≡ length old.ports
    posts_open old new port entry content answer (inl done) =
        ap (λ (cell : CellState M S D C). length cell.ports) done.1
        ∙ open_by (is_counted (told_on callbacks old.scheduled (command.Post entry content)).0) port old.ports
    posts_open old new port entry content answer (inr none) = ap (λ (cell : CellState M S D C). length cell.ports) none.2

    -- by another command
    told_by_ports : (old new : CellState M S D C) (source : Source) (command : Command C) (answer : StepAnswer S C)
        → IsToldBy callbacks old source command answer new → new.ports ≡ old.ports
    told_by_ports old new source command answer (inl done) = ap (λ (cell : CellState M S D C). cell.ports) done.1
    told_by_ports old new source command answer (inr none) = ap (λ (cell : CellState M S D C). cell.ports) none.2

    pub told_open : (old new : CellState M S D C) (command : Command C) (answer : StepAnswer S C)
        → IsTold callbacks old command answer new → length new.ports ≡ length old.ports
    told_open old new command answer done = ap (λ (ports : List ℕ). length ports) (told_by_ports old new source.Caller command answer done)

    -- by a turn
    turns_open_by : (own : Bool) (old new : CellState M S D C) (token : Token) (now : ℕ) (result : Result Next (Refused Token))
        → TurnsBy callbacks own old token now result new → length new.ports ≡ length old.ports
    turns_open_by false old new token now result done = ap (λ (cell : CellState M S D C). length cell.ports) done.1
    turns_open_by true old new token now result (answer, inl done, is) = ap (λ (cell : CellState M S D C). length cell.ports) done.1
    turns_open_by true old new token now result (answer, inr none, is) = ap (λ (cell : CellState M S D C). length cell.ports) none.2

    pub turns_open : (old new : CellState M S D C) (token : Token) (now : ℕ) (result : Result Next (Refused Token))
        → Turns callbacks old token now result new → length new.ports ≡ length old.ports
    turns_open old new token now result done = turns_open_by (is_token_of token old.scheduled) old new token now result done

    -- ---- ports, truncation and beginnings
    -- a port is opened
    pub opened_kept : (cell : CellState M S D C) → IsJournaled callbacks cell → IsJournaled callbacks (opened cell).1
    opened_kept cell is = record {
      lawful = is.lawful;
      replayed = is.replayed;
      numbered = is.numbered;
      enough = is.enough;
      limited = is.limited;
      for_work = is.for_work;
      counted = opened_counted cell is.counted;
    }

    -- the journal is cut
    pub cut_kept : (cell : CellState M S D C) → IsJournaled callbacks cell → IsJournaled callbacks (cut cell)
    cut_kept cell is = record {
      lawful = replay_lawful cell is;
      replayed = refl;
      numbered = omega arith;
      enough = omega arith;
      limited = is.limited;
      for_work = is.for_work;
      counted = cut_counted cell is.counted;
    }

    -- a cell begins
    pub first_kept : (core : Machine M S D C) → IsLawful core.machine → IsJournaled callbacks (cell_at_first core)
    first_kept core lawful = record {
      lawful = lawful;
      replayed = refl;
      numbered = omega arith;
      enough = omega arith;
      limited = omega arith;
      for_work = first_for_work core;
      counted = record {
        fewer = λ port is_open. omega arith;
        others = λ port past. refl;
        bounded = λ port is_open. let place = is_open.0 in let within = is_open.1 in absurd (omega (arith, place, within));
      };
    }
