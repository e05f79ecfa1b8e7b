-- How a replay goes on entry by entry, and what entries that agree say.
use Rattle.std.proofs.Common.{◌≡◌, ℕ, suc, ◌+◌, ◌<◌, ◌≤◌, Bool, true, false, if◌then◌else◌, Result, Ok, Err, is_err, IfOk, OnOk, OnErr, List, [], ◌∷◌, ◌++◌, length, get_or, take, drop, refl, sym, ap, ◌∙◌, inl, inr, arith, add-one}
use Rattle.std.proofs.lemmas.List.{take_more, take_all}
use Rattle.std.proofs.lemmas.List.Elements.{All-tail}
use Rattle.std.proofs.Math.Seq.{drop-cons}
use Rattle.std.proofs.Math.ListN.{drop_of_length-le}
use Rattle.std.specs.List.{All}
use Rattle.st_answers.specs.declared.answer.Answer.{Answer}
use Rattle.st_answers.specs.declared.answer.Answer.TheVariants as answer
use Rattle.st_answers.specs.declared.command.Command.{Command}
use Rattle.st_answers.specs.declared.command.Command.TheVariants as command
use Rattle.st_core.specs.Callbacks.{Callbacks}
use Rattle.st_core.specs.MachineState.{Machine}
use Rattle.st_core.specs.Run.{takes_memory, without_memory, is_refusal, step_on, Does, Runs}
use Rattle.st_journal.specs.declared.journal_entry.JournalEntry.{JournalEntry}
use Rattle.st_journal.specs.Journal.{commands_of, answers_of}
use Rattle.st_replay.specs.Replay.{found_no_memory, FoundMemory, next, after, answers_as, agreeing}

-- ---- counts and lists
-- a count goes on where an entry agrees
goes_on : (agrees : Bool) (count : ℕ) → agrees ≡ true → (if agrees then 1 + count else 0) ≡ 1 + count
goes_on agrees count is = rw is refl

-- and stops where one differs
stops : (agrees : Bool) (count : ℕ) → agrees ≡ false → (if agrees then 1 + count else 0) ≡ 0
stops agrees count is = rw is refl

-- where a count is that of all entries, the first agrees, and of the others all do
first_agrees : (agrees : Bool) (count others : ℕ) → (if agrees then 1 + count else 0) ≡ suc others
    → (agrees ≡ true) × (count ≡ others)
first_agrees true count others all = (refl, omega arith)
first_agrees false count others all = absurd (omega arith)

module _ {E : Type 0} where
  -- the entries from a place on begin with the one that is there
  from_there : (entries : List E) (place : ℕ) (entry : E) → place < length entries → entry ≡ get_or entries place entry
      → drop place entries ≡ entry ∷ drop (place + 1) entries
  from_there entries place entry within is =
      drop-cons entries place entry within
      ∙ (ap (λ e. e ∷ drop (suc place) entries) (sym is) ∙ ap (λ n. entry ∷ drop n entries) (sym (add-one place)))

  -- the entries up to a place, and the one that is there
  up_to_there : (entries : List E) (place : ℕ) (entry : E) → place < length entries → entry ≡ get_or entries place entry
      → take (place + 1) entries ≡ take place entries ++ entry ∷ []
  up_to_there entries place entry within is =
      take_more entries place entry within ∙ ap (λ e. take place entries ++ e ∷ []) (sym is)

-- ---- want of memory
module _ {S C : Type 0} where
  -- an answer that says that there was no memory is a refusal
  no_memory_is_refusal : (answered : Answer S C) → found_no_memory answered ≡ true → is_refusal answered ≡ true
  no_memory_is_refusal (answer.Post (Ok number)) found = found
  no_memory_is_refusal (answer.Post (Err refused)) found = refl
  no_memory_is_refusal (answer.Tick (Ok expired)) found = found
  no_memory_is_refusal (answer.Tick (Err refusal)) found = refl
  no_memory_is_refusal (answer.Turn (Ok turned)) found = found
  no_memory_is_refusal (answer.Turn (Err refusal)) found = refl
  no_memory_is_refusal (answer.Reply taken) found = found
  no_memory_is_refusal (answer.Collect collected) found = found
  no_memory_is_refusal (answer.Stop (Ok word)) found = found
  no_memory_is_refusal (answer.Stop (Err refusal)) found = refl
  no_memory_is_refusal (answer.TakeOut message) found = found

module _ {M S D C : Type 0} (callbacks : M → Callbacks S D C) where
  -- a command that takes memory and finds none says so
  want_is_told : (old : Machine M S D C) (command : Command C)
      → takes_memory (step_on callbacks old command).0 ≡ true → found_no_memory (without_memory {S = S} command) ≡ true
  want_is_told old (command.Post entry content) takes = refl
  want_is_told old (command.Tick now) takes = refl
  want_is_told old (command.Turn now) takes = refl
  want_is_told old (command.Reply tag content) takes = takes
  want_is_told old (command.Collect tag) takes = takes
  want_is_told old (command.Stop reason) takes = refl
  want_is_told old command.TakeOut takes = takes

  -- a command whose answer does not say that there was no memory is done as its definition says
  did_as_defined : (old : Machine M S D C) (command : Command C) (answered : Answer S C) (new : Machine M S D C)
      → Does callbacks old command answered new → found_no_memory answered ≡ false
      → (answered ≡ (step_on callbacks old command).0) × (new ≡ (step_on callbacks old command).1)
  did_as_defined old command answered new does told =
      elim does [
        | inl defined ↦ defined
        | inr wanted ↦
            let found : found_no_memory answered ≡ true = ap found_no_memory wanted.1 ∙ want_is_told old command wanted.0 in cc
      ]

  -- ---- one entry
  -- the command of an entry was done, and its answer was compared with the one that the entry tells
  pub did_entry : {E : Type 0} (same : Answer S C → Answer S C → Bool) (old : Machine M S D C) (entry : JournalEntry S C)
      (command : Command C) (answered : Answer S C) (new : Machine M S D C) (told : Result Bool E)
      → command ≡ entry.command
      → Does callbacks old command answered new → (is_refusal answered ≡ true → new ≡ old)
      → IfOk told (λ agrees. agrees ≡ same answered entry.answer) → is_err told ≡ found_no_memory answered
      → IfOk told (λ agrees. agrees ≡ answers_as callbacks same old entry) × OnOk told (new ≡ next callbacks old entry)
      × OnErr told (new ≡ old)
  unfolding answers_as next
  did_entry same old entry command answered new (Ok agrees) copy does kept compared found =
      let did = did_as_defined old command answered new does (sym found) in (
        compared ∙ ap (λ a. same a entry.answer) (did.0 ∙ ap (λ c. (step_on callbacks old c).0) copy),
        did.1 ∙ ap (λ c. (step_on callbacks old c).1) copy,
        tt,
      )
  did_entry same old entry command answered new (Err error) copy does kept compared found =
      (tt, tt, kept (no_memory_is_refusal answered (sym found)))

  -- ---- where the machine stands
  -- it stands nowhere else before the first entry
  pub after_at_first : (old : Machine M S D C) (entries : List (JournalEntry S C)) → old ≡ after callbacks old (take 0 entries)
  unfolding after
  after_at_first old entries = refl

  -- the machine after one entry more
  after_more : (old : Machine M S D C) (entries : List (JournalEntry S C)) (entry : JournalEntry S C)
      → after callbacks old (entries ++ entry ∷ []) ≡ next callbacks (after callbacks old entries) entry
  unfolding after
  after_more old [] entry = refl
  after_more old (first ∷ entries) entry = after_more (next callbacks old first) entries entry

  -- the machine after the entries up to a place, and after the one that is there
  pub after_there : (old now new : Machine M S D C) (entries : List (JournalEntry S C)) (place : ℕ) (entry : JournalEntry S C)
      → place < length entries → entry ≡ get_or entries place entry
      → now ≡ after callbacks old (take place entries) → new ≡ next callbacks now entry
      → new ≡ after callbacks old (take (place + 1) entries)
  after_there old now new entries place entry within is left one =
      one ∙ (ap (λ m. next callbacks m entry) left
      ∙ (sym (after_more old (take place entries) entry) ∙ ap (after callbacks old) (sym (up_to_there entries place entry within is))))

  module _ (same : Answer S C → Answer S C → Bool) where
    -- ---- how many entries agree
    -- as many as agree, before the first entry
    pub agreeing_at_first : (old : Machine M S D C) (entries : List (JournalEntry S C))
        → agreeing callbacks same old entries ≡ 0 + agreeing callbacks same old (drop 0 entries)
    agreeing_at_first old entries = omega arith

    -- the entry at a place agrees
    pub agreeing_more : (old now new : Machine M S D C) (entries : List (JournalEntry S C)) (place : ℕ) (entry : JournalEntry S C) (agrees : Bool)
        → place < length entries → entry ≡ get_or entries place entry
        → agreeing callbacks same old entries ≡ place + agreeing callbacks same now (drop place entries)
        → agrees ≡ answers_as callbacks same now entry → agrees ≡ true → new ≡ next callbacks now entry
        → agreeing callbacks same old entries ≡ (place + 1) + agreeing callbacks same new (drop (place + 1) entries)
    unfolding agreeing
    agreeing_more old now new entries place entry agrees within is agreed said it_does one =
        let there = ap (agreeing callbacks same now) (from_there entries place entry within is) in
        let count = goes_on _ (agreeing callbacks same (next callbacks now entry) (drop (place + 1) entries)) (sym said ∙ it_does) in
        let moved = ap (λ m. agreeing callbacks same m (drop (place + 1) entries)) one in
        omega (arith, agreed, there, count, moved)

    -- the entry at a place differs
    pub agreeing_no_more : (old now : Machine M S D C) (entries : List (JournalEntry S C)) (place : ℕ) (entry : JournalEntry S C) (agrees : Bool)
        → place < length entries → entry ≡ get_or entries place entry
        → agreeing callbacks same old entries ≡ place + agreeing callbacks same now (drop place entries)
        → agrees ≡ answers_as callbacks same now entry → agrees ≡ false
        → agreeing callbacks same old entries ≡ place
    unfolding agreeing
    agreeing_no_more old now entries place entry agrees within is agreed said it_differs =
        let there = ap (agreeing callbacks same now) (from_there entries place entry within is) in
        let count = stops _ (agreeing callbacks same (next callbacks now entry) (drop (place + 1) entries)) (sym said ∙ it_differs) in
        omega (arith, agreed, there, count)

    -- no entry is left
    pub all_agree : (old now : Machine M S D C) (entries : List (JournalEntry S C)) (place : ℕ)
        → length entries ≤ place → place ≤ length entries
        → agreeing callbacks same old entries ≡ place + agreeing callbacks same now (drop place entries)
        → now ≡ after callbacks old (take place entries)
        → (agreeing callbacks same old entries ≡ length entries) × (now ≡ after callbacks old entries)
    unfolding agreeing
    all_agree old now entries place past within agreed left =
        let none = ap (agreeing callbacks same now) (drop_of_length-le entries past) in
        (omega (arith, agreed, none), left ∙ ap (after callbacks old) (take_all place entries past))

    -- ---- laws
    -- entries that all agree are what the machine does
    pub agreeing_is_run : ((one other : Answer S C) → same one other ≡ true → one ≡ other)
        → (core : Machine M S D C) (entries : List (JournalEntry S C))
        → agreeing callbacks same core entries ≡ length entries
        → Runs callbacks core (commands_of entries) (answers_of entries) (after callbacks core entries)
    unfolding agreeing after answers_as next
    agreeing_is_run sound core [] all = refl
    agreeing_is_run sound core (entry ∷ entries) all =
        let first = first_agrees _ (agreeing callbacks same (next callbacks core entry) entries) (length entries) all in (
          next callbacks core entry,
          inl (sym (sound _ _ first.0), refl),
          agreeing_is_run sound (next callbacks core entry) entries first.1,
        )

  -- the first of entries none of which found no memory, and what is left of its run
  first_did : (core mid : Machine M S D C) (entry : JournalEntry S C) (entries : List (JournalEntry S C))
      → All FoundMemory (entry ∷ entries)
      → Does callbacks core entry.command entry.answer mid
      → (entry.answer ≡ (step_on callbacks core entry.command).0) × (mid ≡ (step_on callbacks core entry.command).1)
  first_did core mid entry entries told does =
      did_as_defined core entry.command entry.answer mid does (told 0 entry (omega arith))

  -- the machine that a run leaves is the one after its entries
  pub run_is_after : (core new : Machine M S D C) (entries : List (JournalEntry S C))
      → All FoundMemory entries
      → Runs callbacks core (commands_of entries) (answers_of entries) new
      → after callbacks core entries ≡ new
  unfolding after next
  run_is_after core new [] told ran = sym ran
  run_is_after core new (entry ∷ entries) told ran =
      let did = first_did core ran.0 entry entries told ran.1 in
      ap (λ m. after callbacks m entries) (sym did.1)
      ∙ run_is_after ran.0 new entries (All-tail FoundMemory entry entries told) ran.2

  -- and all entries of a run agree
  pub run_agrees : (same : Answer S C → Answer S C → Bool) → ((one : Answer S C) → same one one ≡ true)
      → (core new : Machine M S D C) (entries : List (JournalEntry S C))
      → All FoundMemory entries
      → Runs callbacks core (commands_of entries) (answers_of entries) new
      → agreeing callbacks same core entries ≡ length entries
  unfolding agreeing answers_as next
  run_agrees same reflexive core new [] told ran = refl
  run_agrees same reflexive core new (entry ∷ entries) told ran =
      let did = first_did core ran.0 entry entries told ran.1 in
      let agrees : answers_as callbacks same core entry ≡ true =
      ap (λ a. same a entry.answer) (sym did.0) ∙ reflexive entry.answer in
      let rest : agreeing callbacks same (next callbacks core entry) entries ≡ length entries =
      ap (λ m. agreeing callbacks same m entries) (sym did.1)
      ∙ run_agrees same reflexive ran.0 new entries (All-tail FoundMemory entry entries told) ran.2 in
      let count = goes_on _ (agreeing callbacks same (next callbacks core entry) entries) agrees in
      omega (arith, count, rest)
