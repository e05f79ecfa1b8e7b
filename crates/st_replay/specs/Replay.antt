-- Whether a journal is what a module does.
use Rattle.std.specs.Prelude.{◌≡◌, ℕ, ◌+◌, ◌<◌, ◌≤◌, Bool, true, false, if◌then◌else◌, Ok, Err, List, [], ◌∷◌, length, take, drop}
use Rattle.st_events.specs.declared.refusal.Refusal.{Refusal}
use Rattle.st_events.specs.declared.refusal.Refusal.TheVariants.{NoMemory}
use Rattle.st_answers.specs.declared.answer.Answer.{Answer}
use Rattle.st_answers.specs.declared.answer.Answer.TheVariants as answer
use Rattle.st_core.specs.Callbacks.{Callbacks}
use Rattle.st_core.specs.MachineState.{Machine}
use Rattle.st_core.specs.Run.{step_on}
use Rattle.st_journal.specs.declared.journal_entry.JournalEntry.{JournalEntry}
use Rattle.st_replay.specs.declared.replayed.Replayed.{Replayed}
use Rattle.st_replay.specs.declared.replayed.Replayed.TheVariants as replayed

-- whether a refusal is for want of memory
abbrev pub is_no_memory : Refusal → Bool
is_no_memory NoMemory = true
is_no_memory _ = false

-- whether an answer says that memory was wanted and there was none
abbrev pub found_no_memory : {S C : Type 0} → Answer S C → Bool
found_no_memory (answer.Post (Ok number)) = false
found_no_memory (answer.Post (Err refused)) = is_no_memory refused.refusal
found_no_memory (answer.Tick (Ok expired)) = false
found_no_memory (answer.Tick (Err refusal)) = is_no_memory refusal
found_no_memory (answer.Turn (Ok turned)) = false
found_no_memory (answer.Turn (Err refusal)) = is_no_memory refusal
found_no_memory (answer.Reply taken) = false
found_no_memory (answer.Collect collected) = false
found_no_memory (answer.Stop (Ok word)) = false
found_no_memory (answer.Stop (Err refusal)) = is_no_memory refusal
found_no_memory (answer.TakeOut message) = false

-- the answer of an entry does not say so
abbrev pub FoundMemory : {S C : Type 0} → JournalEntry S C → Type 0
FoundMemory entry = found_no_memory entry.answer ≡ false

module _ {M S D C : Type 0} (callbacks : M → Callbacks S D C) where
  -- the machine after the command of an entry
  unfoldable pub next : Machine M S D C → JournalEntry S C → Machine M S D C
  next machine entry = (step_on callbacks machine entry.command).1

  -- the machine after the commands of entries
  unfoldable pub after : Machine M S D C → List (JournalEntry S C) → Machine M S D C
  after machine [] = machine
  after machine (entry ∷ entries) = after (next machine entry) entries

  module _ (same : Answer S C → Answer S C → Bool) where
    -- whether a machine answers the command of an entry as the entry says
    unfoldable pub answers_as : Machine M S D C → JournalEntry S C → Bool
    answers_as machine entry = same (step_on callbacks machine entry.command).0 entry.answer

    -- how many entries in front a machine answers as they say
    unfoldable pub agreeing : Machine M S D C → List (JournalEntry S C) → ℕ
    agreeing machine [] = 0
    agreeing machine (entry ∷ entries) =
        if answers_as machine entry then 1 + agreeing (next machine entry) entries else 0

    -- a replay of entries ended so on a machine, and left this one
    abbrev pub Ends : Replayed → Machine M S D C → List (JournalEntry S C) → Machine M S D C → Type 0
    Ends replayed.Same old entries new =
        (agreeing old entries ≡ length entries) × (new ≡ after old entries)
    Ends (replayed.Differs agreed) old entries new =
        (agreeing old entries ≡ agreed) × (agreed < length entries) × (new ≡ after old (take (agreed + 1) entries))
    Ends (replayed.NoMemory agreed) old entries new =
        (agreeing old entries ≡ agreed + agreeing new (drop agreed entries)) × (agreed ≤ length entries)
        × (new ≡ after old (take agreed entries))
