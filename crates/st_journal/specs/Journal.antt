-- A journal: the commands that a machine took, with its answers, and whose posts they are.
use Rattle.std.specs.Prelude.{◌≡◌, ℕ, ◌+◌, Bool, false, ◌==◌, if◌then◌else◌, Ok, Err, List, [], ◌∷◌, ◌++◌, map}
use Rattle.st_answers.specs.declared.answer.Answer.{Answer}
use Rattle.st_answers.specs.declared.answer.Answer.TheVariants as answer
use Rattle.st_answers.specs.declared.command.Command.{Command}
use Rattle.st_answers.specs.declared.command.Command.TheVariants as command
use Rattle.st_answers.specs.declared.entry.Entry.{Entry}
use Rattle.st_core.specs.declared.machine_state.MachineState.{MachineState}
use Rattle.st_core.specs.Callbacks.{Callbacks}
use Rattle.st_core.specs.MachineState.{Machine}
use Rattle.st_core.specs.Run.{Runs}
use Rattle.st_journal.specs.declared.journal_entry.JournalEntry.{JournalEntry}
use Rattle.st_journal.specs.declared.post.Post.{Post}
use Rattle.st_journal.specs.declared.source.Source.{Source}
use Rattle.st_journal.specs.declared.source.Source.TheVariants as source

-- the numbers of posts
abbrev pub numbers_of : {C : Type 0} → List (Post C) → List ℕ
numbers_of posts = map (λ post. post.number) posts

-- whether an entry came through this port
abbrev pub is_port : ℕ → Source → Bool
is_port port source.Caller = false
is_port port (source.Port own) = port == own
is_port port (source.Message sender number) = false

module _ {S C : Type 0} where
  -- the commands of a journal, in order
  abbrev pub commands_of : List (JournalEntry S C) → List (Command C)
  commands_of entries = map (λ (entry : JournalEntry S C). entry.command) entries

  -- and their answers
  abbrev pub answers_of : List (JournalEntry S C) → List (Answer S C)
  answers_of entries = map (λ (entry : JournalEntry S C). entry.answer) entries

  -- the entries are numbered without gaps: the first one follows this number, and the last one has that one
  abbrev pub AreNumbered : ℕ → List (JournalEntry S C) → ℕ → Type 0
  AreNumbered before [] last = before ≡ last
  AreNumbered before (entry ∷ entries) last = (entry.number ≡ before + 1) × AreNumbered entry.number entries last

  -- what was posted by an entry that posts an event and was answered a number
  abbrev pub posted_as : Entry → C → Answer S C → List (Post C)
  posted_as entry content (answer.Post (Ok number)) = record { number = number; entry = entry; content = content } ∷ []
  posted_as entry content (answer.Post (Err refused)) = []
  posted_as entry content (answer.Tick ticked) = []
  posted_as entry content (answer.Turn turned) = []
  posted_as entry content (answer.Reply taken) = []
  posted_as entry content (answer.Collect collected) = []
  posted_as entry content (answer.Stop stopped) = []
  posted_as entry content (answer.TakeOut message) = []

  -- what was posted by a command that was answered so
  abbrev pub posted_by : Command C → Answer S C → List (Post C)
  posted_by (command.Post entry content) answered = posted_as entry content answered
  posted_by (command.Tick now) answered = []
  posted_by (command.Turn now) answered = []
  posted_by (command.Reply tag content) answered = []
  posted_by (command.Collect tag) answered = []
  posted_by (command.Stop reason) answered = []
  posted_by command.TakeOut answered = []

  -- what a port posted by an entry
  abbrev pub posted_in : ℕ → JournalEntry S C → List (Post C)
  posted_in port entry = if is_port port entry.source then posted_by entry.command entry.answer else []

  -- the posts of a port in a journal, in order
  abbrev pub posts_of : ℕ → List (JournalEntry S C) → List (Post C)
  posts_of port [] = []
  posts_of port (entry ∷ entries) = posted_in port entry ++ posts_of port entries

-- a machine is the replay of a journal from a base: the journal's commands lead there from the base, and are answered as
-- the journal says
abbrev pub IsReplay : {M S D C : Type 0} → (M → Callbacks S D C) → MachineState S D C → List (JournalEntry S C) → Machine M S D C → Type 0
IsReplay callbacks base entries core =
    Runs callbacks (record { module_ = core.module_; machine = base }) (commands_of entries) (answers_of entries) core
