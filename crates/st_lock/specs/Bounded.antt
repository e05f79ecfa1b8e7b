-- How much a machine that threads share may keep: entries in its journal, and events that wait.
use Rattle.std.specs.Prelude.{◌≡◌, ℕ, ◌<◌, ◌≤◌, Bool, true, false, List, Option, Some, None, Result, Ok, Err}
use Rattle.st_events.specs.declared.machine_id.MachineId.{MachineId}
use Rattle.st_core.specs.Callbacks.{Callbacks}
use Rattle.st_core.specs.Choice.{waiting_of}
use Rattle.st_answers.specs.declared.entry.Entry.{Entry}
use Rattle.st_scheduled.specs.Answered.{posted_as}
use Rattle.st_scheduled.specs.declared.posted.Posted.{Posted}
use Rattle.st_cell.specs.Calls.{IsJournalOf, Posts}
use Rattle.st_cell.specs.Cell.{CellState, IsOpen, count_for}
use Rattle.st_cell.specs.declared.journal.Journal.{Journal}
use Rattle.st_lock_inner.specs.Inner.{is_long}
use Rattle.st_lock.specs.Machines.{IsCellOf, PostsSomewhere}
use Rattle.st_lock.specs.declared.unposted.Unposted.{Unposted}
use Rattle.st_lock.specs.declared.unposted.Unposted.TheVariants.{Busy, Closed, Refused}

-- the content that was not posted
abbrev pub content_in : {C : Type 0} → Unposted C → C
content_in (Busy content) = content
content_in (Closed content) = content
content_in (Refused refused) = refused.value

module _ {M S D C : Type 0} (callbacks : M → Callbacks S D C) where
  -- some lawful cell of this id has a journal that is so long, or not
  abbrev pub IsLongSomewhere : MachineId → ℕ → Bool → Type 0
  IsLongSomewhere id limit long = (cell : CellState M S D C) × IsCellOf callbacks id cell × (long ≡ is_long limit cell)

  -- some such cell, by a port of it that has posted so many events, answers a post so, where fewer than this wait there; or as
  -- many wait, and nothing is posted
  abbrev pub PostsWithin : MachineId → ℕ → ℕ → Entry → C → Result Posted (Unposted C) → Type 0
  PostsWithin id count limit entry content (Ok posted) =
      (old : CellState M S D C) × (new : CellState M S D C) × (port : ℕ) × IsCellOf callbacks id old × IsOpen port old
      × (count_for port old ≡ count) × (waiting_of old.scheduled.core.machine < limit) × Posts callbacks old port entry content (posted_as (Ok posted)) new
  PostsWithin id count limit entry content (Err (Refused refused)) = PostsSomewhere callbacks id count entry content (posted_as (Err refused))
  PostsWithin id count limit entry content (Err (Busy back)) =
      (cell : CellState M S D C) × IsCellOf callbacks id cell × (limit ≤ waiting_of cell.scheduled.core.machine)
  PostsWithin id count limit entry content (Err (Closed back)) = ⊥

  -- the journal of some such cell was handed out since it is so long, with this label; or it is not so long
  abbrev pub IsTakenBeyond : MachineId → ℕ → List ℕ → Option (Journal S C) → Type 0
  IsTakenBeyond id limit label (Some journal) =
      (cell : CellState M S D C) × IsCellOf callbacks id cell × (is_long limit cell ≡ true) × IsJournalOf cell label journal
  IsTakenBeyond id limit label None = IsLongSomewhere id limit false
