-- A machine's cell beside the machine's endpoints on the counters of its ports.
use Rattle.std.specs.Prelude.{◌≡◌, ◌⊎◌, ℕ, ◌-◌, ◌<◌, ◌&&◌, Bool, Some, List, [], drop, length, map, nat_le, nat_lt, slice_get}
use Rattle.st_journal.specs.declared.post.Post.{Post}
use Rattle.st_cell.specs.Calls.{cut}
use Rattle.st_cell.specs.Cell.{CellState, cell_at_first, count_for}
use Rattle.st_journal.specs.Journal.{posts_of}
use Rattle.st_core.specs.Choice.{waiting_of}
use Rattle.st_core.specs.MachineState.{Machine}
use Rattle.st_post_counter.specs.Endpoint.{CounterId, EndpointState}
use Rattle.st_post_counter.specs.Seen.{IsWhole}

-- these are the last ones of a list
abbrev pub EndsWith : {A : Type 0} → List A → List A → Type 0
EndsWith all last = drop (length all - length last) all ≡ last

-- the journal has more entries than this, and no fewer than events wait
abbrev pub is_long : {M S D C : Type 0} → ℕ → CellState M S D C → Bool
is_long limit cell = nat_lt limit (length cell.journal) && nat_le (waiting_of cell.scheduled.core.machine) (length cell.journal)

-- a cell, and the machine's endpoint of each port, in the order in which the ports were opened
pub record InnerState (M S D C : Type 0) : Type 0 where
  pub cell : CellState M S D C
  pub ends : List (EndpointState (Post C))

-- of which counters endpoints are
abbrev pub counters_of : {C : Type 0} → List (EndpointState (Post C)) → List CounterId
counters_of ends = map (λ end. end.counter) ends

module _ {M S D C : Type 0} where
  -- a cell begins, and no port is open
  abbrev pub inner_at_first : Machine M S D C → InnerState M S D C
  inner_at_first core = record { cell = cell_at_first core; ends = [] }

  -- what is left by a call that leaves this of a cell which keeps its journal: that, or, where none is kept, that cell cut
  abbrev pub IsLeft : CellState M S D C → CellState M S D C → Type 0
  IsLeft after new = (new ≡ after) ⊎ (new ≡ cut after)

  -- a call was made that does so to a cell which keeps its journal
  abbrev pub Leaves : (CellState M S D C → Type 0) → CellState M S D C → Type 0
  Leaves does new = (after : CellState M S D C) × does after × IsLeft after new

  -- what the machine's endpoint of a port has seen are all its posts: as many as the cell counts, and the last of them are
  -- those in the journal
  pub record IsEnd (cell : CellState M S D C) (port : ℕ) (end : EndpointState (Post C)) : Type 0 where
    pub whole : IsWhole end.seen
    pub count : length end.seen.posts ≡ count_for port cell
    pub posts : EndsWith end.seen.posts (posts_of port cell.journal)

  -- each port that is open has such an endpoint
  pub record IsInner (inner : InnerState M S D C) : Type 0 where
    pub lengths : length inner.ends ≡ length inner.cell.ports
    pub each : (port : ℕ) (end : EndpointState (Post C)) → 0 < port → slice_get inner.ends (port - 1) ≡ Some end → IsEnd inner.cell port end

  -- the machine's endpoint of this port is of this counter
  pub record HasEnd (inner : InnerState M S D C) (port : ℕ) (counter : CounterId) : Type 0 where
    pub numbered : 0 < port
    pub found : slice_get (counters_of inner.ends) (port - 1) ≡ Some counter
