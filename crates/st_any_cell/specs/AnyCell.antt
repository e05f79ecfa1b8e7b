-- A machine's cell that keeps its journal, or keeps none, as a plain value.
use Rattle.std.specs.Prelude.{◌≡◌, ℕ, Bool, true, false, List, []}
use Rattle.st_core.specs.Callbacks.{Callbacks}
use Rattle.st_core.specs.MachineState.{Machine}
use Rattle.st_scheduled.specs.ScheduledMachine.{ScheduledMachine}
use Rattle.st_cell.specs.Calls.{cut}
use Rattle.st_cell.specs.Cell.{CellState, IsJournaled, cell_at_first}
use Rattle.st_any_cell.specs.declared.bare.Bare.{Bare}
use Rattle.st_any_cell.specs.declared.form.Form.{Form}
use Rattle.st_any_cell.specs.declared.form.Form.TheVariants.{Journaled, Unjournaled}

-- a cell, and whether it keeps its journal
pub record AnyCellState (M S D C : Type 0) : Type 0 where
  pub cell : CellState M S D C
  pub keeps : Bool

module _ {M S D C : Type 0} where
  -- what is left of a cell: where no journal is kept, it is cut
  abbrev pub kept_as : Bool → CellState M S D C → CellState M S D C
  kept_as true cell = cell
  kept_as false cell = cut cell

  -- what a call leaves that leaves this of a cell which keeps its journal
  abbrev pub left : AnyCellState M S D C → CellState M S D C → AnyCellState M S D C
  left old after = record old { cell = kept_as old.keeps after }

  -- a call was made that does so to a cell which keeps its journal
  abbrev pub Leaves : AnyCellState M S D C → (CellState M S D C → Type 0) → AnyCellState M S D C → Type 0
  Leaves old does new = (after : CellState M S D C) × does after × (new ≡ left old after)

  -- the same, of a cell that keeps none
  abbrev pub IsCutBehind : (CellState M S D C → Type 0) → CellState M S D C → Type 0
  IsCutBehind does new = (after : CellState M S D C) × does after × (new ≡ cut after)

  -- it begins
  abbrev pub any_at_first : Bool → Machine M S D C → AnyCellState M S D C
  any_at_first keeps core = record { cell = cell_at_first core; keeps = keeps }

  -- the cell of a machine with ports that keeps no journal: it is cut at each moment
  abbrev pub bare : ScheduledMachine M S D C → List ℕ → CellState M S D C
  bare scheduled ports = record { scheduled = scheduled; base = scheduled.core.machine; journal = []; ports = ports }

  -- it is a cell as every cell is, and where no journal is kept there is none
  pub record IsAnyCell (callbacks : M → Callbacks S D C) (state : AnyCellState M S D C) : Type 0 where
    pub journaled : IsJournaled callbacks state.cell
    pub kept : kept_as state.keeps state.cell ≡ state.cell

module _ {M S D C A : Type 0} where
  abbrev pub bare_cell : Bare M S D C A → CellState M S D C
  bare_cell own = bare own.scheduled own.ports.items

  -- the cell of either form
  abbrev pub state_of : Form M S D C A → AnyCellState M S D C
  state_of (Journaled cell) = record { cell = cell.value; keeps = true }
  state_of (Unjournaled own) = record { cell = bare_cell own; keeps = false }
