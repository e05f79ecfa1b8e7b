-- What a table of doors is once a door in it was changed.
use Rattle.std.specs.Prelude.{ℕ}
use Rattle.std.specs.Borrow.{Lends, MutBor, Fml}
use Rattle.st_doors.specs.Doors.{KeptDoor}
use Rattle.st_doors.specs.Numbers.{NumberedDoors, with_door}
use Rattle.st_doors.specs.contracts.door_cell.DoorCell.{the_row as cell_row}
use Rattle.st_doors.specs.contracts.door_table.DoorTable.{the_row}

-- the table has the last value of the door that was lent
abbrev pub LendsDoor : MutBor NumberedDoors → ℕ → MutBor KeptDoor → Fml
LendsDoor table place door = Lends the_row cell_row table door (with_door table.now place)
