-- What a cell is that keeps its journal or keeps none, and what its calls leave.
pub mod AnyCell
