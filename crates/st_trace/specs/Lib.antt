-- What a trace is: how columns are filled, what an entry's line says, what is counted, and the whole text.
pub mod Columns
pub mod Entries
pub mod Rest
pub mod Totals
pub mod Trace
