-- What a machine with a journal is, and what its calls answer and leave.
pub mod Cell
pub mod Calls
