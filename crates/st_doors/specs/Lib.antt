-- The door's tables, a script's doors, and what is read and written of them.
pub mod Door
pub mod Doors
pub mod Entries
pub mod Numbers
pub mod Past
pub mod Lending
pub mod Late
pub mod Lines
pub mod Notes
pub mod Printing
pub mod ScriptFault
pub mod Settling
pub mod Slots
pub mod Streams
pub mod Traces
