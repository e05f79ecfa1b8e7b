-- Lemmas on bytes that are written, on doors, and on what they are told.
pub mod StreamLemmas
pub mod DoorLemmas
mod NumberLemmas
mod TableLemmas
pub mod SlotLemmas
pub mod ToldLemmas
pub mod CellLemmas
pub mod PrintingLemmas
pub mod LateLemmas
pub mod IdleLemmas
pub mod LateDoorsLemmas
pub mod TwiceLemmas
pub mod QueueLemmas
pub mod NotesLemmas
pub mod TickingLemmas
pub mod PastLemmas
