-- Lemmas on what waits, on the time-outs that run, and on both as one; and the definitions computed on examples.
pub mod PendingLemmas
pub mod ItemsLemmas
pub mod AgreesLemmas
pub mod AgendaLemmas
pub mod ChoiceLemmas
pub mod SweepLemmas
pub mod ReceiveLemmas
pub mod CopyingLemmas
pub mod ExpireLemmas
pub mod LoopLemmas
pub mod NothingLemmas
pub mod LawfulSetting
pub mod LawfulReceiving
pub mod LawfulTurn
pub mod UpdateLemmas
pub mod WorkedSchedules
