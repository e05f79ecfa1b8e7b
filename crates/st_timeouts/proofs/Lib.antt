-- Lemmas on the running time-outs, on the order in which they are due, and on how they are kept.
pub mod DueLemmas
pub mod FallingLemmas
pub mod HandedLemmas
pub mod OrderLemmas
pub mod CopyLemmas
pub mod RowLemmas
pub mod SoundLemmas
pub mod WaitingLemmas
pub mod ZerosLemmas
