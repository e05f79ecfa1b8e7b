-- Lemmas on the events that wait, on turns, starts and runs.
pub mod RunLemmas
pub mod StartLemmas
pub mod TransitionLemmas
pub mod AddedLemmas
pub mod AnsweringLemmas
pub mod DecisionLemmas
pub mod NumberLemmas
pub mod LawfulLemmas
pub mod StateLemmas
pub mod AccountingLemmas
pub mod ChangeLemmas
pub mod ReaderLemmas
pub mod UntilIdleLemmas
pub mod OutboxLemmas
pub mod PreparedLemmas
pub mod SendingLemmas
