-- Lemmas on counters.
pub mod HistoryLemmas
pub mod StepLemmas
mod WorkedCounters
