-- Lemmas on run queues.
pub mod CountLemmas
pub mod SeatsLemmas
pub mod StepLemmas
