-- Lemmas on replays.
pub mod ReplayLemmas
