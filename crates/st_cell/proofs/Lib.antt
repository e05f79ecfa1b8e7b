-- Lemmas on journals, on what calls leave, and on cells.
pub mod CallLemmas
pub mod TellingLemmas
pub mod JournalLemmas
pub mod CellLemmas
pub mod PostLemmas
