-- Lemmas on collections.
pub mod CheckedLemmas
