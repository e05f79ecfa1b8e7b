-- Lemmas on what calls do.
pub mod CallLemmas
