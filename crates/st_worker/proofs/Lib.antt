-- Lemmas on what a worker takes.
pub mod RoundLemmas
