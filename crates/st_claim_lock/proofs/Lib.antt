-- Lemmas on locks with claims.
pub mod StepLemmas
