-- Lemmas on the tiers of a long list.
pub mod GapLemmas
pub mod TierLemmas
