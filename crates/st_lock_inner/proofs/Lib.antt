-- Lemmas on the inner state under a machine's lock, and on what a call leaves of it.
pub mod InnerLemmas
pub mod BoundedLemmas
pub mod LeftLemmas
