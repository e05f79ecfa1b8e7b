-- Lemmas on workers in threads.
pub mod CarryLemmas
pub mod ThreadLemmas
