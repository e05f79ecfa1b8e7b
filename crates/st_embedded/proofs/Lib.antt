-- Lemmas on machines in a map and on turns, and what a handle owns.
pub mod HandleForm
pub mod TableLemmas
pub mod TurnLemmas
