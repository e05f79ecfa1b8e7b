-- The lemmas of collections.
mod AddedLemmas
mod TakenLemmas
