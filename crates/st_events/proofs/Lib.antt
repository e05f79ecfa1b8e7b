-- What is given, and lemmas on the places of short lists, and on numbers and timers that are compared.
pub mod Given
pub mod PlacesLemmas
pub mod ComparedLemmas
