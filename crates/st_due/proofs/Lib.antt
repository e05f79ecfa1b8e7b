-- What the proofs rest on; and the definitions computed on an example.
pub mod OrderLemmas
pub mod PlacesLemmas
pub mod TournamentLemmas
pub mod WorkedMachines
