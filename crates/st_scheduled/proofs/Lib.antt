-- Lemmas on tokens and ids, on what commands leave of a machine, and on what it answers.
pub mod TokensCompared
pub mod LeftStates
pub mod ServingLemmas
pub mod ToldByCalls
pub mod ToldLemmas
pub mod ServedMachines
pub mod CountLemmas
pub mod TurnLemmas
