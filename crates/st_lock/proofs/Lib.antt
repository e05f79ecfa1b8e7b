-- Lemmas on what is claimed of the inner state under a machine's lock, and on what a port looks at.
pub mod ClaimLemmas
pub mod PortLemmas
