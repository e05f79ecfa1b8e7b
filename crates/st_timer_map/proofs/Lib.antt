-- What the proofs rest on.
pub mod IndexLemmas
pub mod RowLemmas
pub mod SlotLemmas
