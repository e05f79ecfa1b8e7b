-- What the proofs of this crate share.
pub mod ColumnLemmas
pub mod TraceLemmas
pub mod WorkedTraces
