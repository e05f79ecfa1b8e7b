-- What the proofs of this crate share.
pub mod LineLemmas
pub mod ListLemmas
pub mod PlainLemmas
pub mod WorkedEntries
