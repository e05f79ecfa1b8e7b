-- What the proofs of this crate share.
pub mod ArrowLemmas
pub mod TextLemmas
pub mod WorkedDiagrams
