-- Lemmas on machines whose journal is not kept, and on cells of either form.
pub mod BareLemmas
pub mod FormLemmas
