-- Lemmas on machines that start, and on those that a registry keeps.
pub mod StartLemmas
pub mod IdLemmas
pub mod KeptLemmas
