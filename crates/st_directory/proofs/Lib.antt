-- Lemmas on ids, names and values, and on what stays so of a directory.
mod EntryLemmas
mod GoneLemmas
pub mod IdLemmas
mod NameLemmas
mod OrderLemmas
mod SlotLemmas
pub mod ValueLemmas
