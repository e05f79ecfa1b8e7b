-- Lemmas on the definitions, and examples.
pub mod AskLemmas
pub mod CoversLemmas
mod WorkedTables
