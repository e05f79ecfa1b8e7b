pub mod OrderLemmas
pub mod ProgramLemmas
mod WorkedWords
