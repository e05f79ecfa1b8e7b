-- The definitions of st_core computed on examples.
pub mod WorkedExamples
