-- The module by which the worked examples and most tests run.
pub mod WorkedTable
