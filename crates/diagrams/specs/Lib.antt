-- What the states and the contents of the example modules are called.
pub mod Names
