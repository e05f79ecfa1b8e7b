-- What a call did at its port, and what asking about a collection answers.
pub mod Called
pub mod Checked
