-- What the program's words mean, and its statuses.
pub mod Program
