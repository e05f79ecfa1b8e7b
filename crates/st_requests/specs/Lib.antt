-- What the requests to a machine are.
pub mod Requests
