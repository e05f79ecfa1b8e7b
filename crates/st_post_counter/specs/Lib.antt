-- What endpoints of a counter have seen, what contracts see of both, the rule of a counter, and the steps on it.
pub mod Seen
pub mod Endpoint
pub mod Counter
pub mod Steps
