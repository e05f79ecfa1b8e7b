-- What is known of a registry that threads share, which tokens are kept, and how many messages were lost.
pub mod Hall
pub mod Outstanding
pub mod Undelivered
