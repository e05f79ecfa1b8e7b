-- What a journal says.
pub mod Journal
