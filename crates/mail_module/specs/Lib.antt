-- What a mailbox answers, by its tables.
pub mod Protocol
