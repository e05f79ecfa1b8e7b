-- What pools and their threads do.
pub mod Pool
pub mod Thread
