-- What a machine that workers serve is, what a command is answered by it, and what becomes of it and its token.
pub mod ScheduledMachine
pub mod Serving
pub mod Answered
