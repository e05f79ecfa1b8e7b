-- Whether a journal is what a module does.
pub mod Replay
