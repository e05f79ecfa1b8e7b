-- What a cabin and what a door answer, by their tables.
pub mod Riding
pub mod Doorway
