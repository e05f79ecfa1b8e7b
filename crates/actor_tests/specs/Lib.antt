-- What a bell does.
pub mod Bell
