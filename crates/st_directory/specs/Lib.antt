pub mod DirectoryState
pub mod Admission
pub mod InOrder
pub mod Changes
pub mod Slots
pub mod Entries
