-- What contracts see of the pending events, and how nodes are read as them.
pub mod Filled
pub mod Links
pub mod Ownership
pub mod Queue
