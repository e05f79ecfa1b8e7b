pub mod Parts
pub mod BoxCalls
