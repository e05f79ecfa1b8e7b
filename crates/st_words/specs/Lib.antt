pub mod Order
pub mod Program
