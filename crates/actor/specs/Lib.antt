-- The moment, what is done with a machine by whoever serves it, and why it is served no more.
pub mod Moment
pub mod Serving
pub mod Ending
pub mod Receiving
