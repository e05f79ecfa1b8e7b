-- What a diagram is: the marks of an arrow, the arrows, their lines, and the whole text; and what a sequence diagram is.
pub mod Arrows
pub mod Diagram
pub mod Lines
pub mod Marks
pub mod Sequence
