-- What a script's lines are, and what they bring about.
pub mod Grammar
pub mod Script
pub mod WordForms
