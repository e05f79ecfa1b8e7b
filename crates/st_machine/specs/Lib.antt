-- Texts by number, and signals as JSON.
pub mod Contents
pub mod Texts
