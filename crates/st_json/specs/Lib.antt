-- What the JSON of an entry is: the forms of which it is made, events, reports, entries, and lines.
pub mod Forms
pub mod Events
pub mod Reports
pub mod Entries
pub mod Lines
