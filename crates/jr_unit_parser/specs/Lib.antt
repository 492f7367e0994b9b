pub mod Grammar
pub mod Nesting
pub mod Begins
pub mod Answers
pub mod Steps
pub mod Finds
pub mod Plain
