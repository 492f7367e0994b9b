pub mod Grammar
pub mod Nesting
pub mod Answers
pub mod Takes
pub mod Parts
