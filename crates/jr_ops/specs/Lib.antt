pub mod Instructions
pub mod Keywords
