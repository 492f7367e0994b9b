pub mod Operators
pub mod Nesting
pub mod Grammar
pub mod BigLiteral
pub mod Answers
pub mod Primaries
pub mod Nests
pub mod Reader
