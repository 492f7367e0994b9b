pub mod Grammar
pub mod Nesting
pub mod Labels
pub mod Answers
pub mod Gives
pub mod Pieces
pub mod Nests
