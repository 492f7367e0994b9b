pub mod Ends
pub mod Examples
pub mod Pieces
pub mod Refused
pub mod Sources
pub mod Texts
