pub mod ByNumbers
pub mod Counting
pub mod Entries
pub mod Formals
pub mod Numbering
pub mod Turns
