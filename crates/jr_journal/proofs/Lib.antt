pub mod Appended
pub mod Indexing
pub mod Kept
