pub mod Command
pub mod Valued
