pub mod Layout
pub mod Lengths
pub mod Plain
