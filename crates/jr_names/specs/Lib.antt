pub mod Answered
pub mod Tables
pub mod Views
