pub mod Clauses
pub mod Environments
pub mod Holders
pub mod Noted
pub mod Parts
pub mod Views
