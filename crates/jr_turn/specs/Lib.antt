pub mod Views
pub mod Points
pub mod Tellings
pub mod Passes
