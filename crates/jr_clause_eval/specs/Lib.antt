pub mod ClassObjects
pub mod Conditions
pub mod Instances
pub mod Outcomes
pub mod Scenes
pub mod Shown
pub mod Suffixes
