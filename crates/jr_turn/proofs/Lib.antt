pub mod Orders
pub mod Places
pub mod Frames
pub mod Draw
pub mod Take
pub mod Count
pub mod Give
pub mod Serve
pub mod Look
pub mod Split
pub mod Join
pub mod Close
pub mod Rest
pub mod Tickets
mod Examples
