mod AtMoment
pub mod Constants
mod Judging
pub mod Making
mod NothingDue
pub mod OneGuest
pub mod Reaching
pub mod Replies
pub mod Running
pub mod Starting
pub mod Steps
pub mod Stores
