pub mod Causes
pub mod Commands
pub mod Ends
pub mod Sources
pub mod Texts
pub mod Works
