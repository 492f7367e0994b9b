pub mod Adding
pub mod Judged
pub mod Listing
pub mod OpenCalls
pub mod Refusals
pub mod Report
pub mod Sites
pub mod Started
