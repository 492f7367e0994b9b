pub mod Fields
pub mod Going
pub mod Made
pub mod Moments
pub mod Notes
pub mod OpenCalls
pub mod Passed
pub mod Passing
pub mod Pieces
pub mod RefusalLines
pub mod Starting
mod ReportedRuns
