pub mod Elements
pub mod Gaps
pub mod LongestSign
pub mod Spans
pub mod Spelling
