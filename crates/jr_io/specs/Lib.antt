pub mod Faults
pub mod Memory
pub mod Reads
pub mod StdSink
pub mod Writes
