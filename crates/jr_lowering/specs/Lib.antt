pub mod Emitted
pub mod Encoded
pub mod ExprCode
pub mod Ops
pub mod ProgramCode
pub mod StatementCode
pub mod SuffixCode
