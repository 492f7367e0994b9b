pub mod Endings
pub mod Refusing
pub mod SourceAnswers
pub mod Statuses
pub mod Telling
pub mod Working
