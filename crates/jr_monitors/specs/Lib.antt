pub mod Roster
pub mod Stands
