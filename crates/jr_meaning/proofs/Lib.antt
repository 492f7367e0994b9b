pub mod Bounds
pub mod Calls
pub mod Cells
pub mod Choices
pub mod Completions
pub mod Counted
mod DueLists
pub mod Endings
pub mod Finishes
mod Guest
pub mod Guests
pub mod Histories
pub mod Judging
pub mod Limited
pub mod LiveGuests
pub mod Monitors
mod Mutants
pub mod OldHeap
pub mod OldPlaces
pub mod OpenFrames
pub mod OwedLists
pub mod Pieces
mod Runs
pub mod SerialPrefixes
pub mod SerialRuns
pub mod Values
pub mod WaitSets
pub mod Wakes
