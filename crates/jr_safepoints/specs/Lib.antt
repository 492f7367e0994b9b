pub mod Assembled
pub mod Due
pub mod Few
pub mod Slotted
pub mod Sorted
pub mod Whole
