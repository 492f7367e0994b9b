pub mod ClassesNamed
pub mod Conditions
pub mod Instances
pub mod Lists
pub mod Owned
pub mod Quantified
pub mod Showing
pub mod Suffixes
