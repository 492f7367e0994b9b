pub mod Places
pub mod Turns
pub mod Tokens
pub mod Told
pub mod Lists
pub mod TypeNames
