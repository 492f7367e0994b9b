mod Alone
mod Chains
mod Lists
mod Moments
mod Plain
mod SmallUnit
