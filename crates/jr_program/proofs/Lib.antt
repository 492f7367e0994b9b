mod Alone
pub mod ClauseEquations
pub mod Crossing
mod DueLists
pub mod ExprEquations
mod Numbers
mod SmallUnit
pub mod StatementEquations
