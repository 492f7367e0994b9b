pub mod AcceptedArithmetic
pub mod AcceptedClauses
pub mod AcceptedCode
pub mod AcceptedNumbers
mod Agreed
mod AgreedMembers
mod Agreeing
mod AgreeingFields
mod AssertClauses
mod AssertScopes
mod Asserts
mod Bodies
mod BodiesFit
mod Both
mod Called
mod ClausesFit
mod ClausesWhole
mod Constants
mod Counted
mod Counting
mod Denoted
mod Ending
mod Environments
mod Evaluated
mod Few
mod FieldsFound
mod Found
pub mod Holding
mod Items
mod Known
mod Lawful
mod LocalsFit
pub mod Made
mod MadeRight
mod MainNumbers
mod Mains
mod MethodsTyped
mod NamedKinds
mod NamesAgree
mod Operated
mod OperatorKinds
mod Ordered
mod Owned
mod Owning
pub mod PartsFit
mod PredicateKinds
mod PrintedFits
pub mod RefusedClauses
pub mod RefusedCode
mod Running
mod SameTypes
mod SimpleFits
mod Starts
mod StatementsFit
mod StatesGrow
pub mod Tools
mod TypedFrom
mod TypesNamed
mod WellTyped
