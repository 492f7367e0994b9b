pub mod Headed
pub mod MadeViews
pub mod Operated
pub mod Paired
pub mod Scoped
pub mod StatementViews
pub mod Traces
pub mod Views
