-- Commands as they are spelled.
pub mod AttributeCommands
pub mod BareCommands
pub mod CaseCommands
pub mod MessageCommands
pub mod NameCommands
pub mod TemplateCommands
pub mod ValueCommands
pub mod CommandLevels
pub mod CommandReads
pub mod CommandRows
pub mod CommandTerms
pub mod ExprCommands
