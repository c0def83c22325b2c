pub mod Rules
pub mod VerdictText
