mod CreditLemmas
mod CreditRuns
mod EdgeLemmas
pub mod SlackLemmas
