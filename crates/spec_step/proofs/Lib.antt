pub mod FaultLemmas
pub mod JudgedProgress
