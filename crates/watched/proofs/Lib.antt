pub mod AscendLemmas
mod BlockLemmas
mod CallLemmas
pub mod CaseLemmas
mod EndLemmas
mod ExcuseLemmas
pub mod UntrueLemmas
pub mod ForgetLemmas
mod PlaceLemmas
pub mod RefusalLemmas
pub mod SlackLemmas
pub mod SlackRuns
mod WaitLemmas
pub mod LevelObservations
mod LevelFlights
pub mod LevelRuns
