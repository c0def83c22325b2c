pub mod Timeouts
pub mod Timers
pub mod Laws
