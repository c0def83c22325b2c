pub mod Tables
pub mod Hosts
pub mod HostRules
pub mod HostSteps
pub mod Turns
