pub mod Places
pub mod Reported
pub mod Holding
pub mod Peers
pub mod Reasons
