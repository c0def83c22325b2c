pub mod Acts
pub mod Asked
pub mod Faults
pub mod Judging
