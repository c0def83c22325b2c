pub mod Endings
pub mod Left
pub mod Outcomes
pub mod Told
