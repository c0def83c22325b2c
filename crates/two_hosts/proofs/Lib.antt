pub mod Lanes
pub mod ToldLemmas
