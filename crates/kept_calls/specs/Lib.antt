pub mod Awaiting
pub mod Earning
pub mod Measuring
