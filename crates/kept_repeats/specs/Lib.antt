pub mod Voiding
pub mod Deliveries
pub mod Rescues
