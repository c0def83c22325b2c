pub mod Hints
pub mod Queues
pub mod Tables
