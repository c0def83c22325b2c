pub mod Faults
pub mod Flags
pub mod Options
pub mod ItemView
pub mod Layout
pub mod Reading
pub mod Encoding
