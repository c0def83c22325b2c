mod Answered
pub mod Ending
mod Taking
mod Telling
mod Held
mod SameAnswer
