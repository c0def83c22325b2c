pub mod Answers
pub mod Strings
