pub mod FirstLine
pub mod CaseLines
pub mod TextLeft
pub mod Lines
pub mod Records
pub mod Chunks
pub mod Spelled
