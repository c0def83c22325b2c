pub mod Books
pub mod Merging
pub mod Keys
pub mod Placing
pub mod Recordings
