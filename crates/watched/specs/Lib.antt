pub mod Targets
pub mod Watched
pub mod Levels
pub mod Slack
