pub mod Cases
pub mod Slack
