pub mod HostAnswer
pub mod HostedRuns
pub mod Shown
pub mod Turning
