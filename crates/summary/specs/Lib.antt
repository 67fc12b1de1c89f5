pub mod Lines
pub mod Observed
pub mod Pace
pub mod Wanted
