pub mod Alerts
pub mod Carried
pub mod CaptureEnd
pub mod Law
pub mod Octets
pub mod Outcome
pub mod Room
pub mod Words
