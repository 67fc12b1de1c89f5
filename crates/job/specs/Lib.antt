pub mod Halts
pub mod Kinds
pub mod Lines
pub mod Outcome
pub mod Report
pub mod RunEnd
pub mod Texts
