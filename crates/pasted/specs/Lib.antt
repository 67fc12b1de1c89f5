pub mod Device
pub mod Laws
pub mod Lines
pub mod Notes
pub mod OthersNoted
pub mod Plain
pub mod Reading
pub mod State
