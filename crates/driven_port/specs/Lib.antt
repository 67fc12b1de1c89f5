pub mod Codes
pub mod Opened
pub mod Slots
pub mod Taken
pub mod Told
pub use Rattle.abstract_port.specs.AbstractPort
