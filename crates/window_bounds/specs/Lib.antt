pub mod Beats
pub mod Flows
pub mod Least
pub mod Notes
pub mod Run
pub mod Slots
pub mod Unbound
pub mod Walk
