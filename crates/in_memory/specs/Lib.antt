pub mod Bounds
pub mod Captures
pub mod Paths
pub mod Pictures
pub mod Plans
pub mod Slices
pub mod Values
