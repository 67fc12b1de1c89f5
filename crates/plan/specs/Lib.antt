pub mod Faults
pub mod Given
pub mod Met
pub mod PlanEnd
pub mod Reads
pub mod Search
