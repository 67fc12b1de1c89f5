pub mod Alone
pub mod ArrivalLaws
pub mod AskedLaws
pub mod Chains
pub mod ClockLaws
mod Example
pub mod GateLaws
pub mod Histories
pub mod Lives
pub mod Lockstep
mod MapLaws
mod RangesLaws
pub mod RunLaws
pub mod RunTurns
pub mod ScanLaws
pub mod SeparateRunLaws
pub mod Separates
pub mod ServiceLaws
pub mod Settles
pub mod Started
pub mod StartsLaws
pub mod Steps
pub mod TallyLaws
pub mod TurnLaws
pub mod UnclassedLaws
