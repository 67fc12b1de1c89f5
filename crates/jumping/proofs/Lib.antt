mod AheadLaws
pub mod AloneLaws
pub mod CommandLaws
mod HoldLaws
pub mod LegLaws
pub mod LegSearchLaws
pub mod ListedLaws
pub mod NearLaws
pub mod PositionLaws
pub mod QuietLaws
pub mod RepeatLaws
mod RoleLaws
pub mod RoundLaws
pub mod SearchLaws
pub mod SteadyLaws
pub mod UnderLaws
