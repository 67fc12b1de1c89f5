mod Apart
mod CurveLaws
mod CycleLaws
pub mod FlowArrivals
pub mod FrameEvents
mod FrameLines
pub mod Kept
mod LateClaimLaws
mod LateStarts
mod Lengths
mod Moved
mod NetworkExample
mod NetworkLaws
mod NetworkRuns
mod OtherLaws
mod PairCounts
mod PriorityLaws
mod ReachedLaws
mod ReachedRuns
mod RunLaws
pub mod RunsExist
mod SharedClaimLaws
mod SharedExample
mod WindowBounds
mod WindowLaws
