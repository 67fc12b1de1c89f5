pub mod ByEventsLaws
pub mod ArrivalLaws
pub mod EndLaws
pub mod KeepLaws
pub mod LineLaws
pub mod MergeLaws
mod QueuedLaws
pub mod RecordLaws
mod ReplayEndLaws
pub mod ReplayLaws
pub mod SeparatedLaws
pub mod StartLaws
pub mod TakerLaws
pub mod TellLaws
