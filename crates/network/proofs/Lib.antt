mod CommandLaws
mod EndLaws
pub mod FirstLaws
mod LineLaws
mod NameLaws
mod ScheduleLineLaws
mod TakeLaws
mod ViaLaws
mod WordLaws
