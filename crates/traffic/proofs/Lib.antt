mod AlertLaws
mod BeforeLaws
pub mod ComingLaws
mod CountLaws
pub mod CountedLaws
pub mod CourseLaws
mod FirstLaws
mod FitLaws
mod FrameLaws
mod LineLaws
mod MergeLaws
mod MergedLaws
mod NodeLaws
mod OrderLaws
mod OutcomeLaws
mod PartLaws
mod PlanLaws
mod ReadLaws
mod SaidLaws
pub mod TableLaws
pub mod TournamentLaws
