mod BoundsLaws
mod PathsLaws
pub mod PictureLaws
mod PlanLaws
