pub mod PaceLaws
pub mod WantedLaws
