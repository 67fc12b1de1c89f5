pub mod LineLaws
pub mod RunEndLaws
