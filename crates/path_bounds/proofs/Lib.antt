pub mod CutLaws
pub mod PassLaws
pub mod PickLaws
pub mod StartLaws
pub mod StepLaws
