pub mod EndLaws
mod LineLaws
mod PathLaws
mod PortLaws
mod WayLaws
