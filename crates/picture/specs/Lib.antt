pub mod Bands
pub mod Drawn
pub mod Lanes
pub mod Laws
pub mod Pane
pub mod Ticks
pub mod Viewports
pub mod Words
