mod Decimal
mod DigitRunLaws
mod Digits
pub mod EightDigits
mod FeedLaws
mod FirstWord
mod FrontDigits
pub mod FrontLaws
pub mod Fronts
mod HexLemmas
mod JoinedLaws
mod LaneLaws
pub mod LineRunLaws
mod MovedDigits
mod NumberWord
mod PhysicalLineLaws
pub mod PlacedLaws
mod PlainWord
mod TextLaws
mod TimeDigits
