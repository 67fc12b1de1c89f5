pub mod DigitLemmas
pub mod EndLemmas
pub mod GrammarLemmas
pub mod HeadsGrammar
pub mod HeadsLemmas
pub mod LineLaws
mod Places
mod PlainLemmas
pub mod ReadLaws
pub mod ReadsLemmas
pub mod RunLemmas
