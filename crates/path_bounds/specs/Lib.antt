pub mod Answers
pub mod Hops
pub mod Judged
pub mod Start
