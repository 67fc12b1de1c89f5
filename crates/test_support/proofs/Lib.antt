mod PlainLaws
mod Refusals
