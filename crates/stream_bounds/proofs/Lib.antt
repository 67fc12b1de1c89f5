mod AnswerLaws
mod CommandLaws
mod ExtraLaws
mod LineLaws
mod PickLaws
mod RefusalLaws
mod SharedLaws
mod SilentLaws
