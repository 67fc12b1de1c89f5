mod AlertLaws
mod NameLaws
mod PlanLaws
mod ToldLaws
