use Rattle.frame_table.proofs.JoinLaws.{counts_all}
use Rattle.frame_table.proofs.MappedText.{script_counts}
use Rattle.frame_table.proofs.OnceLaws.{is_once}
use Rattle.frame_table.proofs.laws.once.Goals as goal

pub returns-clause-once : goal.returns-clause-once
returns-clause-once c = is_once

pub returns-clause-each : goal.returns-clause-each
returns-clause-each c = counts_all

pub returns-clause-script : goal.returns-clause-script
returns-clause-script c = script_counts
