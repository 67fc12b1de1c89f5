use Rattle.claims.proofs.CycleLaws.{cycles_claim}
use Rattle.claims.proofs.CurveLaws.{curve_promise}
use Rattle.claims.proofs.NetworkExample.{met}
use Rattle.claims.proofs.NetworkLaws.{network_claim, network_law}
use Rattle.claims.proofs.NetworkRuns.{network_runs_exist}
use Rattle.claims.proofs.PriorityLaws.{priority_promise, silent_promise}
use Rattle.claims.proofs.WindowLaws.{window_promise}
use Rattle.claims.proofs.network_claim.claims.Goals as goal

pub returns-clause-law : goal.returns-clause-law
returns-clause-law c = network_law

pub returns-clause-silent : goal.returns-clause-silent
returns-clause-silent c = silent_promise

pub returns-clause-windows : goal.returns-clause-windows
returns-clause-windows c = window_promise c.claims.ensures.windows

pub returns-clause-curves : goal.returns-clause-curves
returns-clause-curves c = curve_promise c.claims.ensures.any_moments

pub returns-clause-priority : goal.returns-clause-priority
returns-clause-priority c = priority_promise c.claims-2.ensures.shared c.claims-2.ensures.others

pub returns-clause-network : goal.returns-clause-network
returns-clause-network c =
    network_claim c.claims.ensures.windows c.claims.ensures.any_moments c.claims-2.ensures.shared c.claims-2.ensures.others

pub returns-clause-runs : goal.returns-clause-runs
returns-clause-runs c = network_runs_exist c.claims-2.ensures.runs

pub returns-clause-cycles : goal.returns-clause-cycles
returns-clause-cycles c =
    cycles_claim
    (network_claim c.claims.ensures.windows c.claims.ensures.any_moments c.claims-2.ensures.shared c.claims-2.ensures.others)

pub returns-clause-met : goal.returns-clause-met
returns-clause-met c = met c.claims-2.ensures.runs c.claims.ensures.any_moments
