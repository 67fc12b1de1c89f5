use Rattle.std.proofs.Common.{◌≤◌, ◌<◌, ◌⊎◌, refl, subst}
use Rattle.script.specs.Words.{greatest_moment, Clock}
use Rattle.abstract_port.specs.declared.Answer.TheVariants as Answered
use Rattle.script.proofs.GivenLaws.{clock_refused, one_unseen}
use Rattle.script.proofs.answers.put_clock.Goals as goal

pub returns-else-now-until : goal.returns-else-now-until
returns-else-now-until g c =
    let p = c.args.port.now in
    let until = c.args.until in
    let refused = subst (λ n. ((n ≤ until) × (greatest_moment < until)) ⊎ (until < n)) c.now.ensures.now c.else-now-until.either in
    one_unseen c.put.result _ _ (Clock until) p Answered.Backward (clock_refused until p.port refused) (λ s. refl) c.now.ensures.sound c.put.ensures c.args.summary.now
