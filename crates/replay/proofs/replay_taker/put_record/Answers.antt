use Rattle.std.proofs.Common.{Err, [], ◌∷◌, ap, ◌∙◌}
use Rattle.std.proofs.lemmas.Result.{err_from_is_err_and}
use Rattle.abstract_port.specs.declared.Event.TheVariants as Events
use Rattle.replay.specs.Words.{Asks}
use Rattle.replay.specs.Sends.{on_ok_map}
use Rattle.replay.specs.RunLaws.{answers_exit, answers_then}
use Rattle.replay.proofs.replay_taker.put_record.Goals as goal

pub returns-in_err-put_clock-clause-answers : goal.returns-in_err-put_clock-clause-answers
returns-in_err-put_clock-clause-answers g c = λ es is k.
    let p = err_from_is_err_and c.from_residual.result c.from_residual.ensures.1 in
    answers_exit c.from_residual.result es (Asks (Events.Clock c.args.moment) ∷ []) _ _ _ (p.1 ∙ ap Err p.2) (c.in_err-put_clock.ensures.answers es k)

pub returns-clause-answers : goal.returns-clause-answers
returns-clause-answers g c = λ es is k.
    let a = c.in_ok-put_clock.ensures.answers es k in
    let b = rw (c.frame_of-frame.ensures, c.from.ensures) at c.put_arrival.ensures.answers in
    answers_then c.put_arrival.result es (Asks (Events.Clock c.args.moment) ∷ []) _ _ _ _ c.requires.together.sound a (b es _ is a.keeps)

pub returns-clause-together : goal.returns-clause-together
returns-clause-together g c = on_ok_map c.put_arrival.result (λ i. record { lengths = i.lengths; room = i.room; sound = i.sound }) c.put_arrival.ensures.together
