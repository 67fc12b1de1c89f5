use Rattle.std.proofs.Common.{ℕ, List, ◌++◌, sym, ap, ◌∙◌}
use Rattle.pcapng.proofs.AnyLaws.{passed_on, passed_quiet, passed_done, passed_noted}
use Rattle.pcapng.proofs.any.AnyCaptureTranslation.turn.Goals as goal

pub returns-clause-turned : goal.returns-clause-turned
returns-clause-turned g c =
    passed_on c.args.self.now.format c.settled-format.result c.args.self.now.pcapng c.args.octets.now c.args.is_last c.extend_from_slice.new.self.items
    c.settled-format.ensures c.in_default.not-Pcapng (sym c.wants_more.ensures ∙ c.if-wants_more.false)
    (c.in_ok-extend_from_slice.ensures.items ∙ ap (λ (l : List ℕ). l ++ c.args.octets.now) c.requires)

pub returns-clause-noted : goal.returns-clause-noted
returns-clause-noted g c =
    passed_quiet c.args.self.now.format c.settled-format.result c.args.self.now.pcapng c.args.octets.now c.args.is_last
    c.settled-format.ensures c.in_default.not-Pcapng (sym c.wants_more.ensures ∙ c.if-wants_more.false)

pub returns-clause-done : goal.returns-clause-done
returns-clause-done g c last none nothing =
    passed_done c.args.self.now.format c.settled-format.result c.args.self.now.pcapng c.args.octets.now
    c.settled-format.ensures c.in_default.not-Pcapng
    (sym (c.in_ok-extend_from_slice.ensures.items ∙ ap (λ (l : List ℕ). l ++ c.args.octets.now) c.requires) ∙ nothing)

pub returns-clause-all_noted : goal.returns-clause-all_noted
returns-clause-all_noted g c last none nothing =
    passed_noted c.args.self.now.format c.settled-format.result c.args.self.now.pcapng c.args.octets.now
    c.settled-format.ensures c.in_default.not-Pcapng
