use Rattle.std.proofs.Common.{◌≡◌, ℕ, List, [], sym, ap, subst, ◌∙◌}
use Rattle.translated.specs.Outlook.{IsDone, IsTurned}
use Rattle.pcapng.specs.Classic.{Reading}
use Rattle.pcapng.specs.Classic.{step}
use Rattle.pcapng.specs.Steps.{Ran, GoesOn}
use Rattle.pcapng.specs.Reader.{reading, classic_of, note_after, note_of, IsAllNoted}
use Rattle.pcapng.proofs.ReadingLaws.{if_ok, turned, over_done, goes_all}
use Rattle.pcapng.proofs.to_classic.PcapngToClassicTranslation.turn.Goals as goal

pub returns-then-not-self-clause-done : goal.returns-then-not-self-clause-done
returns-then-not-self-clause-done g c =
    if_ok c.put_header.result _ (λ n. IsDone classic_of c.put_header.new.self c.args.octets.now c.args.is_last n c.put_header.new.out.items)
    (λ n some last none nothing. absurd (some last nothing)) c.put_header.ensures.done

pub returns-then-not-self-clause-all_noted : goal.returns-then-not-self-clause-all_noted
returns-then-not-self-clause-all_noted g c =
    if_ok c.put_header.result _ (λ n. IsAllNoted note_after note_of c.put_header.new.self c.args.octets.now c.args.is_last n c.put_header.new.out.items)
    (λ n some last none nothing. absurd (some last nothing)) c.put_header.ensures.done

pub returns-then-first-eq0-clause-turned : goal.returns-then-first-eq0-clause-turned
returns-then-first-eq0-clause-turned g c =
    let old = c.args.self.now in
    let new = c.advance.new.self in
    let octets = c.args.octets.now in
    let out = c.advance.new.out.items in
    let none : 0 ≡ c.in_ok-first.first = sym c.if-first-eq0.true in
    let goes : GoesOn step (reading old) (reading new) octets c.args.is_last c.in_ok-first.first [] out =
    subst (λ (l : List ℕ). GoesOn step (reading old) (reading new) octets c.args.is_last c.in_ok-first.first l out) c.requires c.in_ok-first.ensures.goes_on in
    subst (λ (n : ℕ). IsTurned classic_of old new octets c.args.is_last n out) c.if-first-eq0.true
    (turned old new octets c.args.is_last c.in_ok-first.first out c.if-not-self.false (c.advance.ensures.header ∙ c.if-not-self.false) goes)

pub returns-then-first-eq0-clause-done : goal.returns-then-first-eq0-clause-done
returns-then-first-eq0-clause-done g c last none nothing =
    over_done c.advance.new.self c.args.octets.now (c.advance.ensures.header ∙ c.if-not-self.false)
    (c.in_ok-first.ensures.done last c.if-first-eq0.true (nothing ∙ sym c.requires))

pub returns-then-first-eq0-clause-all_noted : goal.returns-then-first-eq0-clause-all_noted
returns-then-first-eq0-clause-all_noted g c last none nothing =
    ap (λ (r : Ran Reading). r.last.noted) (c.in_ok-first.ensures.done last c.if-first-eq0.true (nothing ∙ sym c.requires))

pub returns-clause-turned : goal.returns-clause-turned
returns-clause-turned g c =
    let old = c.args.self.now in
    let mid = c.advance.new.self in
    let new = c.advance_more.new.self in
    let octets = c.args.octets.now in
    let first = c.in_ok-first.first in
    let at = c.advance_more.result in
    let is_last = c.args.is_last in
    let out = c.advance_more.new.out.items in
    let header = c.advance.ensures.header ∙ c.if-not-self.false in
    let goes : GoesOn step (reading old) (reading mid) octets is_last first [] c.advance.new.out.items =
    subst (λ (l : List ℕ). GoesOn step (reading old) (reading mid) octets is_last first l c.advance.new.out.items) c.requires c.in_ok-first.ensures.goes_on in
    turned old new octets is_last at out c.if-not-self.false (c.advance_more.ensures.header ∙ header)
    (goes_all (reading old) (reading mid) (reading new) octets is_last first at [] c.advance.new.out.items out goes c.advance_more.ensures.goes_on)
