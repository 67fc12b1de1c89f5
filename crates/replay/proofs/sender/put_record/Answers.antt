use Rattle.std.proofs.Common.{List, [], ℕ, refl, rules, sym, ap, ◌∙◌, subst}
use Rattle.std.specs.Io.KnownBytes.{Appends}
use Rattle.replay.specs.Words.{kept, kept_at, FallsShort, first_kept, start_record}
use Rattle.replay.proofs.StartLaws.{first-of}
use Rattle.replay.proofs.sender.put_record.Goals as goal

pub returns-clause-out : goal.returns-clause-out
returns-clause-out g c =
    let first = first-of (kept_at c.args.sending.now.store.kept c.args.start.class) _ (kept 0 []) c.first-first.ensures.first in
    let P : List ℕ → Type 0 = λ text. Appends (g.W.Write.contents c.args.departures.now) (g.W.Write.contents c.put-put.new.writer) text in
    let moved = ap (λ m. start_record m (first_kept c.args.sending.now.store c.args.start.class)) c.stamped-moment.ensures.moment in
    subst P (ap (λ k. start_record c.stamped-moment.result k) (sym first) ∙ moved) c.in-Ok.ensures.octets

pub returns-in_default-clause-out : goal.returns-in_default-clause-out
returns-in_default-clause-out g c =
    let first = first-of (kept_at c.args.sending.now.store.kept c.args.start.class) _ (kept 0 []) c.first-first.ensures.first in
    let P : List ℕ → Type 0 = λ text. FallsShort (g.W.Write.contents c.args.departures.now) (g.W.Write.contents c.put-put.new.writer) text in
    let moved = ap (λ m. start_record m (first_kept c.args.sending.now.store c.args.start.class)) c.stamped-moment.ensures.moment in
    subst P (ap (λ k. start_record c.stamped-moment.result k) (sym first) ∙ moved) c.in_default.ensures.octets

pub put-put-requires : goal.put-put-requires
put-put-requires g c = record { moment = c.stamped-moment.ensures.early; size = c.first-first.ensures.within }

pub first-first-requires : goal.first-first-requires
first-first-requires g c = (search rules, (c.requires.class, c.requires.waits))

pub give_up-requires : goal.give_up-requires
give_up-requires g c = (search rules, (c.requires.class, c.requires.waits))

pub returns-clause-port : goal.returns-clause-port
returns-clause-port g c = refl

pub returns-clause-seen : goal.returns-clause-seen
returns-clause-seen g c = refl

pub returns-clause-store : goal.returns-clause-store
returns-clause-store g c = c.give_up.ensures

pub returns-clause-fault : goal.returns-clause-fault
returns-clause-fault g c = tt

pub returns-in_default-clause-port : goal.returns-in_default-clause-port
returns-in_default-clause-port g c = refl

pub returns-in_default-clause-seen : goal.returns-in_default-clause-seen
returns-in_default-clause-seen g c = refl

pub returns-in_default-clause-fault : goal.returns-in_default-clause-fault
returns-in_default-clause-fault g c = refl

pub returns-clause-stamping : goal.returns-clause-stamping
returns-clause-stamping g c = refl

pub returns-clause-last : goal.returns-clause-last
returns-clause-last g c = refl

pub returns-in_default-clause-stamping : goal.returns-in_default-clause-stamping
returns-in_default-clause-stamping g c = refl

pub returns-in_default-clause-last : goal.returns-in_default-clause-last
returns-in_default-clause-last g c = refl

pub stamped-moment-requires : goal.stamped-moment-requires
stamped-moment-requires g c = record { early = c.requires.early }
