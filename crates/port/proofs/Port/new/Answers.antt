use Rattle.std.proofs.Common.{◌≤◌, map, refl, sym, ap, ◌∙◌, arith}
use Rattle.std.proofs.lemmas.Bool.{iff_false}
use Rattle.port.specs.Words.{AreCapped, head_need, frames_of, IsMtu, IsRoom}
use Rattle.port.proofs.SoundLaws.{kept_new, counted_new}
use Rattle.port.proofs.Port.new.Goals as goal

pub invariant_of-result : goal.invariant_of-result
invariant_of-result g c =
    let rate : 80 ≤ c.args.rate = let w = c.ps_per_octet-ps.ensures.within.0 in omega (arith, w, c.ps_per_octet-ps.ensures.value) in
    let mtu : IsMtu c.args.mtu = c.is_mtu.ensures.within.0 c.if-not-is_mtu.false in
    let room : IsRoom c.args.room = c.is_room.ensures.within.0 c.if-not-is_room.false in
    let n = c.default.ensures in
    let capped : AreCapped c.default.result = record { accepted = omega arith; sent = omega arith; sent_octets = omega arith; runt = omega arith; too_long = omega arith; over_sdu = omega arith; full = omega arith } in (
      c.new.ensures.current,
      kept_new c.args.rate c.args.mtu c.args.room _ c.in-Ok.queues rate mtu room c.in-Ok.ensures,
      counted_new c.default.result capped,
      ap (λ w. w.needs) c.new.ensures.value ∙ sym (ap (λ queues. map (head_need c.args.rate) (frames_of queues)) c.in-Ok.ensures),
    )

pub returns-in-Ok-clause-within : goal.returns-in-Ok-clause-within
returns-in-Ok-clause-within g c = (c.is_mtu.ensures.within.0 c.if-not-is_mtu.false, c.is_room.ensures.within.0 c.if-not-is_room.false)

pub returns-clause-memory : goal.returns-clause-memory
returns-clause-memory g c = λ _. (c.is_mtu.ensures.within.0 c.if-not-is_mtu.false, c.is_room.ensures.within.0 c.if-not-is_room.false)

pub returns-then-not-is_mtu-clause-bad_mtu : goal.returns-then-not-is_mtu-clause-bad_mtu
returns-then-not-is_mtu-clause-bad_mtu g c = (λ _ mtu. iff_false c.is_mtu.ensures.within c.if-not-is_mtu.true mtu, λ _. refl)

pub returns-then-not-is_mtu-clause-bad_room : goal.returns-then-not-is_mtu-clause-bad_room
returns-then-not-is_mtu-clause-bad_room g c = (λ e. cc, λ w. absurd (iff_false c.is_mtu.ensures.within c.if-not-is_mtu.true w.0))

pub returns-then-not-is_mtu-clause-memory : goal.returns-then-not-is_mtu-clause-memory
returns-then-not-is_mtu-clause-memory g c = λ e. cc

pub returns-then-not-is_room-clause-bad_mtu : goal.returns-then-not-is_room-clause-bad_mtu
returns-then-not-is_room-clause-bad_mtu g c = (λ e. cc, λ no. absurd (no (c.is_mtu.ensures.within.0 c.if-not-is_mtu.false)))

pub returns-then-not-is_room-clause-bad_room : goal.returns-then-not-is_room-clause-bad_room
returns-then-not-is_room-clause-bad_room g c = (λ _. (c.is_mtu.ensures.within.0 c.if-not-is_mtu.false, λ room. iff_false c.is_room.ensures.within c.if-not-is_room.true room), λ _. refl)

pub returns-then-not-is_room-clause-memory : goal.returns-then-not-is_room-clause-memory
returns-then-not-is_room-clause-memory g c = λ e. cc

pub returns-in-Ok-clause-bad_mtu : goal.returns-in-Ok-clause-bad_mtu
returns-in-Ok-clause-bad_mtu g c = (λ e. cc, λ no. absurd (no (c.is_mtu.ensures.within.0 c.if-not-is_mtu.false)))

pub returns-in-Ok-clause-bad_room : goal.returns-in-Ok-clause-bad_room
returns-in-Ok-clause-bad_room g c = (λ e. cc, λ w. absurd (w.1 (c.is_room.ensures.within.0 c.if-not-is_room.false)))

pub returns-in-Ok-clause-memory : goal.returns-in-Ok-clause-memory
returns-in-Ok-clause-memory g c = λ e. cc

pub returns-clause-bad_mtu : goal.returns-clause-bad_mtu
returns-clause-bad_mtu g c = (λ e. cc, λ no. absurd (no (c.is_mtu.ensures.within.0 c.if-not-is_mtu.false)))

pub returns-clause-bad_room : goal.returns-clause-bad_room
returns-clause-bad_room g c = (λ e. cc, λ w. absurd (w.1 (c.is_room.ensures.within.0 c.if-not-is_room.false)))
