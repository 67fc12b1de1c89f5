-- What a call of `next` shows, by how the reading ends.
use Rattle.std.proofs.Common.{◌≡◌, ℕ, ◌+◌, ◌*◌, ◌-◌, ◌^◌, ◌<◌, ◌≤◌, List, length, take, drop, None, Some, Ok, ap, ◌∙◌, arith}
use Rattle.std.specs.Prelude.{IfSome}
use Rattle.std.specs.declared.option.Option.{Option}
use Rattle.capture.specs.Words.{Format, RecordHeader, Resolution, Micros, Nanos, ReadAhead, CAPTURE_END, last_given, Entry, entry_at, rest_after, fault_at, fraction_of, fractions_of, moment_of, Step}
use Rattle.capture.proofs.Slices.{length-held}

-- the record that a header stands for
pub entry_shown : {A : Type 0} (format : Format) (number : ℕ) (known after : Option (List ℕ)) (head : RecordHeader) (w : ReadAhead A) → IfSome known (λ octets. Step format number octets (Ok (Some head)) w after)
    → IfSome known (λ octets. (fault_at format number octets ≡ None) × (record { moment = moment_of format head; captured = head.captured; original = head.original; octets = last_given w head.captured } ≡ entry_at format octets)
    × (after ≡ Some (rest_after format octets)))
entry_shown format number None after head w step = tt
entry_shown format number (Some octets) after head w step =
    let shown : RecordHeader → List ℕ → Entry = λ h os. record { moment = moment_of format h; captured = h.captured; original = h.original; octets = os } in
    (step.0, ap (shown head) step.2 ∙ ap (λ h. shown h (take h.captured (drop 16 octets))) step.1, step.3)

pub length-given : {A : Type 0} (w : ReadAhead A) (count : ℕ) → count ≤ w.start → length (last_given w count) ≡ count
length-given w count le =
    let long = length-held w.buffer.items (w.start - count) w.start (omega (arith, w.buffer.ok.0, w.within, w.ordered)) in
    omega (arith, long, le)

within : (resolution : Resolution) (seconds fraction : ℕ) → fraction < fractions_of resolution → seconds < 2 ^ 32 → seconds * 1000000000000 + fraction * fraction_of resolution < CAPTURE_END
within Micros seconds fraction small early = omega arith
within Nanos seconds fraction small early = omega arith

pub early_moment : (format : Format) (head : RecordHeader) → head.fraction < fractions_of format.resolution → head.seconds < 2 ^ 32 → moment_of format head < CAPTURE_END
early_moment format head small early = within format.resolution head.seconds head.fraction small early
