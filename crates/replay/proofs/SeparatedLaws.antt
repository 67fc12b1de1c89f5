-- What concerns a class that is kept apart, in both outputs.
use Rattle.std.proofs.Common.{◌≤◌, ℕ, List, sym, ap, ◌∙◌}
use Rattle.replay.specs.Words.{new_port, Origin, Request, events_of, IsSeparatedBy}
use Rattle.abstract_port.specs.Separation.{IsSeparation}
use Rattle.script.proofs.SeparatedLaws.{only-events}
use Rattle.replay.specs.Separated.{output_concerning, output_of}

pub is_separated : IsSeparation → (origin : Origin) (requests : List Request) (ps mtu room : ℕ) → 80 ≤ ps → 68 ≤ mtu → IsSeparatedBy origin requests (new_port ps mtu room)
is_separated law origin requests ps mtu room rate within class less apart =
    let p = new_port ps mtu room in
    ap (output_of origin) (law ps mtu room class rate within less (events_of requests) apart)
    ∙ ap (λ events. output_concerning origin class events p) (sym (only-events class requests p))
