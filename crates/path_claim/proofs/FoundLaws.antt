-- What is found of a network that is read holds in every run.
use Rattle.std.proofs.Common.{◌≤◌, ◌<◌, ◌^◌, ◌*◌, ℕ, arith}
use Rattle.wire_time.specs.Moment.{greatest_moment}
use Rattle.claims.specs.NetworkClaim.{NetworkClaim}
use Rattle.path_claim.specs.Built.{network_of}
use Rattle.path_claim.specs.Found.{FoundClaim}
use Rattle.path_claim.proofs.BuiltLaws.{built_law}
use Rattle.path_claim.proofs.EndLaws.{end_law, sooner_law}
use Rattle.path_claim.proofs.PathLaws.{path_claim}
use Rattle.path_claim.proofs.SharedLaws.{shared_is}
use Rattle.path_claim.proofs.SmallLaws.{sent_law, small_law}

since_small : (n : ℕ) → n ≤ 2 * greatest_moment → n < 2 ^ 127
since_small n le = omega (arith, le)

pub found_claim : NetworkClaim → FoundClaim
found_claim claim ports clocks ways known read are judged runs nominal run =
    let net = network_of ports clocks known in
    let built = built_law ports clocks ways known are judged in
    let kept = path_claim claim net ports clocks ways known (sent_law ports clocks ways read) judged
    (small_law ports clocks ways known read are judged) built.is built.hops (shared_is ports clocks ways known read are judged) runs nominal run in
    record {
      keeps = kept;
      ends = λ k j n h p f there at numbered.
          end_law net ports clocks known runs nominal h.port at.class k j _ n f at.hop h p (since_small p.since (read.each_port h.port p there).since)
          ((built.is).ports_told h.port p there) (kept h.port at.class at.judged) at.at numbered;
      no_sooner = λ k j n h p f x there at numbered e.
          sooner_law net ports clocks known runs nominal h.port at.class k j _ n f at.hop h p ((built.is).ports_told h.port p there)
          (run.ports h.port at.class at.judged) (kept h.port at.class at.judged) at.at numbered x e;
    }
