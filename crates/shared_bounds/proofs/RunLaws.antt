-- The laws: of the least blocking, and of every run.
use Rattle.std.proofs.Common.{ℕ, arith}
use Rattle.any_traffic.specs.SharedRuns.{IsSharedInTime}
use Rattle.any_traffic.proofs.SharedLaws.{shared_busy_law}
use Rattle.shared_bounds.specs.Least.{BlockingLaw, HoldBy, LeastLaw}
use Rattle.shared_bounds.specs.Sharing.{IsPitch}
use Rattle.shared_bounds.specs.Traffic.{arrivals_of, needs}
use Rattle.shared_bounds.proofs.BlockingLaws.{gradual, is_blocking, least, repeats}
use Rattle.shared_bounds.proofs.TrafficLaws.{arrivals_rise, none_past}

pub blocking_law : BlockingLaw
blocking_law plan class need above none = record {
  is = is_blocking plan class need none;
  least = least plan class need;
  gradual = gradual plan class need;
  again = repeats plan class need above;
}

-- ---- every run

pub least_law : LeastLaw
least_law ps mtu room class limit wait most traffic a plan events size all bounds run = record {
  soon = one.soon;
  starts = one.starts;
  few = two.few;
  all = two.all;
}
  where
    by_pitch : (pitch w m : ℕ) → IsPitch (needs traffic) class bounds.higher pitch → HoldBy plan class traffic bounds.higher pitch w m
        → IsSharedInTime ps mtu room events class w m
    by_pitch pitch w m is hold =
        shared_busy_law ps mtu room class pitch w m (needs traffic) _ (arrivals_of traffic class) _ bounds.higher a plan events
        (record {
          among = (bounds.share).all;
          blocked = is_blocking plan class (needs traffic) (λ j past. none_past traffic j (omega (arith, size, past)));
        })
        is.some run (arrivals_rise traffic all class) hold

    one : IsSharedInTime ps mtu room events class wait (bounds.wait_is).1
    one = by_pitch (bounds.wait_is).0 wait (bounds.wait_is).1 (bounds.wait_is).2 (bounds.wait_is).3

    two : IsSharedInTime ps mtu room events class (bounds.most_is).1 most
    two = by_pitch (bounds.most_is).0 (bounds.most_is).1 most (bounds.most_is).2 (bounds.most_is).3
