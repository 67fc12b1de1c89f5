use Rattle.std.proofs.Common.{◌≡◌, ◌≤◌, ◌-◌, length}
use Rattle.std.specs.Io.KnownBytes.{Keeps, prepend_known}
use Rattle.capture.specs.Words.{held}
use Rattle.capture.proofs.reader.fetch.Given as goal

abbrev pub invariant-loop-ahead : goal.invariant-loop-ahead
invariant-loop-ahead g l =
    let remaining = g.R.Read.remaining in
    record {
      octets : Keeps (prepend_known (held l.fn.ahead) (remaining l.fn.source)) (prepend_known (held l.ahead) (remaining l.source));
      unread : l.need ≤ length (held l.fn.ahead) → (l.source ≡ l.fn.source) × (held l.ahead ≡ held l.fn.ahead);
    }

abbrev pub decreases-loop-ahead : goal.decreases-loop-ahead
decreases-loop-ahead g l = l.need - length (held l.ahead)
