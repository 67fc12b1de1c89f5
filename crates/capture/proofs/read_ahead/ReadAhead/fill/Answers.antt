use Rattle.std.proofs.Common.{◌≡◌, ◌+◌, ◌++◌, take, drop, refl, ap, ◌∙◌, rules, Result, Ok, Err}
use Rattle.std.specs.Vec.{with_items}
use Rattle.std.specs.Prelude.{slice_range, OnErr}
use Rattle.std.proofs.lemmas.List.{with_items_is, places}
use Rattle.capture.specs.Words.{held}
use Rattle.capture.proofs.Slices.{slice_range-grown, slice_range-kept, Keeps-read, Keeps-same}
use Rattle.capture.proofs.read_ahead.ReadAhead.fill.Goals as goal

OnErr-always : {T E P : Type 0} (r : Result T E) → P → OnErr r P
OnErr-always (Ok x) p = tt
OnErr-always (Err e) p = p

pub returns-in_err-n-clause-octets : goal.returns-in_err-n-clause-octets
returns-in_err-n-clause-octets g c =
    let w = c.args.self.now in
    let b = c.read_behind.new.buffer in
    let is : (with_items w.buffer b).items ≡ b = with_items_is w.buffer b (search (rules, places)) in
    let kept : slice_range b w.start w.end ≡ held w = slice_range-kept w.buffer.items b w.start w.end w.ordered (c.in_err-n.ensures.front ∙ ap (take w.end) c.deref_mut.ensures.value) in
    rw (is, kept) (Keeps-same (g.R.Read.remaining c.args.reader.now) (g.R.Read.remaining c.read_behind.new.reader) (held w) c.in_err-n.ensures.octets)

pub returns-in_err-n-clause-err : goal.returns-in_err-n-clause-err
returns-in_err-n-clause-err g c =
    let w = c.args.self.now in
    let b = c.read_behind.new.buffer in
    let is : (with_items w.buffer b).items ≡ b = with_items_is w.buffer b (search (rules, places)) in
    let kept : slice_range b w.start w.end ≡ held w = slice_range-kept w.buffer.items b w.start w.end w.ordered (c.in_err-n.ensures.front ∙ ap (take w.end) c.deref_mut.ensures.value) in
    OnErr-always c.from_residual.result (rw (is, kept) refl)

pub returns-clause-octets : goal.returns-clause-octets
returns-clause-octets g c =
    let w = c.args.self.now in
    let b = c.read_behind.new.buffer in
    let n = c.in_ok-n.n in
    let is : (with_items w.buffer b).items ≡ b = with_items_is w.buffer b (search (rules, places)) in
    let grown : slice_range b w.start (w.end + n) ≡ held w ++ take n (drop w.end b) = slice_range-grown w.buffer.items b w.start w.end n w.ordered (c.in_ok-n.ensures.front ∙ ap (take w.end) c.deref_mut.ensures.value) in
    rw (is, grown) (Keeps-read (g.R.Read.remaining c.args.reader.now) (g.R.Read.remaining c.read_behind.new.reader) (held w) (take n (drop w.end b)) c.in_ok-n.ensures.octets)
