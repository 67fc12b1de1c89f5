use Rattle.std.proofs.Common.{ℕ, List, Some, slice_get, refl, subst}
use Rattle.std.proofs.lemmas.Result.{err_from_is_err_and}
use Rattle.std.specs.Io.KnownBytes.{Appends}
use Rattle.text.proofs.Fronts.{sent_exit, sent_last, sent_more, sent_none}
use Rattle.text.specs.Writes.{FallsShort, Writes}
use Rattle.path_bounds.specs.declared.hop.Hop.{Hop}
use Rattle.paths.specs.PortLines.{head_by, lines_by, pair_lines, premises_at}
use Rattle.paths.proofs.port_lines.put_told.Goals as goal

pub returns-in_err-put_head : goal.returns-in_err-put_head
returns-in_err-put_head g c =
    let p = err_from_is_err_and c.from_residual.result c.from_residual.ensures.1 in
    let k = c.args.known.now in
    let names = c.args.names.now in
    let x = c.args.port.now in
    sent_exit _ (head_by (slice_get names c.args.number)) _ p.1 (sent_none _ (lines_by k names c.args.number (Some x))) refl c.in_err-put_head.ensures

pub returns-in_err-put_taken : goal.returns-in_err-put_taken
returns-in_err-put_taken g c =
    let p = err_from_is_err_and c.from_residual-in_err-put_taken.result c.from_residual-in_err-put_taken.ensures.1 in
    let k = c.args.known.now in
    let names = c.args.names.now in
    let x = c.args.port.now in
    let s1 = sent_more _ (head_by (slice_get names c.args.number)) _ (sent_none _ (lines_by k names c.args.number (Some x))) refl c.in_ok-put_head.ensures in
    let taken = subst (λ (hops : List Hop). FallsShort (g.W.Write.contents c.put_head.new.writer) (g.W.Write.contents c.put_taken.new.writer) (premises_at c.args.number hops x)) c.hops.ensures.hops c.in_err-put_taken.ensures in
    sent_exit _ (premises_at c.args.number k.hops x) _ p.1 s1 refl taken

pub returns : goal.returns
returns g c =
    let k = c.args.known.now in
    let names = c.args.names.now in
    let x = c.args.port.now in
    let s1 = sent_more _ (head_by (slice_get names c.args.number)) _ (sent_none _ (lines_by k names c.args.number (Some x))) refl c.in_ok-put_head.ensures in
    let taken = subst (λ (hops : List Hop). Appends (g.W.Write.contents c.put_head.new.writer) (g.W.Write.contents c.put_taken.new.writer) (premises_at c.args.number hops x)) c.hops.ensures.hops c.in_ok-put_taken.ensures in
    let s2 = sent_more _ (premises_at c.args.number k.hops x) _ s1 refl taken in
    let pairs = subst (λ (room : ℕ). Writes c.put_pairs.result (g.W.Write.contents c.put_taken.new.writer) (g.W.Write.contents c.put_pairs.new.writer) (pair_lines k room c.args.number 8 0)) c.room.ensures.value c.put_pairs.ensures in
    sent_last _ _ s2 pairs
