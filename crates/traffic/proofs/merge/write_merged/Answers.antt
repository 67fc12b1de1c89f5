use Rattle.std.proofs.Common.{◌≡◌, ◌-◌, ℕ, List, Err, None, Some, refl, ap, ◌∙◌}
use Rattle.std.proofs.lemmas.Result.{err_from_is_err_and}
use Rattle.text.specs.declared.line_reader.lines.LineFault.TheVariants as Limits
use Rattle.text.specs.declared.line_reader.lines.TheConstants.{MAX_LINES}
use Rattle.traffic.specs.Words.{Turn, clock_after, left_of_all, limit_passed, line_count, script_fault}
use Rattle.traffic.proofs.MergeLaws.{begun, end_short, ends, goes_on, line_short, starves, stays, stops}
use Rattle.traffic.proofs.merge.write_merged.Goals as goal

-- how many lines of the script have room
abbrev room : List Turn → ℕ
room turns = MAX_LINES - line_count None (left_of_all turns)

pub lines-init : goal.lines-init
lines-init g c = record { tournament = c.requires.tournament; room = c.requires.room; reaches = begun (room c.args.turns.now) _ _ _ }

pub lines-preserved : goal.lines-preserved
lines-preserved g c =
    let a = rw c.if-not-more.false at c.in-Ok.ensures.line in
    let later : c.latest-now.result ≡ clock_after c.lines.clock c.advance.new.self.line.items = cc in
    let told = c.in_ok-room.ensures (left_of_all c.args.turns.now) c.lines.invariant.room in
    let passed : limit_passed (room c.args.turns.now) c.advance.new.self.first c.advance.new.self.line.items ≡ None = cc in
    let text = rw (c.unwrap_or.ensures, c.line-line.ensures) at c.in_ok-put_at.ensures.lines in
    let left = rw c.unwrap_or.ensures at c.in_ok-put_at.ensures.left in
    record { tournament = c.in_ok-put_at.ensures.tournament; room = told.left; reaches = goes_on (room c.args.turns.now) _ _ _ _ _ _ _ _ _ _ _ _ _ c.lines.invariant.reaches a passed later text left }

pub returns-in-Err : goal.returns-in-Err
returns-in-Err g c =
    stops (room c.args.turns.now) _ _ {T = Unit {0}} _ _ _ _ _ _ _ _ _ c.lines.invariant.reaches c.in-Err.ensures.line (ap Err c.script_fault.ensures)

pub returns-in_err-put_at : goal.returns-in_err-put_at
returns-in_err-put_at g c =
    let p = err_from_is_err_and c.from_residual-in_err-put_at.result c.from_residual-in_err-put_at.ensures.1 in
    let a = rw c.if-not-more.false at c.in-Ok.ensures.line in
    let later : c.latest-now.result ≡ clock_after c.lines.clock c.advance.new.self.line.items = cc in
    let told = c.in_ok-room.ensures (left_of_all c.args.turns.now) c.lines.invariant.room in
    let passed : limit_passed (room c.args.turns.now) c.advance.new.self.first c.advance.new.self.line.items ≡ None = cc in
    let text = rw (c.unwrap_or.ensures, c.line-line.ensures) at c.in_err-put_at.ensures.lines in
    line_short (room c.args.turns.now) _ _ {T = Unit {0}} _ _ _ _ _ _ _ _ _ _ c.lines.invariant.reaches a passed later text (p.1 ∙ ap Err p.2)

pub returns-in_err-write_frames : goal.returns-in_err-write_frames
returns-in_err-write_frames g c =
    let p = err_from_is_err_and c.from_residual-in_err-write_frames.result c.from_residual-in_err-write_frames.ensures.1 in
    let a = rw c.if-not-more.true at c.in-Ok.ensures.line in
    end_short (room c.args.turns.now) _ _ {T = Unit {0}} _ _ _ _ _ _ _ _ _ c.lines.invariant.reaches a c.in_err-write_frames.ensures (p.1 ∙ ap Err p.2)

pub returns : goal.returns
returns g c =
    let a = rw c.if-not-more.true at c.in-Ok.ensures.line in
    ends (room c.args.turns.now) _ _ {T = Unit {0}} tt _ _ _ _ _ _ _ _ _ c.lines.invariant.reaches a c.in_ok-write_frames.ensures refl

pub returns-in-Some : goal.returns-in-Some
returns-in-Some g c =
    let a = rw c.if-not-more.false at c.in-Ok.ensures.line in
    let number = c.line_number-number.ensures in
    let told = c.in_ok-room.ensures (left_of_all c.args.turns.now) c.lines.invariant.room in
    let passed : limit_passed (room c.args.turns.now) c.advance.new.self.first c.advance.new.self.line.items ≡ Some c.in-Some.limit = cc in
    stays (room c.args.turns.now) _ _ {T = Unit {0}} c.in-Some.limit _ _ _ _ _ _ _ _ c.lines.invariant.reaches a passed (ap Err (c.script_fault-in-Some.ensures ∙ ap (λ n. script_fault (Limits.Limit n c.in-Some.limit)) number))

pub returns-in_err-room : goal.returns-in_err-room
returns-in_err-room g c =
    let p = err_from_is_err_and c.from_residual.result c.from_residual.ensures.1 in
    let a = rw c.if-not-more.false at c.in-Ok.ensures.line in
    starves (room c.args.turns.now) _ _ {T = Unit {0}} _ _ _ _ _ _ _ _ c.lines.invariant.reaches a (p.1 ∙ ap Err p.2)
