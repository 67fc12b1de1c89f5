use Rattle.std.proofs.Common.{◌≤◌, ◌+◌, ◌++◌, ℕ, List, take, drop, length, sym, ap, ◌∙◌, subst, arith, length-drop}
use Rattle.std.specs.Io.KnownBytes.{Keeps, prepend_known}
use Rattle.std.proofs.lemmas.List.{take_at}
use Rattle.translated.specs.Hand.{held}
use Rattle.translated.proofs.HandLaws.{filled, joined, kept}
use Rattle.translated.proofs.hand.Hand.fill.Goals as goal

pub returns-in_err-count-clause-octets : goal.returns-in_err-count-clause-octets
returns-in_err-count-clause-octets g c =
    let h = c.make_room.new.self in
    let items = c.read_behind.new.octets in
    let whole = take_at items (drop (length items) h.octets.items) h.octets.len (c.in_err-count.ensures.len ∙ c.as_mut_slice.ensures.len) in
    let front = ap (drop h.start) (ap (take h.«end») whole ∙ (c.in_err-count.ensures.front ∙ ap (take h.«end») c.as_mut_slice.ensures.value)) ∙ (c.in_ok-make_room.ensures.held ∙ c.pull.ensures.held) in
    let old = g.R.Read.remaining c.args.source.now in
    let new = g.R.Read.remaining c.read_behind.new.source in
    let before = held c.args.self.now in
    subst (λ (l : List ℕ). Keeps (prepend_known before old) (prepend_known l new)) (sym front) (kept old new before c.in_err-count.ensures.read)

pub returns-clause-octets : goal.returns-clause-octets
returns-clause-octets g c =
    let h = c.make_room.new.self in
    let items = c.read_behind.new.octets in
    let n = c.in_ok-count.count in
    let got = take n (drop h.«end» items) in
    let old = g.R.Read.remaining c.args.source.now in
    let new = g.R.Read.remaining c.read_behind.new.source in
    let before = held c.args.self.now in
    let whole = take_at items (drop (length items) h.octets.items) h.octets.len (c.in_ok-count.ensures.len ∙ c.as_mut_slice.ensures.len) in
    let front = ap (drop h.start) (c.in_ok-count.ensures.front ∙ ap (take h.«end») c.as_mut_slice.ensures.value) ∙ (c.in_ok-make_room.ensures.held ∙ c.pull.ensures.held) in
    let fits : h.«end» ≤ length items = omega (arith, c.in_ok-count.ensures.within) in
    let is = ap (λ (l : List ℕ). drop h.start (take (h.«end» + n) l)) whole ∙ (joined items h.start h.«end» n h.within.0 fits ∙ ap (λ (l : List ℕ). l ++ got) front) in
    subst (λ (l : List ℕ). Keeps (prepend_known before old) (prepend_known l new)) (sym is) (filled old new before got c.in_ok-count.ensures.read.0)

pub returns-clause-ended : goal.returns-clause-ended
returns-clause-ended g c = λ none.
    let long = length-drop c.make_room.new.self.«end» c.read_behind.new.octets in
    let room = c.in_ok-make_room.ensures.room in
    c.in_ok-count.ensures.read.1 none (omega (arith, c.in_ok-count.ensures.len ∙ c.as_mut_slice.ensures.len))
