-- What is merged keeps the order of both sources.
use Rattle.std.proofs.Common.{◌≡◌, ◌≤◌, ◌<◌, ◌+◌, ◌++◌, ℕ, List, [], ◌∷◌, Bool, true, false, refl, sym, ap, subst, append_assoc, arith}
use Rattle.std.specs.Prelude.{max, nat_le, if◌then◌else◌}
use Rattle.std.specs.List.{flat_map}
use Rattle.std.proofs.lemmas.Bool.{leb-false, leb-true}
use Rattle.replay.specs.Words.{Arrive, Entry, Request, Asks, NoCommand, Came, Timed, before_end, came_from, latest_clock, lines_after, lines_by, lines_past, requests_of, timed_from, MergeLaw}
use Rattle.abstract_port.specs.declared.Event.TheVariants.{Clock, Install, Query, Count}
use Rattle.replay.specs.Merge.{merged}
use Rattle.replay.specs.Sources.{FromCapture, FromScript, IsInOrder, MayFollow, Taken, lines_among, records_among, requests_in}

-- lines that rise, none before a moment
abbrev Rise : ℕ → List Timed → Type 0
Rise from [] = Unit {0}
Rise from (a ∷ lines) = (from ≤ a.moment) × Rise a.moment lines

-- records that rise, none before a moment
abbrev Come : ℕ → List Came → Type 0
Come from [] = Unit {0}
Come from (c ∷ cs) = (from ≤ c.moment) × Come c.moment cs

later_clock : (clock : ℕ) (r : Request) → clock ≤ latest_clock clock r
later_clock clock (Asks (Clock m)) = omega arith
later_clock clock (Asks (Arrive f)) = omega arith
later_clock clock (Asks (Install c)) = omega arith
later_clock clock (Asks Query) = omega arith
later_clock clock (Asks (Count class)) = omega arith
later_clock clock (NoCommand fault) = omega arith

rising_lines : (clock : ℕ) (rs : List Request) → Rise clock (timed_from clock rs)
rising_lines clock [] = tt
rising_lines clock (r ∷ rs) = (later_clock clock r, rising_lines (latest_clock clock r) rs)

rising_records : (latest number : ℕ) (es : List Entry) → Come latest (came_from latest number es)
rising_records latest number [] = tt
rising_records latest number (e ∷ es) = (omega arith, rising_records (max latest e.moment) (number + 1) es)

-- what may be taken after something: nothing, or what may follow it
abbrev Behind : Taken → List Taken → Type 0
Behind x [] = Unit {0}
Behind x (y ∷ rest) = MayFollow x y

in_order : (x : Taken) (rest : List Taken) → Behind x rest → IsInOrder rest → IsInOrder (x ∷ rest)
in_order x [] b i = tt
in_order x (y ∷ rest) b i = (b, i)

-- how much is taken of lines and records, with what comes first
record Merges (lines : List Timed) (records : List Came) (requests : List Request) : Type 0 where
  taken : List Taken
  lines_are : lines_among taken ≡ lines
  records_are : records_among taken ≡ records
  order : IsInOrder taken
  requests_are : requests ≡ flat_map requests_in taken
  -- what may go before: a line or a record that is early enough for the first line and the first record
  after_line : (a : Timed) → Rise a.moment lines → Come a.moment records → Behind (FromScript a) taken
  after_record : (c : Came) → ((l : Timed) (rest : List Timed) → lines ≡ l ∷ rest → c.moment < l.moment) → Come c.moment records → Behind (FromCapture c) taken

sooner : (from to : ℕ) (records : List Came) → from ≤ to → Come to records → Come from records
sooner from to [] h come = tt
sooner from to (c ∷ cs) h come = (omega (arith, come.0), come.1)

sooner_lines : (from to : ℕ) (lines : List Timed) → from ≤ to → Rise to lines → Rise from lines
sooner_lines from to [] h rise = tt
sooner_lines from to (a ∷ lines) h rise = (omega (arith, rise.0), rise.1)

-- a line first
line_first : (a : Timed) (lines : List Timed) (records : List Came) (requests : List Request) → Rise a.moment lines → Come a.moment records → Merges lines records requests → Merges (a ∷ lines) records (a.request ∷ requests)
line_first a lines records requests rise come m = record {
  taken = FromScript a ∷ m.taken;
  lines_are = ap (λ (x : List Timed). a ∷ x) m.lines_are;
  records_are = m.records_are;
  order = in_order (FromScript a) m.taken (m.after_line a rise come) m.order;
  requests_are = ap (λ (x : List Request). a.request ∷ x) m.requests_are;
  after_line = λ b r c. r.0;
  after_record = λ c h r. h a lines refl;
}

-- the lines up to a moment first, of which the last is not after the records to come
lines_first : (from upto : ℕ) (lines : List Timed) (records : List Came) (requests : List Request) → Rise from lines → Come upto records → Merges (lines_past upto lines) records requests → Merges lines records (requests_of (lines_by upto lines) ++ requests)
lines_first from upto [] records requests rise come m = m
lines_first from upto (a ∷ lines) records requests rise come m = go (nat_le a.moment upto) refl (λ h. lines_first a.moment upto lines records requests rise.1 come h) m
  where
    go : (b : Bool) → nat_le a.moment upto ≡ b → (Merges (lines_past upto lines) records requests → Merges lines records (requests_of (lines_by upto lines) ++ requests)) → Merges (if b then lines_past upto lines else (a ∷ lines)) records requests → Merges (a ∷ lines) records (requests_of (if b then a ∷ lines_by upto lines else []) ++ requests)
    go true e later m =
        let h : a.moment ≤ upto = leb-true a.moment upto e in
        line_first a lines records _ rise.1 (sooner a.moment upto records h come) (later m)
    go false e later m = m

-- a record first, before which no line to come goes
record_first : (c : Came) (lines : List Timed) (cs : List Came) (requests : List Request) → ((l : Timed) (rest : List Timed) → lines ≡ l ∷ rest → c.moment < l.moment) → Come c.moment cs → Merges lines cs requests
    → Merges lines (c ∷ cs) (requests_in (FromCapture c) ++ requests)
record_first c lines cs requests h come m = record {
  taken = FromCapture c ∷ m.taken;
  lines_are = m.lines_are;
  records_are = ap (λ (x : List Came). c ∷ x) m.records_are;
  order = in_order (FromCapture c) m.taken (m.after_record c h come) m.order;
  requests_are = ap (λ (x : List Request). requests_in (FromCapture c) ++ x) m.requests_are;
  after_line = λ b r come. come.0;
  after_record = λ d h come. come.0;
}

-- the lines after a moment
past_after : (m : ℕ) (lines : List Timed) (l : Timed) (rest : List Timed) → lines_past m lines ≡ l ∷ rest → m < l.moment
past_after m [] l rest e = cc
past_after m (a ∷ lines) l rest e = go (nat_le a.moment m) refl (past_after m lines l rest) e
  where
    go : (b : Bool) → nat_le a.moment m ≡ b → (lines_past m lines ≡ l ∷ rest → m < l.moment) → (if b then lines_past m lines else (a ∷ lines)) ≡ l ∷ rest → m < l.moment
    go true is later e = later e
    go false is later e =
        let same : a ≡ l = cc in
        let h : m < a.moment = omega (arith, leb-false a.moment m is) in
        subst (λ (x : Timed). m < x.moment) same h

rise_past : (from m : ℕ) (lines : List Timed) → Rise from lines → Rise from (lines_past m lines)
rise_past from m [] rise = tt
rise_past from m (a ∷ lines) rise = go (nat_le a.moment m) (rise_past a.moment m lines rise.1)
  where
    go : (b : Bool) → Rise a.moment (lines_past m lines) → Rise from (if b then lines_past m lines else (a ∷ lines))
    go true later = sooner_lines from a.moment (lines_past m lines) rise.0 later
    go false later = rise

-- lines alone
lines_only : (from : ℕ) (lines : List Timed) → Rise from lines → Merges lines [] (requests_of lines)
lines_only from [] rise = record { taken = []; lines_are = refl; records_are = refl; order = tt; requests_are = refl; after_line = λ a r c. tt; after_record = λ c h r. tt }
lines_only from (a ∷ lines) rise = line_first a lines [] (requests_of lines) rise.1 tt (lines_only a.moment lines rise.1)

merges : (from latest : ℕ) (lines : List Timed) (cs : List Came) → Rise from lines → Come latest cs → Merges lines cs (merged lines cs)
merges from latest lines [] rise come = lines_only from lines rise
merges from latest lines (c ∷ cs) rise come =
    let past = lines_past c.moment lines in
    let m = merges from c.moment past cs (rise_past from c.moment lines rise) come.1 in
    let first = record_first c past cs (merged past cs) (λ l rest e. past_after c.moment lines l rest e) come.1 m in
    let all = lines_first from c.moment lines (c ∷ cs) (requests_in (FromCapture c) ++ merged past cs) rise (omega arith, come.1) first in
    subst (λ (x : List Request). Merges lines (c ∷ cs) x)
    (sym (append_assoc (requests_of (lines_by c.moment lines)) (requests_in (FromCapture c) ++ before_end past cs) (requests_of (lines_after past cs)))) all

pub merge_law : MergeLaw
merge_law script entries =
    let m = merges 0 0 (timed_from 0 script) (came_from 0 0 entries) (rising_lines 0 script) (rising_records 0 0 entries) in
    record { taken = m.taken; lines = m.lines_are; records = m.records_are; order = m.order; requests = m.requests_are }
