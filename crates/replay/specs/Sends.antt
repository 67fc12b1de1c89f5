-- One part of two outputs after another.
use Rattle.std.specs.Prelude.{IfErr, OnOk}
use Rattle.std.proofs.Common.{◌≡◌, ℕ, List, [], ◌++◌, Option, Result, Ok, Err, refl, sym, ap, ◌∙◌, append_assoc, append-nil, subst}
use Rattle.std.specs.Io.KnownBytes.{Appends, Keeps}
use Rattle.job.proofs.RunEndLaws.{sent_kept}
use Rattle.replay.specs.Words.{FallsShort, Writes, Got, Output, PutsBoth, SentBoth, joined, nothing, Stop}
use Rattle.text.specs.Writes.{Sent}
use Rattle.text.proofs.Fronts.{Appends-append, sent_none}

pub always : {T P : Type 0} (r : Result T Stop) → P → OnOk r P
always (Ok x) p = p
always (Err e) p = tt

pub never : {T : Type 0} {r : Result T Stop} {y : Stop} (P : Type 0) → r ≡ Err y → OnOk r P
never {T} {r} P e = let Q : Result T Stop → Type 0 = λ r. OnOk r P in subst Q (sym e) tt

-- what holds of the error of a call
pub of_error : {T : Type 0} (r : Result T Stop) (y : Stop) (P : Stop → Type 0) → r ≡ Err y → P y → IfErr r P
of_error {T} r y P e p = let Q : Result T Stop → Type 0 = λ x. IfErr x P in subst Q (sym e) p

pub on_ok_map : {T P Q : Type 0} (r : Result T Stop) → (P → Q) → OnOk r P → OnOk r Q
on_ok_map (Ok x) f p = f p
on_ok_map (Err e) f p = tt

-- what is left is sent in turn
sent_last : {a b : Option (List ℕ)} {whole left : List ℕ} (c : Option (List ℕ)) (l : List ℕ) → Sent a b whole left → Sent b c left l → Sent a c whole l
sent_last {a} {b} c l s t = record {
  done = s.done ++ t.done;
  appended = Appends-append a b c s.done t.done s.appended t.appended;
  parts = s.parts ∙ ap (λ u. s.done ++ u) t.parts ∙ sym (append_assoc s.done t.done l);
}

-- what is sent of a prefix is sent of the whole
sent_front : {a b : Option (List ℕ)} {x left : List ℕ} (whole rest : List ℕ) → whole ≡ x ++ rest → Sent a b x left → Sent a b whole (left ++ rest)
sent_front {a} {b} {x} {left} whole rest e s = record { done = s.done; appended = s.appended; parts = e ∙ ap (λ u. u ++ rest) s.parts ∙ append_assoc s.done left rest }

pub both_none : (g : Got) (whole : Output) → SentBoth g g whole whole
both_none g whole = record { report = sent_none g.report whole.report; departures = sent_none g.departures whole.departures }

pub both_last : {f g : Got} {whole left : Output} (h : Got) (l : Output) → SentBoth f g whole left → SentBoth g h left l → SentBoth f h whole l
both_last h l s t = record { report = sent_last h.report l.report s.report t.report; departures = sent_last h.departures l.departures s.departures t.departures }

both_front : {f g : Got} {x left : Output} (whole rest : Output) → whole ≡ joined x rest → SentBoth f g x left → SentBoth f g whole (joined left rest)
both_front whole rest e s = record {
  report = sent_front whole.report rest.report (ap (λ (o : Output). o.report) e) s.report;
  departures = sent_front whole.departures rest.departures (ap (λ (o : Output). o.departures) e) s.departures;
}

-- one part more: what a call puts of the part x of what is left
both_part : {f g : Got} {whole left : Output} (h : Got) (x rest l : Output) → SentBoth f g whole left → left ≡ joined x rest → SentBoth g h x l → SentBoth f h whole (joined l rest)
both_part h x rest l s e t = both_last h (joined l rest) s (both_front _ rest e t)

-- a part that a call put whole
pub both_more : {T : Type 0} {f g : Got} {whole left : Output} {y : T} (h : Got) (x rest : Output) → SentBoth f g whole left → left ≡ joined x rest → PutsBoth {T = T} (Ok y) g h x → SentBoth f h whole rest
both_more {T} {f} {g} {whole} h x rest s e p =
    let P : Output → Type 0 = λ l. SentBoth f h whole (joined l rest) in
    subst P p.all (both_part h x rest p.left s e p.sent)

-- the exit of a call that failed in its part
pub both_exit : {T T' : Type 0} {f g : Got} {whole left : Output} {y : Stop} (r : Result T Stop) (h : Got) (x rest : Output) → r ≡ Err y → SentBoth f g whole left → left ≡ joined x rest → PutsBoth {T = T'} (Err y) g h x → PutsBoth r f h whole
both_exit {T} {T'} {f} {g} {whole} {left} {y} r h x rest is s e p = record {
  left = joined p.left rest;
  sent = both_part h x rest p.left s e p.sent;
  all = never _ is;
}

-- the exit of a call that wrote nothing
pub both_stop : {T : Type 0} {f g : Got} {whole left : Output} {y : Stop} (r : Result T Stop) → r ≡ Err y → SentBoth f g whole left → PutsBoth r f g whole
both_stop {T} {f} {g} {whole} {left} {y} r is s = record { left = left; sent = s; all = never _ is }

-- all is put
pub both_all : {T : Type 0} {f g : Got} {whole left : Output} (x : T) → SentBoth f g whole left → left ≡ nothing → PutsBoth (Ok x) f g whole
both_all {T} {f} {g} {whole} {left} x s e = record { left = left; sent = s; all = e }

-- the last call, whose result is returned
pub both_rest : {T : Type 0} {f g : Got} {whole left : Output} (r : Result T Stop) (h : Got) → SentBoth f g whole left → PutsBoth r g h left → PutsBoth r f h whole
both_rest r h s n = record { left = n.left; sent = both_last h n.left s n.sent; all = n.all }

-- a part, and then the last call for the rest
pub both_then : {T U : Type 0} {f g : Got} {x : Output} {y : U} (r : Result T Stop) (h : Got) (whole rest : Output) → whole ≡ joined x rest → PutsBoth {T = U} (Ok y) f g x → PutsBoth r g h rest → PutsBoth r f h whole
both_then {T} {U} {f} {g} {x} {y} r h whole rest e p n = both_rest r h (both_more g x rest (both_none f whole) e p) n

-- what writers keep that let out what they have
pub both_kept : {f g : Got} {whole left : Output} (h : Got) → SentBoth f g whole left → Keeps g.report h.report → Keeps g.departures h.departures → SentBoth f h whole left
both_kept {f} {g} {whole} {left} h s report departures = record {
  report = sent_kept f.report g.report h.report whole.report left.report s.report report;
  departures = sent_kept f.departures g.departures h.departures whole.departures left.departures s.departures departures;
}

pub puts_kept : {T : Type 0} {f g : Got} {whole : Output} (r : Result T Stop) (h : Got) → PutsBoth r f g whole → Keeps g.report h.report → Keeps g.departures h.departures → PutsBoth r f h whole
puts_kept r h p report departures = record { left = p.left; sent = both_kept h p.sent report departures; all = p.all }

-- 2. One writer of the two

-- the report falls short
pub report_short : {T : Type 0} {a b : Option (List ℕ)} {x : List ℕ} {y : Stop} (r : Result T Stop) (c : Option (List ℕ)) (rec : List ℕ) → r ≡ Err y → FallsShort a b x
    → PutsBoth r (record { report = a; departures = c }) (record { report = b; departures = c }) (record { report = x; departures = rec })
report_short r c rec is (left, some, sent) = record {
  left = record { report = left; departures = rec };
  sent = record { report = sent; departures = sent_none c rec };
  all = never _ is;
}

sent_all_of : {a b : Option (List ℕ)} {x : List ℕ} → Appends a b x → Sent a b x []
sent_all_of {a} {b} {x} e = record { done = x; appended = e; parts = sym (append-nil x) }

-- a text of the report, and a record by a call whose result is returned
pub report_and_record : {T : Type 0} {a b c d : Option (List ℕ)} {x : List ℕ} (r : Result T Stop) (rec : List ℕ) → Appends a b x → Writes r c d rec
    → PutsBoth r (record { report = a; departures = c }) (record { report = b; departures = d }) (record { report = x; departures = rec })
report_and_record (Ok y) rec p n = record {
  left = nothing;
  sent = record { report = sent_all_of p; departures = sent_all_of n };
  all = refl;
}
report_and_record (Err y) rec p (left, some, sent) = record {
  left = record { report = []; departures = left };
  sent = record { report = sent_all_of p; departures = sent };
  all = tt;
}

-- a text of the report alone
pub report_whole : {T : Type 0} {a b : Option (List ℕ)} {x : List ℕ} (y : T) (c : Option (List ℕ)) → Appends a b x
    → PutsBoth (Ok y) (record { report = a; departures = c }) (record { report = b; departures = c }) (record { report = x; departures = [] })
report_whole {T} {a} {b} {x} y c p = record {
  left = nothing;
  sent = record { report = sent_all_of p; departures = sent_none c [] };
  all = refl;
}

-- an output capture alone: whole, and a prefix of it
pub capture_whole : {T : Type 0} {c d : Option (List ℕ)} {rec : List ℕ} (y : T) (report : Option (List ℕ)) → Appends c d rec
    → PutsBoth (Ok y) (record { report = report; departures = c }) (record { report = report; departures = d }) (record { report = []; departures = rec })
capture_whole {T} {c} {d} {rec} y report p = record {
  left = nothing;
  sent = record { report = sent_none report []; departures = sent_all_of p };
  all = refl;
}

pub capture_short : {T : Type 0} {c d : Option (List ℕ)} {rec : List ℕ} {y : Stop} (r : Result T Stop) (report : Option (List ℕ)) → r ≡ Err y → FallsShort c d rec
    → PutsBoth r (record { report = report; departures = c }) (record { report = report; departures = d }) (record { report = []; departures = rec })
capture_short r report is (left, some, sent) = record {
  left = record { report = []; departures = left };
  sent = record { report = sent_none report []; departures = sent };
  all = never _ is;
}
