-- Laws of histories.
use Rattle.std.proofs.Common.{◌≡◌, ◌<◌, ◌≤◌, ℕ, ◌+◌, Bool, true, false, cond, ◌&&◌, leb, ltb, List, [], ◌∷◌, ◌++◌, Option, Some, None, MatchOption, filter, ◌≢◌, append_assoc, append-nil, inl, inr, refl, sym, ap, ◌∙◌, subst, arith, le_refl, le_trans, le_of_lt, lt_of_lt_of_le, lt_of_le_of_lt}
use Rattle.std.proofs.lemmas.Bool.{cases_Bool, le-leb, lt-leb, leb-true, leb-false, le-ltb, lt-ltb, cases_lt, false≢true}
use Rattle.std.proofs.lemmas.Option.{same_Some}
use Rattle.gates.specs.Gate.{Plan}
use Rattle.gates.specs.Stretch.{left_at, awaited_to, stretches_from}
use Rattle.gates.proofs.OpenLaws.{same_while}
use Rattle.std.specs.Option.{option_or}
use Rattle.gates.specs.History.{Accepted, last, is_in_time, in_force, only_if, latest, pending, announced, gates, mask_under, cons_some, kept, IsSound, IsRising, ArePast, IsOld, IsWaiting, IsAhead, three, IsSettled, open_through}
use Rattle.std.proofs.Math.Bool.{and-false, and-true}

pub option_or_assoc : (x y z : Option Accepted) → option_or (option_or x y) z ≡ option_or x (option_or y z)
option_or_assoc (Some a) y z = refl
option_or_assoc None y z = refl

pub option_or_none : (x : Option Accepted) → option_or x None ≡ x
option_or_none (Some a) = refl
option_or_none None = refl

-- an older command does not count where there is a later one
pub option_or_hides : (x : Option Accepted) (a : Accepted) (z : Option Accepted) → option_or (option_or x (Some a)) z ≡ option_or x (Some a)
option_or_hides x a z = option_or_assoc x (Some a) z

-- what is past stays past
pub past_later : (m n : ℕ) (h : List Accepted) → m ≤ n → ArePast m h → ArePast n h
past_later m n [] l p = tt
past_later m n (a ∷ []) l p = tt
past_later m n (a ∷ b ∷ rest) l p = (le_trans p.0 l, past_later m n (b ∷ rest) l p.1)

-- ---- one command more, by cases

-- Once the lead moment of the first command has come, it is the latest where no later one has come.
pub latest_come : (a : Accepted) (r : List Accepted) (n : ℕ) → a.lead ≤ n → latest (a ∷ r) n ≡ option_or (latest r n) (Some a)
latest_come a r n h = rw (le-leb a.lead n h)

-- Before its lead moment, the first command doesn't count among those that have come.
pub latest_ahead : (a : Accepted) (r : List Accepted) (n : ℕ) → n < a.lead → latest (a ∷ r) n ≡ latest r n
latest_ahead a r n h = rw (lt-leb a.lead n h)

-- A command in time is in force from its change moment on, unless a later one is.
pub force_begun : (a : Accepted) (r : List Accepted) (n : ℕ) → a.change ≤ n → is_in_time a r ≡ true → in_force (a ∷ r) n ≡ option_or (in_force r n) (Some a)
force_begun a r n h t = rw (le-leb a.change n h, t)

-- Before its change moment, a command is not in force.
pub force_ahead : (a : Accepted) (r : List Accepted) (n : ℕ) → n < a.change → in_force (a ∷ r) n ≡ in_force r n
force_ahead a r n h = rw (lt-leb a.change n h) (option_or_none _)

-- A command that is replaced before its change moment never comes into force.
pub force_replaced : (a : Accepted) (r : List Accepted) (n : ℕ) → is_in_time a r ≡ false → in_force (a ∷ r) n ≡ in_force r n
force_replaced a r n t = rw (t, and-false) (option_or_none _)

-- ---- settling: from m on the past of a history is at most three commands

-- Two histories answer alike from a moment on: at each such moment their commands in force are equal, and so are the latest that have
-- come; their last ones are equal.
pub record SameFrom (m : ℕ) (h k : List Accepted) : Type 0 where
  pub force : (n : ℕ) → m ≤ n → in_force h n ≡ in_force k n
  pub come : (n : ℕ) → m ≤ n → latest h n ≡ latest k n
  pub end : last h ≡ last k

pub same_refl : (m : ℕ) (h : List Accepted) → SameFrom m h h
same_refl m h = record { force = λ n l. refl; come = λ n l. refl; end = refl }

pub same_sym : (m : ℕ) (h k : List Accepted) → SameFrom m h k → SameFrom m k h
same_sym m h k s = record { force = λ n l. sym (s.force n l); come = λ n l. sym (s.come n l); end = sym s.end }

pub same_trans : (m : ℕ) (h k l : List Accepted) → SameFrom m h k → SameFrom m k l → SameFrom m h l
same_trans m h k l s t = record {
  force = λ n le. s.force n le ∙ t.force n le;
  come = λ n le. s.come n le ∙ t.come n le;
  end = s.end ∙ t.end;
}

-- A command that is in force at m, put before a history, is in force from m on until one of the history is.
pub force_onto : (m : ℕ) (f : Option Accepted) (r : List Accepted) → IsOld m f r → (n : ℕ) → m ≤ n → in_force (cons_some f r) n ≡ option_or (in_force r n) f
force_onto m None r o n l = sym (option_or_none _)
force_onto m (Some a) r o n l = force_begun a r n (le_trans o.1 l) o.2

-- A command that is in force at m, put before a history, is the latest from m on until one of the history comes.
pub come_onto : (m : ℕ) (f : Option Accepted) (r : List Accepted) → IsOld m f r → (n : ℕ) → m ≤ n → latest (cons_some f r) n ≡ option_or (latest r n) f
come_onto m None r o n l = sym (option_or_none _)
come_onto m (Some a) r o n l = latest_come a r n (le_trans o.0 l)

-- A command put before a history is the last one just where the history is empty.
pub end_onto : (f : Option Accepted) (r : List Accepted) → last (cons_some f r) ≡ option_or (last r) f
end_onto None r = sym (option_or_none _)
end_onto (Some a) r = refl

-- the command in force hides those before it
pub step_in_force : (m : ℕ) (f : Option Accepted) (a : Accepted) (r : List Accepted) → IsOld m f (a ∷ r) → IsOld m (Some a) r → SameFrom m (cons_some f (a ∷ r)) (a ∷ r)
step_in_force m f a r o p = record {
  force = λ n l. force_onto m f (a ∷ r) o n l ∙ (let e = force_begun a r n (le_trans p.1 l) p.2 in rw e (option_or_hides _ a f));
  come = λ n l. come_onto m f (a ∷ r) o n l ∙ (let e = latest_come a r n (le_trans p.0 l) in rw e (option_or_hides _ a f));
  end = end_onto f (a ∷ r) ∙ option_or_hides _ a f;
}

-- A command in force at m stays so with another follower whose lead moment is no earlier.
pub old_on : (m : ℕ) (f : Option Accepted) (a b : Accepted) (r s : List Accepted) → a.lead ≤ b.lead → IsOld m f (a ∷ r) → IsOld m f (b ∷ s)
old_on m None a b r s l o = tt
old_on m (Some g) a b r s l o = (o.0, o.1, le-leb g.change b.lead (le_trans (leb-true g.change a.lead o.2) l))

-- a command that is replaced by one whose lead moment has come is forgotten
pub step_replaced : (m : ℕ) (f : Option Accepted) (a b : Accepted) (r : List Accepted) → IsOld m f (a ∷ b ∷ r) → a.lead ≤ b.lead → b.lead ≤ m → b.lead < a.change → SameFrom m (cons_some f (a ∷ b ∷ r)) (cons_some f (b ∷ r))
step_replaced m f a b r o al bl late =
    let p : IsOld m f (b ∷ r) = old_on m f a b (b ∷ r) r al o in
    record {
      force = λ n l. force_onto m f (a ∷ b ∷ r) o n l ∙ (ap (λ x. option_or x f) (force_replaced a (b ∷ r) n (lt-leb a.change b.lead late)) ∙ sym (force_onto m f (b ∷ r) p n l));
      come = λ n l. come_onto m f (a ∷ b ∷ r) o n l ∙ (ap (λ x. option_or x f) (latest_come a (b ∷ r) n (le_trans al (le_trans bl l)) ∙ (let e = latest_come b r n (le_trans bl l) in rw e (option_or_hides _ b (Some a)))) ∙ sym (come_onto m f (b ∷ r) p n l));
      end = end_onto f (a ∷ b ∷ r) ∙ (ap (λ x. option_or x f) (option_or_hides (last r) b (Some a)) ∙ sym (end_onto f (b ∷ r)));
    }

-- Of a pending command and an announced one, none is in force yet.
pub none_yet : (m : ℕ) (p x : Option Accepted) → IsWaiting m p → IsAhead m x → in_force (cons_some p (cons_some x [])) m ≡ None
none_yet m None None w h = refl
none_yet m None (Some b) w h = force_ahead b [] m h.1
none_yet m (Some a) None w h = force_ahead a [] m w.1
none_yet m (Some a) (Some b) w h = force_ahead a (b ∷ []) m w.1 ∙ force_ahead b [] m h.1

-- Of a pending command and an announced one, the pending one has come.
pub one_come : (m : ℕ) (p x : Option Accepted) → IsWaiting m p → IsAhead m x → latest (cons_some p (cons_some x [])) m ≡ p
one_come m None None w h = refl
one_come m None (Some b) w h = latest_ahead b [] m h.0
one_come m (Some a) None w h = latest_come a [] m w.0
one_come m (Some a) (Some b) w h = latest_come a (b ∷ []) m w.0 ∙ ap (λ x. option_or x (Some a)) (latest_ahead b [] m h.0)

-- Of the three commands that count, the first is in force at m.
pub settled_force : (m : ℕ) (f p x : Option Accepted) → IsSettled m f p x → in_force (three f p x) m ≡ f
settled_force m f p x s = force_onto m f _ s.old m (le_refl m) ∙ ap (λ y. option_or y f) (none_yet m p x s.waiting s.ahead)

-- The change moment of a command in force at m is not after m.
pub old_not_after : (m : ℕ) (f : Option Accepted) (r : List Accepted) → IsOld m f r → only_if (λ a. ltb m a.change) f ≡ None
old_not_after m None r o = refl
old_not_after m (Some a) r o = rw (le-ltb m a.change o.1)

-- The lead moment of a command in force at m is not after m.
pub old_not_ahead : (m : ℕ) (f : Option Accepted) (r : List Accepted) → IsOld m f r → only_if (λ a. ltb m a.lead) f ≡ None
old_not_ahead m None r o = refl
old_not_ahead m (Some a) r o = rw (le-ltb m a.lead o.0)

-- The latest command at m, where its change moment is still to come, is the pending one.
pub pending_two : (m : ℕ) (f p : Option Accepted) (r : List Accepted) → IsOld m f r → IsWaiting m p → only_if (λ a. ltb m a.change) (option_or p f) ≡ p
pending_two m f None r o w = old_not_after m f r o
pending_two m f (Some a) r o w = rw (lt-ltb m a.change w.1)

-- Of the three commands that count, the second is pending at m.
pub settled_pending : (m : ℕ) (f p x : Option Accepted) → IsSettled m f p x → pending (three f p x) m ≡ p
settled_pending m f p x s =
    ap (only_if (λ a. ltb m a.change)) (come_onto m f _ s.old m (le_refl m) ∙ ap (λ y. option_or y f) (one_come m p x s.waiting s.ahead))
    ∙ pending_two m f p _ s.old s.waiting

-- The last command, where its lead moment is still to come, is the announced one.
pub announced_three : (m : ℕ) (f p x : Option Accepted) (r : List Accepted) → IsOld m f r → IsWaiting m p → IsAhead m x → only_if (λ a. ltb m a.lead) (option_or (last (cons_some p (cons_some x []))) f) ≡ x
announced_three m f None None r o w h = old_not_ahead m f r o
announced_three m f None (Some b) r o w h = rw (lt-ltb m b.lead h.0)
announced_three m f (Some a) None r o w h = rw (le-ltb m a.lead w.0)
announced_three m f (Some a) (Some b) r o w h = rw (lt-ltb m b.lead h.0)

-- Of the three commands that count, the third is announced at m.
pub settled_announced : (m : ℕ) (f p x : Option Accepted) → IsSettled m f p x → announced (three f p x) m ≡ x
settled_announced m f p x s = ap (only_if (λ a. ltb m a.lead)) (end_onto f _) ∙ announced_three m f p x _ s.old s.waiting s.ahead

-- ---- what follows from the same answers

-- Histories that answer alike from m on have one pending command at each moment from m on.
pub same_pending : (m : ℕ) (h k : List Accepted) → SameFrom m h k → (n : ℕ) → m ≤ n → pending h n ≡ pending k n
same_pending m h k s n l = ap (only_if (λ a. ltb n a.change)) (s.come n l)

-- Histories that answer alike from m on have one announced command at each moment.
pub same_announced : (m : ℕ) (h k : List Accepted) → SameFrom m h k → (n : ℕ) → announced h n ≡ announced k n
same_announced m h k s n = ap (only_if (λ a. ltb n a.lead)) s.end

-- Histories that answer alike from m on have the same gates at each moment from m on.
pub same_gates : (m : ℕ) (h k : List Accepted) → SameFrom m h k → (n : ℕ) → m ≤ n → gates h n ≡ gates k n
same_gates m h k s n l =
    let now = s.force n l in
    let next = same_pending m h k s n l in
    ap (λ f. mask_under f (pending h n) n) now ∙ ap (λ p. mask_under (in_force k n) p n) next

-- Of histories that answer alike from m on, the same is kept at each moment from m on.
pub same_kept : (m : ℕ) (h k : List Accepted) → SameFrom m h k → (n : ℕ) → m ≤ n → kept h n ≡ kept k n
same_kept m h k s n l =
    let now = s.force n l in
    let next = same_pending m h k s n l in
    let later = same_announced m h k s n in
    ap (λ f. three f (pending h n) (announced h n)) now ∙ (ap (λ p. three (in_force k n) p (announced h n)) next ∙ ap (λ x. three (in_force k n) (pending k n) x) later)

-- By histories that answer alike from m on, a class is open for the same whiles from m on.
pub same_open_through : (m : ℕ) (h k : List Accepted) → SameFrom m h k → (class n d : ℕ) → m ≤ n → open_through h class n d ≡ open_through k class n d
same_open_through m h k s class n d l = same_while (gates h) (gates k) class n d (λ i from below. same_gates m h k s i (le_trans l from))

-- ---- every history settles

-- what is left at m of f and the commands r after it
pub record Parts (e m : ℕ) (f : Option Accepted) (r : List Accepted) : Type 0 where
  pub now : Option Accepted
  pub next : Option Accepted
  pub later : Option Accepted
  pub settled : IsSettled m now next later
  pub rising : IsRising e (three now next later)
  pub same : SameFrom m (cons_some f r) (three now next later)
  pub shown : left_at (stretches_from f r) m ≡ stretches_from now (cons_some next (cons_some later []))

-- A rising history is so after an earlier moment too.
pub rising_lower : (d e : ℕ) (r : List Accepted) → d ≤ e → IsRising e r → IsRising d r
rising_lower d e [] l s = tt
rising_lower d e (a ∷ r) l s = (omega arith, s.1, s.2)

-- A rising history stays so without a command before it.
pub rising_tail : (e : ℕ) (f : Option Accepted) (r : List Accepted) → IsRising e (cons_some f r) → IsRising e r
rising_tail e None r s = s
rising_tail e (Some a) r s = rising_lower e a.lead r (le_of_lt s.0) s.2

-- A rising history stays so without its second command.
pub rising_without : (e : ℕ) (f : Option Accepted) (a : Accepted) (r : List Accepted) → IsRising e (cons_some f (a ∷ r)) → IsRising e (cons_some f r)
rising_without e None a r s = rising_tail e (Some a) r s
rising_without e (Some g) a r s = (s.0, s.1, rising_tail g.lead (Some a) r s.2)

-- Where all commands but the last have come, this is so of the rest of the history too.
pub past_tail : (m : ℕ) (a : Accepted) (r : List Accepted) → ArePast m (a ∷ r) → ArePast m r
past_tail m a [] p = tt
past_tail m a (b ∷ r) p = p.1

-- Of the three commands that count at m, all but the last have come.
pub past_three : (m : ℕ) (f p x : Option Accepted) → IsSettled m f p x → ArePast m (three f p x)
past_three m None None None s = tt
past_three m None None (Some x) s = tt
past_three m None (Some p) None s = tt
past_three m None (Some p) (Some x) s = (s.waiting.0, tt)
past_three m (Some f) None None s = tt
past_three m (Some f) None (Some x) s = (s.old.0, tt)
past_three m (Some f) (Some p) None s = (s.old.0, tt)
past_three m (Some f) (Some p) (Some x) s = (s.old.0, (s.waiting.0, tt))

-- A command is awaited to its change moment at most.
pub awaited_le : (a : Accepted) (r : List Accepted) → awaited_to a r ≤ a.change
awaited_le a [] = le_refl a.change
awaited_le a (b ∷ r) = omega arith

-- Where the first command is awaited no longer at m, its stretch is left out.
pub first_over : (m : ℕ) (f : Option Accepted) (a : Accepted) (r : List Accepted) → awaited_to a r ≤ m → left_at (stretches_from f (a ∷ r)) m ≡ left_at (stretches_from (cond (is_in_time a r) (Some a) f) r) m
first_over m f a r l = rw (le-leb (awaited_to a r) m l)

-- Where the first command is still awaited at m, all stretches are left.
pub first_left : (m : ℕ) (f : Option Accepted) (a : Accepted) (r : List Accepted) → m < awaited_to a r → left_at (stretches_from f (a ∷ r)) m ≡ stretches_from f (a ∷ r)
first_left m f a r l = rw (lt-leb (awaited_to a r) m l)

-- what the rest of a history gives, for any command in force before it
abbrev pub Settles : ℕ → ℕ → List Accepted → Type 0
Settles e m r = (f : Option Accepted) → IsOld m f r → IsRising e (cons_some f r) → ArePast m r → Parts e m f r

-- The empty history comes down to three commands.
pub settle_nil : (e m : ℕ) → Settles e m []
settle_nil e m f o s p = record { now = f; next = None; later = None; settled = record { old = o; waiting = tt; ahead = tt }; rising = s; same = same_refl m _; shown = refl }

-- a is in force at m
pub settle_begun : (e m : ℕ) (a : Accepted) (r : List Accepted) → Settles e m r → a.change ≤ m → is_in_time a r ≡ true → Settles e m (a ∷ r)
settle_begun e m a r ih c t f o s p =
    let up : IsRising e (a ∷ r) = rising_tail e f (a ∷ r) s in
    let old : IsOld m (Some a) r = (le_trans (up.1).timely c, c, t) in
    let rest = ih (Some a) old up (past_tail m a r p) in
    let over = first_over m f a r (le_trans (awaited_le a r) c) ∙ ap (λ b. left_at (stretches_from (cond b (Some a) f) r) m) t in
    record { now = rest.now; next = rest.next; later = rest.later; settled = rest.settled; rising = rest.rising; same = same_trans m _ _ _ (step_in_force m f a r o old) rest.same; shown = over ∙ rest.shown }

-- a is replaced by b
pub settle_replaced : (e m : ℕ) (a b : Accepted) (r : List Accepted) → Settles e m (b ∷ r) → b.lead ≤ m → b.lead < a.change → Settles e m (a ∷ b ∷ r)
settle_replaced e m a b r ih l late f o s p =
    let up : IsRising e (a ∷ b ∷ r) = rising_tail e f (a ∷ b ∷ r) s in
    let before : a.lead ≤ b.lead = le_of_lt (up.2).0 in
    let over = first_over m f a (b ∷ r) (omega arith) ∙ ap (λ t. left_at (stretches_from (cond t (Some a) f) (b ∷ r)) m) (lt-leb a.change b.lead late) in
    let rest = ih f (old_on m f a b (b ∷ r) r before o) (rising_without e f a (b ∷ r) s) p.1 in
    record { now = rest.now; next = rest.next; later = rest.later; settled = rest.settled; rising = rest.rising; same = same_trans m _ _ _ (step_replaced m f a b r o before l late) rest.same; shown = over ∙ rest.shown }

-- A history of one command whose change moment is to come comes down to three commands.
pub settle_last : (e m : ℕ) (a : Accepted) → m < a.change → Settles e m (a ∷ [])
settle_last e m a c f o s p =
    elim (cases_lt m a.lead) [
      | inl l ↦ record { now = f; next = None; later = Some a; settled = record { old = o; waiting = tt; ahead = (l, c) }; rising = s; same = same_refl m _; shown = first_left m f a [] c }
      | inr l ↦ record { now = f; next = Some a; later = None; settled = record { old = o; waiting = (l, c); ahead = tt }; rising = s; same = same_refl m _; shown = first_left m f a [] c }
    ]

-- A history whose first change moment and second lead moment are to come comes down to three commands.
pub settle_two : (e m : ℕ) (a b : Accepted) (r : List Accepted) → m < a.change → m < b.lead → Settles e m (a ∷ b ∷ r)
settle_two e m a b [] c l f o s p =
    let up : IsRising e (a ∷ b ∷ []) = rising_tail e f (a ∷ b ∷ []) s in
    let ahead : m < b.change = lt_of_lt_of_le l ((up.2).1).timely in
    record { now = f; next = Some a; later = Some b; settled = record { old = o; waiting = (p.0, c); ahead = (l, ahead) }; rising = s; same = same_refl m _; shown = first_left m f a (b ∷ []) (omega arith) }
settle_two e m a b (d ∷ r) c l f o s p = absurd (let q : b.lead ≤ m = (p.1).0 in omega arith)

-- A history whose first command waits comes down to three commands where its rest does.
pub settle_waits : (e m : ℕ) (a : Accepted) (r : List Accepted) → Settles e m r → m < a.change → Settles e m (a ∷ r)
settle_waits e m a [] ih c f o s p = settle_last e m a c f o s p
settle_waits e m a (b ∷ r) ih c f o s p =
    elim (cases_lt m b.lead) [
      | inl l ↦ settle_two e m a b r c l f o s p
      | inr l ↦ settle_replaced e m a b r ih l (lt_of_le_of_lt l c) f o s p
    ]

-- A history whose first command was replaced comes down to three commands where its rest does.
pub settle_late : (e m : ℕ) (a : Accepted) (r : List Accepted) → Settles e m r → a.change ≤ m → is_in_time a r ≡ false → Settles e m (a ∷ r)
settle_late e m a [] ih c t f o s p = absurd (false≢true (sym t))
settle_late e m a (b ∷ r) ih c t f o s p =
    let late : b.lead < a.change = leb-false a.change b.lead t in
    settle_replaced e m a b r ih (le_trans (le_of_lt late) c) late f o s p

-- A history with one command more comes down to three commands where its rest does.
pub settle_more : (e m : ℕ) (a : Accepted) (r : List Accepted) → Settles e m r → Settles e m (a ∷ r)
settle_more e m a r ih f o s p =
    elim (cases_lt m a.change) [
      | inl c ↦ settle_waits e m a r ih c f o s p
      | inr c ↦ elim (cases_Bool (is_in_time a r)) [
        | inl t ↦ settle_begun e m a r ih c t f o s p
        | inr t ↦ settle_late e m a r ih c t f o s p
      ]
    ]

-- At each moment every history comes down to three commands.
pub settle : (e m : ℕ) (r : List Accepted) → Settles e m r
settle e m [] = settle_nil e m
settle e m (a ∷ r) = settle_more e m a r (settle e m r)

-- the three commands that a history comes down to at m, by which it answers alike from m on
pub parts_of : (e m : ℕ) (h : List Accepted) → IsRising e h → ArePast m h → Parts e m None h
parts_of e m h s p = settle e m h None tt s p

-- ---- the kept law

module _ (e m : ℕ) (h : List Accepted) (s : IsRising e h) (p : ArePast m h) where
  -- The first of the three is the command in force.
  pub the_force : in_force h m ≡ (parts_of e m h s p).now
  the_force = let q = parts_of e m h s p in (q.same).force m (le_refl m) ∙ settled_force m q.now q.next q.later q.settled

  -- The second of the three is the pending command.
  pub the_pending : pending h m ≡ (parts_of e m h s p).next
  the_pending = let q = parts_of e m h s p in ap (only_if (λ a. ltb m a.change)) ((q.same).come m (le_refl m)) ∙ settled_pending m q.now q.next q.later q.settled

  -- The third of the three is the announced command.
  pub the_announced : announced h m ≡ (parts_of e m h s p).later
  the_announced = let q = parts_of e m h s p in ap (only_if (λ a. ltb m a.lead)) (q.same).end ∙ settled_announced m q.now q.next q.later q.settled

  -- What is kept at m are the three commands.
  pub kept_is : kept h m ≡ three (parts_of e m h s p).now (parts_of e m h s p).next (parts_of e m h s p).later
  kept_is = rw (the_force, the_pending, the_announced)

  -- What is kept at m answers like the whole history from m on.
  pub kept_same : SameFrom m (kept h m) h
  kept_same = subst (λ k. SameFrom m k h) (sym kept_is) (same_sym m _ _ (parts_of e m h s p).same)

  -- What is kept is a rising history.
  pub kept_rising : IsRising e (kept h m)
  kept_rising = subst (IsRising e) (sym kept_is) (parts_of e m h s p).rising

  -- Of what is kept at m, all commands but the last have come.
  pub kept_past : ArePast m (kept h m)
  kept_past = let q = parts_of e m h s p in subst (ArePast m) (sym kept_is) (past_three m q.now q.next q.later q.settled)

  -- From m on the command in force is that of what is kept at m.
  pub kept_force : (n : ℕ) → m ≤ n → in_force (kept h m) n ≡ in_force h n
  kept_force n l = kept_same.force n l

  -- From m on the pending command is that of what is kept at m.
  pub kept_pending : (n : ℕ) → m ≤ n → pending (kept h m) n ≡ pending h n
  kept_pending n l = same_pending m _ _ kept_same n l

  -- The announced command is that of what is kept at m.
  pub kept_announced : (n : ℕ) → announced (kept h m) n ≡ announced h n
  kept_announced n = same_announced m _ _ kept_same n

  -- From m on the gates are those of what is kept at m.
  pub kept_gates : (n : ℕ) → m ≤ n → gates (kept h m) n ≡ gates h n
  kept_gates n l = same_gates m _ _ kept_same n l

  -- From m on a class is open for the same whiles by what is kept at m.
  pub kept_open_through : (class n d : ℕ) → m ≤ n → open_through (kept h m) class n d ≡ open_through h class n d
  kept_open_through class n d l = same_open_through m _ _ kept_same class n d l

  -- What is kept at m keeps at a later moment what the whole history keeps then.
  pub kept_kept : (n : ℕ) → m ≤ n → kept (kept h m) n ≡ kept h n
  kept_kept n l = same_kept m _ _ kept_same n l

-- ---- a new command

-- The lead moment of a command that is not announced has come.
pub only_none : (m : ℕ) (a : Accepted) → only_if (λ x. ltb m x.lead) (Some a) ≡ None → a.lead ≤ m
only_none m a q =
    elim (cases_lt m a.lead) [
      | inl l ↦ absurd (let t : Some a ≡ None = ap (λ b. cond b (Some a) None) (sym (lt-ltb m a.lead l)) ∙ q in cc)
      | inr l ↦ l
    ]

-- every lead moment has come by m
abbrev pub AreCome : ℕ → List Accepted → Type 0
AreCome m [] = Unit {0}
AreCome m (a ∷ rest) = (a.lead ≤ m) × AreCome m rest

-- Where no command is announced at m, all have come.
pub come_from : (m : ℕ) (h : List Accepted) → ArePast m h → announced h m ≡ None → AreCome m h
come_from m [] p q = tt
come_from m (a ∷ []) p q = (only_none m a q, tt)
come_from m (a ∷ b ∷ r) p q = (p.0, come_from m (b ∷ r) p.1 (ap (only_if (λ x. ltb m x.lead)) (sym (option_or_hides (last r) b (Some a))) ∙ q))

module _ (x : Accepted) (n : ℕ) (ahead : n < x.lead) (timely : x.lead ≤ x.change) where
  -- A command that is appended is not in force before its lead moment.
  pub push_force : (h : List Accepted) → in_force (h ++ x ∷ []) n ≡ in_force h n
  push_force [] = force_ahead x [] n (lt_of_lt_of_le ahead timely)
  push_force (a ∷ []) =
      let none : in_force (x ∷ []) n ≡ None = force_ahead x [] n (lt_of_lt_of_le ahead timely) in
      elim (cases_lt n a.change) [
        | inl c ↦ force_ahead a (x ∷ []) n c ∙ (none ∙ sym (force_ahead a [] n c))
        | inr c ↦ force_begun a (x ∷ []) n c (le-leb a.change x.lead (omega arith)) ∙ (ap (λ y. option_or y (Some a)) none ∙ sym (force_begun a [] n c refl))
      ]
  push_force (a ∷ b ∷ r) =
      ap (λ y. option_or y (cond (leb a.change n && leb a.change b.lead) (Some a) None)) (push_force (b ∷ r))

  -- A command that is appended is not the latest before its lead moment.
  pub push_come : (h : List Accepted) → latest (h ++ x ∷ []) n ≡ latest h n
  push_come h = ap last (go h)
    where
      go : (h : List Accepted) → filter (λ a. leb a.lead n) (h ++ x ∷ []) ≡ filter (λ a. leb a.lead n) h
      go [] = rw (lt-leb x.lead n ahead)
      go (a ∷ r) = ap (λ s. cond (leb a.lead n) (a ∷ s) s) (go r)

  -- A command that is appended is not pending before its lead moment.
  pub push_pending : (h : List Accepted) → pending (h ++ x ∷ []) n ≡ pending h n
  push_pending h = ap (only_if (λ a. ltb n a.change)) (push_come h)

  -- hindsight: a command changes no gate before its lead moment
  pub push_gates : (h : List Accepted) → gates (h ++ x ∷ []) n ≡ gates h n
  push_gates h =
      ap (λ f. mask_under f (pending (h ++ x ∷ []) n) n) (push_force h) ∙ ap (λ p. mask_under (in_force h n) p n) (push_pending h)

-- A command that is appended is the last one.
pub push_last : (x : Accepted) (h : List Accepted) → last (h ++ x ∷ []) ≡ Some x
push_last x [] = refl
push_last x (a ∷ r) = ap (λ y. option_or y (Some a)) (push_last x r)

-- A command that is appended doesn't change whether a class is open up to its lead moment.
pub push_open_through : (x : Accepted) (h : List Accepted) (class n d : ℕ) → x.lead ≤ x.change → n + d ≤ x.lead → open_through (h ++ x ∷ []) class n d ≡ open_through h class n d
push_open_through x h class n d timely l = same_while (gates (h ++ x ∷ [])) (gates h) class n d (λ i from below. push_gates x i (lt_of_lt_of_le below l) timely h)

-- Where all commands have come and one is appended, all but the last have come.
pub push_past : (m : ℕ) (x : Accepted) (h : List Accepted) → AreCome m h → ArePast m (h ++ x ∷ [])
push_past m x [] c = tt
push_past m x (a ∷ []) c = (c.0, tt)
push_past m x (a ∷ b ∷ r) c = (c.0, push_past m x (b ∷ r) c.1)

-- A sound command whose lead moment is to come, appended to a rising history whose commands have come, leaves it rising.
pub push_rising : (e m : ℕ) (x : Accepted) (h : List Accepted) → e ≤ m → m < x.lead → IsSound x → AreCome m h → IsRising e h → IsRising e (h ++ x ∷ [])
push_rising e m x [] l ahead sound c s = (lt_of_le_of_lt l ahead, sound, tt)
push_rising e m x (a ∷ r) l ahead sound c s = (s.0, s.1, push_rising a.lead m x r c.0 ahead sound c.1 s.2)

-- The announced command stands at the end of the three.
pub cons_some_push : (f p : Option Accepted) (x : Accepted) → three f p (Some x) ≡ cons_some f (cons_some p []) ++ x ∷ []
cons_some_push None None x = refl
cons_some_push None (Some p) x = refl
cons_some_push (Some f) None x = refl
cons_some_push (Some f) (Some p) x = refl

-- x is a new command at m, where nothing is announced
module _ (e m : ℕ) (h : List Accepted) (s : IsRising e h) (p : ArePast m h) (quiet : announced h m ≡ None)
    (x : Accepted) (start : e ≤ m) (ahead : m < x.lead) (sound : IsSound x) where
  -- A history with the accepted command at its end is rising.
  pub append_rising : IsRising e (h ++ x ∷ [])
  append_rising = push_rising e m x h start ahead sound (come_from m h p quiet) s

  -- Of a history with the accepted command at its end, all but the last have come.
  pub append_past : ArePast m (h ++ x ∷ [])
  append_past = push_past m x h (come_from m h p quiet)

  -- What is kept with the accepted command is what was kept, and that command.
  pub append_kept : kept (h ++ x ∷ []) m ≡ kept h m ++ x ∷ []
  append_kept =
      let now = push_force x m ahead sound.timely h in
      let next = push_pending x m ahead sound.timely h in
      let later : announced (h ++ x ∷ []) m ≡ Some x = ap (only_if (λ a. ltb m a.lead)) (push_last x h) ∙ (rw (lt-ltb m x.lead ahead)) in
      ap (λ f. three f (pending (h ++ x ∷ []) m) (announced (h ++ x ∷ []) m)) now
      ∙ (ap (λ q. three (in_force h m) q (announced (h ++ x ∷ []) m)) next
      ∙ (ap (λ y. three (in_force h m) (pending h m) y) later
      ∙ (cons_some_push (in_force h m) (pending h m) x
      ∙ ap (λ y. three (in_force h m) (pending h m) y ++ x ∷ []) (sym quiet))))

  -- What is kept, with the accepted command at its end, answers like the whole history with it from m on.
  pub append_same : SameFrom m (kept h m ++ x ∷ []) (h ++ x ∷ [])
  append_same = subst (λ k. SameFrom m k (h ++ x ∷ [])) append_kept (kept_same e m (h ++ x ∷ []) append_rising append_past)

  -- From m on the command in force is that of what is kept, with the accepted command at its end.
  pub append_force : (n : ℕ) → m ≤ n → in_force (kept h m ++ x ∷ []) n ≡ in_force (h ++ x ∷ []) n
  append_force n l = append_same.force n l

  -- From m on the pending command is that of what is kept, with the accepted command at its end.
  pub append_pending : (n : ℕ) → m ≤ n → pending (kept h m ++ x ∷ []) n ≡ pending (h ++ x ∷ []) n
  append_pending n l = same_pending m _ _ append_same n l

  -- The announced command is that of what is kept, with the accepted command at its end.
  pub append_announced : (n : ℕ) → announced (kept h m ++ x ∷ []) n ≡ announced (h ++ x ∷ []) n
  append_announced n = same_announced m _ _ append_same n

  -- From m on the gates are those of what is kept, with the accepted command at its end.
  pub append_gates : (n : ℕ) → m ≤ n → gates (kept h m ++ x ∷ []) n ≡ gates (h ++ x ∷ []) n
  append_gates n l = same_gates m _ _ append_same n l

-- ---- later commands

pub append_again : (x : Accepted) (h r : List Accepted) → h ++ x ∷ r ≡ (h ++ x ∷ []) ++ r
append_again x h r = sym (append_assoc h (x ∷ []) r)

-- hindsight, for any commands whose lead moments are to come
pub further_gates : (n : ℕ) (h r : List Accepted) → IsRising n r → gates (h ++ r) n ≡ gates h n
further_gates n h [] s = ap (λ k. gates k n) (append-nil h)
further_gates n h (x ∷ r) s =
    ap (λ k. gates k n) (append_again x h r)
    ∙ (further_gates n (h ++ x ∷ []) r (rising_lower n x.lead r (le_of_lt s.0) s.2) ∙ push_gates x n s.0 (s.1).timely h)

-- Commands with later lead moments don't change whether a class is open up to the first of those.
pub further_open_through : (e : ℕ) (h r : List Accepted) (class n d : ℕ) → IsRising e r → n + d ≤ e + 1 → open_through (h ++ r) class n d ≡ open_through h class n d
further_open_through e h r class n d s l =
    same_while (gates (h ++ r)) (gates h) class n d (λ i from below. further_gates i h r (rising_lower i e r (omega arith) s))

-- a deletion is never pending
pub pending_planned : (e m : ℕ) (h : List Accepted) → IsRising e h → ArePast m h → (a : Accepted) → pending h m ≡ Some a → a.plan ≢ None
pending_planned e m h s p a e1 none =
    let q = parts_of e m h s p in
    next_planned q.now q.next q.later a e q.rising (q.settled).waiting (sym (the_pending e m h s p) ∙ e1) none
  where
    sound_next : (f : Option Accepted) (b : Accepted) (x : Option Accepted) (e : ℕ) → IsRising e (three f (Some b) x) → IsSound b
    sound_next None b x e s = s.1
    sound_next (Some f) b x e s = (s.2).1

    planned : (b : Accepted) → IsSound b → b.lead ≤ m → m < b.change → b.plan ≡ None → ⊥
    planned b sound come ahead none =
        let P : Option Plan → Type 0 = λ p. MatchOption p (b.change ≡ b.lead) (λ plan. 0 < plan.cycle) in
        let at : b.change ≡ b.lead = subst P none sound.planned in
        omega arith

    next_planned : (f next x : Option Accepted) (a : Accepted) (e : ℕ) → IsRising e (three f next x) → IsWaiting m next → next ≡ Some a → a.plan ≡ None → ⊥
    next_planned f None x a e s w at none = cc
    next_planned f (Some b) x a e s w at none =
        let same : b ≡ a = same_Some b a at in
        planned b (sound_next f b x e s) w.0 w.1 (ap (λ c. c.plan) same ∙ none)

-- ---- for a type that holds the three commands

-- The commands in force, pending and announced at m are three commands that count.
pub settled_at : (e m : ℕ) (h : List Accepted) → IsRising e h → ArePast m h → IsSettled m (in_force h m) (pending h m) (announced h m)
settled_at e m h s p =
    let q = parts_of e m h s p in
    subst (λ f. IsSettled m f (pending h m) (announced h m)) (sym (the_force e m h s p))
    (subst (λ n. IsSettled m q.now n (announced h m)) (sym (the_pending e m h s p))
    (subst (λ x. IsSettled m q.now q.next x) (sym (the_announced e m h s p)) q.settled))

-- what is settled is all kept
pub settled_kept : (m : ℕ) (f p x : Option Accepted) → IsSettled m f p x → kept (three f p x) m ≡ three f p x
settled_kept m f p x s =
    ap (λ g. three g (pending (three f p x) m) (announced (three f p x) m)) (settled_force m f p x s)
    ∙ (ap (λ q. three f q (announced (three f p x) m)) (settled_pending m f p x s)
    ∙ ap (λ y. three f p y) (settled_announced m f p x s))

-- the three at a later moment
pub three_force : (m : ℕ) (f p x : Option Accepted) → IsSettled m f p x → (n : ℕ) → m ≤ n → in_force (three f p x) n ≡ option_or (only_if (λ a. leb a.change n) x) (option_or (only_if (λ a. leb a.change n && is_in_time a (cons_some x [])) p) f)
three_force m f p x s n l = force_onto m f _ s.old n l ∙ two p x
  where
    two : (p x : Option Accepted) → option_or (in_force (cons_some p (cons_some x [])) n) f ≡ option_or (only_if (λ a. leb a.change n) x) (option_or (only_if (λ a. leb a.change n && is_in_time a (cons_some x [])) p) f)
    two None None = refl
    two None (Some b) = ap (λ t. option_or (cond t (Some b) None) f) (and-true (leb b.change n))
    two (Some a) None = refl
    two (Some a) (Some b) =
        ap (λ t. option_or (option_or (cond t (Some b) None) (cond (leb a.change n && leb a.change b.lead) (Some a) None)) f) (and-true (leb b.change n))
        ∙ option_or_assoc (cond (leb b.change n) (Some b) None) (cond (leb a.change n && leb a.change b.lead) (Some a) None) f

-- The latest of the three commands from m on, by which of them has come.
pub three_latest : (m : ℕ) (f p x : Option Accepted) → IsSettled m f p x → (n : ℕ) → m ≤ n → latest (three f p x) n ≡ option_or (only_if (λ a. leb a.lead n) x) (option_or p f)
three_latest m f p x s n l = come_onto m f _ s.old n l ∙ two p x s.waiting
  where
    one : (x : Option Accepted) → latest (cons_some x []) n ≡ only_if (λ a. leb a.lead n) x
    one None = refl
    one (Some b) = push (leb b.lead n)
      where
        push : (t : Bool) → last (cond t (b ∷ []) []) ≡ cond t (Some b) None
        push true = refl
        push false = refl

    two : (p x : Option Accepted) → IsWaiting m p → option_or (latest (cons_some p (cons_some x [])) n) f ≡ option_or (only_if (λ a. leb a.lead n) x) (option_or p f)
    two None x w = ap (λ y. option_or y f) (one x)
    two (Some a) x w =
        ap (λ y. option_or y f) (latest_come a (cons_some x []) n (le_trans w.0 l) ∙ ap (λ y. option_or y (Some a)) (one x))
        ∙ option_or_assoc (only_if (λ a. leb a.lead n) x) (Some a) f

-- the pending one is the announced one, where its lead moment has come, or the one pending before
pub three_pending : (m : ℕ) (f p x : Option Accepted) → IsSettled m f p x → (n : ℕ) → m ≤ n → pending (three f p x) n ≡ only_if (λ a. ltb n a.change) (option_or (only_if (λ a. leb a.lead n) x) (option_or p f))
three_pending m f p x s n l = ap (only_if (λ a. ltb n a.change)) (three_latest m f p x s n l)

-- Of the three commands, only the third can be announced from m on.
pub three_announced : (m : ℕ) (f p x : Option Accepted) → IsSettled m f p x → (n : ℕ) → m ≤ n → announced (three f p x) n ≡ only_if (λ a. ltb n a.lead) x
three_announced m f p x s n l = ap (only_if (λ a. ltb n a.lead)) (end_onto f _) ∙ two p x s.waiting
  where
    old : (f : Option Accepted) (r : List Accepted) → IsOld m f r → only_if (λ a. ltb n a.lead) f ≡ None
    old None r o = refl
    old (Some a) r o = rw (le-ltb n a.lead (le_trans o.0 l))

    two : (p x : Option Accepted) → IsWaiting m p → only_if (λ a. ltb n a.lead) (option_or (last (cons_some p (cons_some x []))) f) ≡ only_if (λ a. ltb n a.lead) x
    two None None w = old f _ s.old
    two None (Some b) w = refl
    two (Some a) None w = rw (le-ltb n a.lead (le_trans w.0 l))
    two (Some a) (Some b) w = refl
