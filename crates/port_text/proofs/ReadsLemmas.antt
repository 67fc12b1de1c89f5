-- Reading one option more.
use Rattle.std.proofs.Common.{◌≡◌, ℕ, ◌+◌, ◌-◌, Bool, cond, List, [], ◌∷◌, ◌++◌, length, take, None, Some, Result, Ok, Err, refl, sym, ap, subst, ◌∙◌, append_assoc, append-nil}
use Rattle.std.specs.Prelude.{fold, is_some, option_map}
use Rattle.std.specs.declared.option.Option.{Option}
use Rattle.port_text.specs.Words.{Entry, Opt, Dev, Parent, Handle, NumTc, Map, Queues, BaseTime, CycleTime, CycleTimeExtension, SchedEntry, Clockid, Flags, TxtimeDelay, MaxSdu, Fp, TcFault, KEPT_PRIORITIES, KEPT_RANGES, KEPT_ENTRIES, CLASSES, Word, ◌>>=◌, Item, num_tc, priorities, ranges, base_time, cycle_time, extension, sched_entry, clock, flags, limits, Options, no_options, with_item, is_given, allowed, values_at, item_at, is_unsupported, option_named, capped, Reads, SoFar, given_by}
use Rattle.port_text.specs.declared.tc_reader.fault.TcFault.TheVariants as faults
use Rattle.port_text.specs.Capped.{TakesOne, capped_with, with_read}
use Rattle.port_text.proofs.RunLemmas.{take-push, ok_is}

-- ---- what is capped says what was given

is_some-map : {X Y : Type 0} (f : X → Y) (o : Option X) → is_some (option_map f o) ≡ is_some o
is_some-map f None = refl
is_some-map f (Some x) = refl

is_given-capped : (g : Options) (o : Opt) → is_given (capped g) o ≡ is_given g o
is_given-capped g Dev = refl
is_given-capped g Parent = refl
is_given-capped g Handle = refl
is_given-capped g NumTc = refl
is_given-capped g Map = is_some-map (take KEPT_PRIORITIES) g.priorities
is_given-capped g Queues = is_some-map (take KEPT_RANGES) g.ranges
is_given-capped g BaseTime = refl
is_given-capped g CycleTime = refl
is_given-capped g CycleTimeExtension = refl
is_given-capped g SchedEntry = refl
is_given-capped g Clockid = refl
is_given-capped g Flags = refl
is_given-capped g TxtimeDelay = refl
is_given-capped g MaxSdu = is_some-map (take CLASSES) g.limits
is_given-capped g Fp = refl

allowed-capped : (g : Options) (place : ℕ) (o : Option Opt) → allowed (capped g) place o ≡ allowed g place o
allowed-capped g place None = refl
allowed-capped g place (Some opt) = ap (λ (b : Bool). cond (is_unsupported opt) (Err (faults.Unsupported opt)) (cond b (Err (faults.Repeated opt)) (Ok opt))) (is_given-capped g opt)

item_at-capped : (g : Options) (place : ℕ) (w : Word) (ws : List Word) → item_at (capped g) place w ws ≡ item_at g place w ws
unfolding item_at
item_at-capped g place w ws = ap (λ r. r >>= λ opt. values_at opt (place + 1) ws) (allowed-capped g place (option_named w))

capped_with-capped : (g : Options) (i : Item) → capped_with (capped g) i ≡ capped (with_item g i)
capped_with-capped g (num_tc n) = refl
capped_with-capped g (priorities ns) = refl
capped_with-capped g (ranges rs) = refl
capped_with-capped g (base_time n) = refl
capped_with-capped g (cycle_time n) = refl
capped_with-capped g (extension n) = refl
capped_with-capped g (sched_entry mask interval) = ap (λ (es : List Entry). record (capped g) { entries = es }) (take-push KEPT_ENTRIES g.entries (record { mask = mask; interval = interval }))
capped_with-capped g clock = refl
capped_with-capped g (flags n) = refl
capped_with-capped g (limits ns) = refl

-- ---- one option more

given_by-push : (items : List Item) (i : Item) → given_by (items ++ i ∷ []) ≡ with_item (given_by items) i
given_by-push items i = pushed no_options items
  where
    pushed : (g : Options) (items : List Item) → fold with_item g (items ++ i ∷ []) ≡ with_item (fold with_item g items) i
    pushed g [] = refl
    pushed g (j ∷ items) = pushed (with_item g j) items

pub SoFar-begin : (count : ℕ) (start : List Word) (have : Options) → have ≡ no_options → SoFar count start start have
SoFar-begin count start have e = record { items = []; have_is = e; rest_reads = λ more end r. r }

with_read-ok : (g : Options) (read : Result (Item × List Word) TcFault) (new : Options) (rest : List Word) → with_read g read ≡ Ok (new, rest) → (i : Item) × (read ≡ Ok (i, rest)) × (new ≡ capped_with g i)
with_read-ok g (Ok x) new rest e =
    let p = ok_is (capped_with g x.0, x.1) (new, rest) e in
    (x.0, ap (λ (ws : List Word). Ok (x.0, ws)) (ap (λ (q : Options × List Word). q.1) p), sym (ap (λ (q : Options × List Word). q.0) p))
with_read-ok g (Err f) new rest e = absurd cc

SoFar-more : (count : ℕ) (start : List Word) (w : Word) (ws rest : List Word) (have new : Options) (place : ℕ)
    → SoFar count start (w ∷ ws) have → place ≡ count - length (w ∷ ws) → with_read have (item_at have place w ws) ≡ Ok (new, rest) → SoFar count start rest new
SoFar-more count start w ws rest have new place was at took =
    let k = with_read-ok have (item_at have place w ws) new rest took in
    let g = given_by was.items in
    let i = k.0 in
    let stands : item_at g (count - length (w ∷ ws)) w ws ≡ Ok (i, rest) = rw (← at) (sym (item_at-capped g place w ws) ∙ ap (λ (h : Options). item_at h place w ws) (sym was.have_is) ∙ k.1) in
    record {
      items = was.items ++ i ∷ [];
      have_is = k.2 ∙ ap (λ (h : Options). capped_with h i) was.have_is ∙ capped_with-capped g i ∙ ap capped (sym (given_by-push was.items i));
      rest_reads = λ more end r.
          let one : Reads (with_item g i) count rest more end = subst (λ (h : Options). Reads h count rest more end) (given_by-push was.items i) r in
          subst (λ (is : List Item). Reads no_options count start is end) (sym (append_assoc was.items (i ∷ []) more)) (was.rest_reads (i ∷ more) end (rest, stands, one));
    }

pub SoFar-took : (count : ℕ) (start left rest : List Word) (have new : Options) (place : ℕ) → TakesOne have place left new rest → place ≡ count - length left → SoFar count start left have → SoFar count start rest new
SoFar-took count start left rest have new place (w, ws, is, took) at was =
    SoFar-more count start w ws rest have new place (subst (λ v. SoFar count start v have) is was) (at ∙ ap (λ (v : List Word). count - length v) is) took

pub SoFar-fault : (count : ℕ) (start : List Word) (w : Word) (ws : List Word) (have : Options) (place : ℕ) (f : TcFault)
    → SoFar count start (w ∷ ws) have → place ≡ count - length (w ∷ ws) → item_at have place w ws ≡ Err f → (items : List Item) × Reads no_options count start items (Some f)
SoFar-fault count start w ws have place f was at failed =
    let g = given_by was.items in
    let stands : item_at g (count - length (w ∷ ws)) w ws ≡ Err f = rw (← at) (sym (item_at-capped g place w ws) ∙ ap (λ (h : Options). item_at h place w ws) (sym was.have_is) ∙ failed) in
    (was.items ++ [], was.rest_reads [] (Some f) (f, refl, stands))

pub SoFar-end : (count : ℕ) (start : List Word) (have : Options) → SoFar count start [] have → (items : List Item) × Reads no_options count start items None × (have ≡ capped (given_by items))
SoFar-end count start have was = (was.items, subst (λ (is : List Item). Reads no_options count start is None) (append-nil was.items) (was.rest_reads [] None refl), was.have_is)
