-- What is capped of the options gives the same in the end.
use Rattle.std.proofs.Common.{◌≡◌, ℕ, ◌≤◌, Bool, true, false, cond, eqb, ltb, List, length, take, replicate, ◌++◌, ◌-◌, None, Some, Result, Err, refl, sym, ap, ◌∙◌, arith, inl, inr}
use Rattle.std.specs.Prelude.{option_map, ◌||◌, not}
use Rattle.std.specs.declared.option.Option.{Option}
use Rattle.std.proofs.lemmas.Bool.{cases_lt, lt-ltb, ltb-false, eqb-true, ne_eqb}
use Rattle.std.proofs.lemmas.List.{take_all, take-take, length-take}
use Rattle.abstract_port.specs.Map.{map_unless, map_of}
use Rattle.abstract_port.specs.Ranges.{queues_unless, queues_of}
use Rattle.abstract_port.specs.declared.class_map.MapFault.{MapFault}
use Rattle.abstract_port.specs.declared.class_map.MapFault.TheVariants.{BadClassCount, TooManyPriorities}
use Rattle.abstract_port.specs.declared.class_map.QueueFault.{QueueFault}
use Rattle.abstract_port.specs.declared.class_map.QueueFault.TheVariants.{QueueCount}
use Rattle.port_text.specs.Words.{Entry, TcFault, KEPT_PRIORITIES, KEPT_RANGES, KEPT_ENTRIES, CLASSES, Options, capped, ranges_of, classes_of, eight_limits, change_given}
use Rattle.gates.specs.declared.gate_list.GateFault.TheVariants.{TooManyEntries}
use Rattle.port_text.specs.declared.tc_reader.fault.TcFault.TheVariants as faults
use Rattle.wire_time.specs.declared.TheConstants.{PRIORITIES}
use Rattle.gates.specs.declared.gate_list.TheConstants.{MAX_ENTRIES}
use Rattle.port_text.specs.Ends.{list_given}

-- what a list gives, of which more than a few elements all give the same
by_cap : {X R : Type 0} (cap : ℕ) (f : List X → R) (xs : List X) (r : R) → ((ys : List X) → cap ≤ length ys → f ys ≡ r) → f (take cap xs) ≡ f xs
by_cap cap f xs r long = elim (cases_lt (length xs) cap) [
  | inl lt ↦ ap f (take_all cap xs (omega arith))
  | inr ge ↦ long (take cap xs) (omega (arith, length-take cap xs)) ∙ sym (long xs ge)
]

-- ---- a map

map_long : (n : ℕ) (ys : List ℕ) → KEPT_PRIORITIES ≤ length ys → map_of n ys ≡ cond (eqb n 0 || ltb CLASSES n) (Err BadClassCount) (Err TooManyPriorities)
map_long n ys long = by_test (eqb n 0 || ltb CLASSES n) (ltb PRIORITIES (length ys)) (lt-ltb PRIORITIES (length ys) (omega arith)) _
  where
    by_test : (b t : Bool) → t ≡ true → (o : Option MapFault) → map_unless (cond b (Some BadClassCount) (cond t (Some TooManyPriorities) o)) n ys ≡ cond b (Err BadClassCount) (Err TooManyPriorities)
    by_test true t e o = refl
    by_test false true e o = refl
    by_test false false e o = absurd cc

map_of-take : (n : ℕ) (ns : List ℕ) → map_of n (take KEPT_PRIORITIES ns) ≡ map_of n ns
map_of-take n ns = by_cap KEPT_PRIORITIES (map_of n) ns _ (map_long n)

-- ---- ranges

queues_long : (n : ℕ) (ys : List (ℕ × ℕ)) → KEPT_RANGES ≤ length ys → queues_of n ys ≡ Err QueueCount
queues_long n ys long = by_test (eqb n 0) (ltb CLASSES n) (eqb (length ys) n) refl refl _
  where
    by_test : (a b t : Bool) → ltb CLASSES n ≡ b → eqb (length ys) n ≡ t → (o : Option QueueFault) → queues_unless (cond (a || b || not t) (Some QueueCount) o) ys ≡ Err QueueCount
    by_test true b t p q o = refl
    by_test false true t p q o = refl
    by_test false false false p q o = refl
    by_test false false true p q o = absurd (let few : n ≤ CLASSES = ltb-false CLASSES n p in let same : length ys ≡ n = eqb-true (length ys) n q in omega arith)

queues_of-take : (n : ℕ) (rs : List (ℕ × ℕ)) → queues_of n (take KEPT_RANGES rs) ≡ queues_of n rs
queues_of-take n rs = by_cap KEPT_RANGES (queues_of n) rs _ (queues_long n)

-- ---- entries

abbrev gates_of : List Entry → Result (List Entry) TcFault
gates_of es = list_given es

entries_long : (ys : List Entry) → KEPT_ENTRIES ≤ length ys → gates_of ys ≡ Err (faults.Gates TooManyEntries)
entries_long ys long =
    let a : ltb MAX_ENTRIES (length ys) ≡ true = lt-ltb MAX_ENTRIES (length ys) (omega arith) in
    let x : eqb (length ys) 0 ≡ false = ne_eqb (length ys) 0 (omega arith) in rw (a, x) refl

list_given-take : (es : List Entry) → list_given (take KEPT_ENTRIES es) ≡ list_given es
list_given-take es = by_cap KEPT_ENTRIES gates_of es _ entries_long

-- ---- limits

eight_limits-take : (ns : List ℕ) → eight_limits (take CLASSES ns) ≡ eight_limits ns
eight_limits-take ns = ap (λ (l : List ℕ). l ++ replicate (CLASSES - length l) 0) (take-take CLASSES CLASSES ns (omega arith))

limits-capped : (o : Option (List ℕ)) → option_map eight_limits (option_map (take CLASSES) o) ≡ option_map eight_limits o
limits-capped None = refl
limits-capped (Some ns) = ap Some (eight_limits-take ns)

-- ---- all of them

ranges_of-capped : (n : ℕ) (o : Option (List (ℕ × ℕ))) → ranges_of n (option_map (take KEPT_RANGES) o) ≡ ranges_of n o
ranges_of-capped n None = refl
ranges_of-capped n (Some rs) = rw (queues_of-take n rs) refl

classes_of-capped : (n : Option ℕ) (p : Option (List ℕ)) (q : Option (List (ℕ × ℕ))) → classes_of n (option_map (take KEPT_PRIORITIES) p) (option_map (take KEPT_RANGES) q) ≡ classes_of n p q
classes_of-capped None None None = refl
classes_of-capped None None (Some rs) = refl
classes_of-capped None (Some ns) None = refl
classes_of-capped None (Some ns) (Some rs) = refl
classes_of-capped (Some n) None None = refl
classes_of-capped (Some n) None (Some rs) = refl
classes_of-capped (Some n) (Some ns) q = rw (map_of-take n ns, ranges_of-capped n q) refl

-- capping the lists changes no fault, and no change that is made
pub change_given-capped : (g : Options) → change_given (capped g) ≡ change_given g
change_given-capped g = rw (classes_of-capped g.num_tc g.priorities g.ranges, list_given-take g.entries, limits-capped g.limits) refl
