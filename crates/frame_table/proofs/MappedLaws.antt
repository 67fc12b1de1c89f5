-- Each map that a text gives leads to the eight classes, so each frame that joins a class there joins one of the eight.
use Rattle.std.proofs.Common.{◌≡◌, ◌<◌, ◌≤◌, ℕ, ◌-◌, ◌||◌, Bool, true, false, cond, eqb, ltb, List, [], ◌∷◌, length, Option, Some, None, Result, Ok, Err, refl, ap, subst, arith}
use Rattle.std.specs.Prelude.{All, IfSome, MatchResult, nat_le, option_map, replicate, unwrap_or}
use Rattle.std.specs.List.{AllByRecursion, list_any}
use Rattle.std.proofs.lemmas.List.Elements.{All-append, All-from_recursion, All-replicate}
use Rattle.abstract_port.specs.Map.{filled, map_of, map_unless}
use Rattle.abstract_port.specs.declared.class_map.ClassMap.{ClassMap}
use Rattle.abstract_port.specs.declared.class_map.MapFault.{MapFault}
use Rattle.abstract_port.specs.declared.class_map.MapFault.TheVariants.{BadClassCount, TooManyPriorities, ClassOutOfRange}
use Rattle.abstract_port.specs.declared.class_map.Queues.{Queues}
use Rattle.abstract_port.specs.declared.Change.{Change}
use Rattle.abstract_port.specs.declared.Command.{Command}
use Rattle.abstract_port.specs.declared.Command.TheVariants.{Replace, Delete}
use Rattle.gates.specs.declared.gate_list.GateList.{GateList}
use Rattle.port_text.specs.Ends.{change_given, classes_of, eight_limits, in_line, list_given, ranges_of}
use Rattle.port_text.specs.Grammar.{IsCommand}
use Rattle.port_text.specs.TcLines.{HasFault}
use Rattle.port_text.specs.Options.{Options, ◌>>=◌}
use Rattle.port_text.specs.Reader.{IsReader}
use Rattle.port_text.specs.Reads.{given_by}
use Rattle.port_text.specs.declared.tc_reader.fault.TcFault.{TcFault}
use Rattle.port_text.specs.declared.tc_reader.fault.TcFault.TheVariants as faults
use Rattle.frame_table.specs.Once.{IsMapped}

abbrev IsWithin : ClassMap → Type 0
IsWithin m = All (λ class. class < 8) m.classes

-- ---- a line

neither : (a b : Bool) → (a || b) ≡ false → (a ≡ false) × (b ≡ false)
neither true b none = absurd (cc)
neither false b none = (refl, none)

-- classes of which none is out of range
below : (n : ℕ) (ns : List ℕ) → list_any (λ class. nat_le n class) ns ≡ false → n ≤ 8 → AllByRecursion (λ class. class < 8) ns
below n [] none few = tt
below n (class ∷ ns) none few =
    let both = neither (nat_le n class) (list_any (λ class. nat_le n class) ns) none in
    let under = both.0 in
    ((let less : class < 8 = grind (arith, under, few) in less), below n ns both.1 few)

filled_below : (n : ℕ) (ns : List ℕ) → list_any (λ class. nat_le n class) ns ≡ false → n ≤ 8 → All (λ class. class < 8) (filled ns)
filled_below n ns none few =
    All-append (λ class. class < 8) ns (replicate (16 - length ns) 0) (All-from_recursion (λ class. class < 8) ns (below n ns none few))
    (All-replicate (λ class. class < 8) (16 - length ns) 0 (omega arith))

map_within : (n : ℕ) (ns : List ℕ) (m : ClassMap) → map_of n ns ≡ Ok m → IsWithin m
map_within n ns m = go (eqb n 0 || ltb 8 n) refl (ltb 16 (length ns)) (list_any (λ class. nat_le n class) ns) refl
  where
    go : (a : Bool) → (eqb n 0 || ltb 8 n) ≡ a → (b c : Bool) → list_any (λ class. nat_le n class) ns ≡ c
        → map_unless (cond a (Some BadClassCount) (cond b (Some TooManyPriorities) (cond c (Some ClassOutOfRange) None))) n ns ≡ Ok m → IsWithin m
    go true count b c none is = absurd (cc)
    go false count true c none is = absurd (cc)
    go false count false true none is = absurd (cc)
    go false count false false none is =
        let few = (neither (eqb n 0) (ltb 8 n) count).1 in
        let classes = ap (λ r. elim r as (λ _. List ℕ) [ Ok k ↦ k.classes | Err why ↦ [] ]) is in
        subst (λ xs. All (λ class. class < 8) xs) classes (filled_below n ns none (grind (arith, few)))

classes_within : (o : Option ℕ) (ns : Option (List ℕ)) (rs : Option (List (ℕ × ℕ))) (both : Option ClassMap × Option Queues) → classes_of o ns rs ≡ Ok both → IfSome both.0 IsWithin
classes_within None None None both is = (let same : ◌≡◌ {A = Option ClassMap × Option Queues} (None, None) both = cc in subst (λ (x : Option ClassMap × Option Queues). IfSome x.0 IsWithin) same tt)
classes_within None None (Some rs) both is = absurd (cc)
classes_within None (Some ns) rs both is = absurd (cc)
classes_within (Some n) None rs both is = absurd (cc)
classes_within (Some n) (Some ns) rs both is = go (map_of n ns) (map_within n ns) is
  where
    go : (r : Result ClassMap MapFault) → ((m : ClassMap) → r ≡ Ok m → IsWithin m)
        → (in_line faults.Map r >>= λ map. ranges_of n rs >>= λ queues. Ok (Some map, queues)) ≡ Ok both → IfSome both.0 IsWithin
    go (Err why) within is = absurd (cc)
    go (Ok m) within is = by (ranges_of n rs) is
      where
        by : (q : Result (Option Queues) TcFault) → (q >>= λ queues. Ok (Some m, queues)) ≡ Ok both → IfSome both.0 IsWithin
        by (Err why) is = absurd (cc)
        by (Ok queues) is =
            let same : ◌≡◌ {A = Option ClassMap × Option Queues} (Some m, queues) both = cc in
            subst (λ (x : Option ClassMap × Option Queues). IfSome x.0 IsWithin) same (within m refl)

-- a change with these maps and this list
abbrev changed : Options → Option ClassMap × Option Queues → GateList → Change
changed g both list = record {
  map = both.0;
  queues = both.1;
  max_sdu = option_map eight_limits g.limits;
  list = list;
  base_ns = unwrap_or g.base_time 0;
  cycle_ns = unwrap_or g.cycle_time 0;
  extension_ns = unwrap_or g.extension 0;
}

change_within : (g : Options) (c : Change) → change_given g ≡ Ok c → IfSome c.map IsWithin
change_within g c = go (classes_of g.num_tc g.priorities g.ranges) (classes_within g.num_tc g.priorities g.ranges)
  where
    go : (r : Result (Option ClassMap × Option Queues) TcFault) → ((both : Option ClassMap × Option Queues) → r ≡ Ok both → IfSome both.0 IsWithin)
        → (r >>= λ classes. list_given g.entries >>= λ list. Ok (changed g classes list)) ≡ Ok c → IfSome c.map IsWithin
    go (Err why) within is = absurd (cc)
    go (Ok both) within is = by (list_given g.entries) is
      where
        by : (l : Result GateList TcFault) → (l >>= λ list. Ok (changed g both list)) ≡ Ok c → IfSome c.map IsWithin
        by (Err why) is = absurd (cc)
        by (Ok list) is = (let same : changed g both list ≡ c = cc in subst (λ (x : Change). IfSome x.map IsWithin) same (within both refl))

-- what a reader reads
abbrev pub CommandMapped : Result Command TcFault → Type 0
CommandMapped (Ok c) = IsMapped c
CommandMapped (Err fault) = Unit {0}

pub read_mapped : (read : List (List ℕ) → Result Command TcFault) → IsReader read → (line : List (List ℕ)) → CommandMapped (read line)
read_mapped read reads line = go (read line) (reads line)
  where
    go : (r : Result Command TcFault) → MatchResult r (IsCommand line) (HasFault line) → CommandMapped r
    go (Err fault) has = tt
    go (Ok Delete) has = tt
    go (Ok (Replace c)) has = change_within (given_by has.items) c has.change_is
