-- The ports of a network, one after another.
use Rattle.std.proofs.Common.{◌≡◌, ◌<◌, ◌≤◌, ℕ, suc, ◌+◌, ◌-◌, ◌==◌, All, Bool, true, false, cond, nat_lt, List, [], ◌∷◌, ◌++◌, length, drop, get_or, Result, Ok, Err, refl, sym, ap, ◌∙◌, subst, arith}
use Rattle.std.proofs.lemmas.Bool.{lt-ltb, ne_eqb}
use Rattle.std.proofs.lemmas.List.Elements.{All-head, All-tail}
use Rattle.std.specs.List.{list_any}
use Rattle.std.specs.Prelude.{IfErr}
use Rattle.gates.proofs.GateLaws.{no_gate_fault}
use Rattle.gates.specs.Gate.{IsGateList, gate_fault, ok_unless}
use Rattle.gates.specs.declared.gate_list.Entry.{Entry}
use Rattle.std.proofs.lemmas.List.{at_drop_all, at_drop_more, length-append}
use Rattle.job.specs.declared.fault.Fault.{Fault}
use Rattle.job.specs.declared.fault.Fault.TheVariants as Faults
use Rattle.network.specs.Network.{Net}
use Rattle.path_bounds.specs.declared.hop.PathPort.{PathPort}
use Rattle.network.specs.declared.port_schedules.schedules.PortSchedule.{PortSchedule}
use Rattle.stream_bounds.specs.declared.settings.BoundsSettings.{BoundsSettings}
use Rattle.paths.specs.Order.{port_order, with_judged, with_port, with_rest}
use Rattle.paths.specs.Ports.{IsWhy, made_at, port_count, ports_from, ports_in, with_made}
use Rattle.paths.specs.declared.faults.PathsInput.{PathsInput}
use Rattle.paths.specs.declared.faults.PathsInput.TheVariants as Inputs
use Rattle.paths.specs.declared.ports.TheConstants.{MOST_NETWORK_PORTS}
use Rattle.path_bounds.specs.Judged.{port_in}

module _ (s : BoundsSettings) (net : Net) (kept : List PortSchedule) where
  one_port : (n number : ℕ) (ports : List PathPort) → ports_from s net kept (suc n) number ports
      ≡ with_made s net kept ports (made_at s net kept number) (λ more. ports_from s net kept n (number + 1) more)
  unfolding ports_from
  one_port n number ports = refl

  no_port : (number : ℕ) (ports : List PathPort) → ports_from s net kept 0 number ports ≡ Ok ports
  unfolding ports_from
  no_port number ports = refl

  at_port : (count i : ℕ) (ports : List PathPort) (made : Result PathPort PathsInput) → i < count → made_at s net kept i ≡ made
      → ports_from s net kept (count - i) i ports ≡ with_made s net kept ports made (λ more. ports_from s net kept (count - (i + 1)) (i + 1) more)
  at_port count i ports made less is =
      let step : count - i ≡ suc (count - (i + 1)) = omega (arith, less) in
      ap (λ (n : ℕ). ports_from s net kept n i ports) step ∙ (one_port (count - (i + 1)) i ports
      ∙ ap (λ (m : Result PathPort PathsInput). with_made s net kept ports m (λ more. ports_from s net kept (count - (i + 1)) (i + 1) more)) is)

  -- one port more
  pub port_more : (count i : ℕ) (ports : List PathPort) (p : PathPort) (all : Result (List PathPort) PathsInput) → i < count
      → made_at s net kept i ≡ Ok p → ports_from s net kept (count - i) i ports ≡ all
      → ports_from s net kept (count - (i + 1)) (i + 1) (ports ++ p ∷ []) ≡ all
  port_more count i ports p all less is so_far = sym (at_port count i ports (Ok p) less is) ∙ so_far

  -- one whose schedule is refused
  refused_here : (count i : ℕ) (ports : List PathPort) (fault : PathsInput) (all : Result (List PathPort) PathsInput) → i < count
      → made_at s net kept i ≡ Err fault → ports_from s net kept (count - i) i ports ≡ all → all ≡ Err fault
  refused_here count i ports fault all less is so_far = sym so_far ∙ at_port count i ports (Err fault) less is

  pub port_refused : (count i : ℕ) (ports : List PathPort) (why : Fault PathsInput) (all : Result (List PathPort) PathsInput) → i < count
      → IsWhy why (made_at s net kept i) → ports_from s net kept (count - i) i ports ≡ all → IsWhy why all
  port_refused count i ports (Faults.Input fault) all less is so_far = refused_here count i ports fault all less is so_far
  port_refused count i ports Faults.Read all less is so_far = absurd is
  port_refused count i ports Faults.Write all less is so_far = absurd is
  port_refused count i ports Faults.Memory all less is so_far = tt

  -- there are no more
  pub port_end : (count i : ℕ) (ports : List PathPort) (all : Result (List PathPort) PathsInput) → count ≤ i
      → ports_from s net kept (count - i) i ports ≡ all → all ≡ Ok ports
  port_end count i ports all over so_far =
      let none : count - i ≡ 0 = omega (arith, over) in
      sym so_far ∙ (ap (λ (n : ℕ). ports_from s net kept n i ports) none ∙ no_port i ports)

-- ---- the end of a run without ports

pub too_many : (s : BoundsSettings) (net : Net) (kept : List PortSchedule) (count : ℕ) → count ≡ port_count net → MOST_NETWORK_PORTS < count
    → ports_in s net kept ≡ Err Inputs.Ports
too_many s net kept count is more =
    ap (λ (b : Bool). cond b (Err Inputs.Ports) (ports_from s net kept (port_count net) 0 []))
    (lt-ltb MOST_NETWORK_PORTS (port_count net) (subst (λ (n : ℕ). MOST_NETWORK_PORTS < n) is more))

-- by the fault of a call
pub refused_so : {T U : Type 0} (r : Result T (Fault PathsInput)) (said : Result U PathsInput) (y why : Fault PathsInput) → r ≡ Err y → y ≡ why → IsWhy why said
    → IfErr r (λ w. IsWhy w said)
refused_so {T} r said y why is same w =
    subst (λ (x : Result T (Fault PathsInput)). IfErr x (λ w. IsWhy w said)) (sym is) (subst (λ (f : Fault PathsInput). IsWhy f said) (sym same) w)

pub out_of_memory : {T U : Type 0} (r : Result T (Fault PathsInput)) (said : Result U PathsInput) (y why : Fault PathsInput) → r ≡ Err y → y ≡ why
    → why ≡ Faults.Memory → IfErr r (λ w. IsWhy w said)
out_of_memory r said y why is same memory = refused_so r said y Faults.Memory is (same ∙ memory) tt

-- ---- a copy of a list

no_zero : (es : List Entry) → All (λ e. 0 < e.interval) es → list_any (λ e. e.interval == 0) es ≡ false
no_zero [] timed = refl
no_zero (e ∷ es) timed =
    let long : 0 < e.interval = All-head (λ (x : Entry). 0 < x.interval) e es timed in
    let here = ne_eqb e.interval 0 (λ z. omega arith) in
    rw here (no_zero es (All-tail (λ (x : Entry). 0 < x.interval) e es timed))

pub good_list : (es : List Entry) → IsGateList es → ok_unless (gate_fault es) es ≡ Ok es
good_list es is =
    let some = is.some in
    no_gate_fault es (ne_eqb (length es) 0 (λ z. omega arith)) is.few (no_zero es is.timed)

-- one is behind others
pub one_longer : {T : Type 0} (xs : List T) (x : T) (n : ℕ) → length xs ≡ n → length (xs ++ x ∷ []) ≡ n + 1
one_longer xs x n is = length-append xs (x ∷ []) ∙ ap (λ (k : ℕ). k + 1) is

-- ---- the order of ports

one_judged : (kept : List ℕ) (pair : ℕ) (order : List ℕ) → with_judged kept (pair ∷ order) ≡ with_judged (with_port kept (port_in pair)) order
unfolding with_judged
one_judged kept pair order = refl

none_judged : (kept : List ℕ) → with_judged kept [] ≡ kept
unfolding with_judged
none_judged kept = refl

pub judged_more : (order : List ℕ) (i d : ℕ) (kept now all : List ℕ) → i < length order → now ≡ with_port kept (port_in (get_or order i d))
    → with_judged kept (drop i order) ≡ all → with_judged now (drop (i + 1) order) ≡ all
judged_more order i d kept now all less is so_far =
    ap (λ (k : List ℕ). with_judged k (drop (i + 1) order)) is
    ∙ (sym (at_drop_more (with_judged kept) order i d less ∙ one_judged kept (get_or order i d) (drop (i + 1) order)) ∙ so_far)

pub judged_end : (order : List ℕ) (i : ℕ) (kept all : List ℕ) → length order ≤ i → with_judged kept (drop i order) ≡ all → kept ≡ all
judged_end order i kept all over so_far = sym (at_drop_all (with_judged kept) order i over ∙ none_judged kept) ∙ so_far

one_rest : (kept : List ℕ) (n port : ℕ) → with_rest kept (suc n) port ≡ with_rest (with_port kept port) n (port + 1)
unfolding with_rest
one_rest kept n port = refl

no_rest : (kept : List ℕ) (port : ℕ) → with_rest kept 0 port ≡ kept
unfolding with_rest
no_rest kept port = refl

pub rest_more : (count i : ℕ) (kept now all : List ℕ) → i < count → now ≡ with_port kept i
    → with_rest kept (count - i) i ≡ all → with_rest now (count - (i + 1)) (i + 1) ≡ all
rest_more count i kept now all less is so_far =
    let step : count - i ≡ suc (count - (i + 1)) = omega (arith, less) in
    ap (λ (k : List ℕ). with_rest k (count - (i + 1)) (i + 1)) is
    ∙ (sym (ap (λ (n : ℕ). with_rest kept n i) step ∙ one_rest kept (count - (i + 1)) i) ∙ so_far)

pub rest_end : (count i : ℕ) (kept all : List ℕ) → count ≤ i → with_rest kept (count - i) i ≡ all → kept ≡ all
rest_end count i kept all over so_far =
    let none : count - i ≡ 0 = omega (arith, over) in
    sym (ap (λ (n : ℕ). with_rest kept n i) none ∙ no_rest kept i) ∙ so_far
