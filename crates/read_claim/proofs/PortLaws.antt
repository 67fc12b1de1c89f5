-- What is known of the ports that are made of a network that is read.
use Rattle.std.proofs.Common.{◌≡◌, ◌≤◌, ℕ, zero, suc, ◌+◌, ◌-◌, ◌*◌, ◌%◌, ◌^◌, ◌==◌, All, min, nat_le, nat_lt, Bool, true, false, cond, List, [], ◌∷◌, ◌++◌, length, Option, Some, None, unwrap_or, Result, Ok, Err, refl, sym, ◌∙◌, subst, arith}
use Rattle.std.specs.Prelude.{IfSome, find}
use Rattle.std.proofs.Math.Nat.{mod-le}
use Rattle.std.proofs.lemmas.Bool.{and_parts, leb-true, ltb-false}
use Rattle.std.proofs.lemmas.List.{length_push}
use Rattle.std.proofs.lemmas.List.Elements.{All-head, All-nil, All-push, All-tail, All-weaker}
use Rattle.std.proofs.lemmas.Option.{none-some}
use Rattle.wire_time.specs.Moment.{greatest_moment}
use Rattle.wire_time.specs.declared.TheConstants.{MAX_MTU, MIN_MTU}
use Rattle.gates.specs.Gate.{Plan, first_shorter, in_ps, least_interval, limits_fault, plan_fault}
use Rattle.gates.specs.declared.gate_list.PlanFault.{PlanFault}
use Rattle.gates.specs.declared.gate_list.PlanFault.TheVariants as PlanFaults
use Rattle.gates.specs.declared.gate_list.TheConstants.{MAX_BASE_NS, MAX_CYCLE_NS}
use Rattle.abstract_port.specs.AbstractPort.{AbstractPort, first_of as first_refusal, limit_refusal, map_refusal, plan_asked, schedule_refusal}
use Rattle.abstract_port.specs.Sound.{IsMtu}
use Rattle.abstract_port.specs.declared.Change.{Change}
use Rattle.abstract_port.specs.declared.Refused.{Refused}
use Rattle.abstract_port.specs.declared.Refused.TheVariants.{Schedule}
use Rattle.port.specs.Limits.{is_mtu, is_room}
use Rattle.script.specs.Settings.{settings_with}
use Rattle.script.specs.Setup.{Setup}
use Rattle.script.specs.declared.settings.BadValue.TheVariants as BadValues
use Rattle.stream_bounds.specs.Classes.{port_before, refusal_of}
use Rattle.stream_bounds.specs.declared.settings.BoundsSettings.{BoundsSettings}
use Rattle.network.specs.Network.{Net, first_of, option_or_else}
use Rattle.network.specs.Schedules.{has_port}
use Rattle.network.specs.declared.network_table.contents.PortSetting.{PortSetting}
use Rattle.network.specs.declared.network_table.said.PortValues.{PortValues}
use Rattle.network.specs.declared.port_schedules.schedules.PortSchedule.{PortSchedule}
use Rattle.path_bounds.specs.declared.hop.PathPort.{PathPort}
use Rattle.paths.specs.Ports.{change_by, clocks_of, lead_in, line_by, made_at, made_by, made_unless, or_setup, port_by, port_count, ports_from, ports_in, settings_at, setup_at, since_of, values_of, with_made}
use Rattle.paths.specs.declared.faults.PathsInput.{PathsInput}
use Rattle.paths.specs.declared.faults.PathsInput.TheVariants as Inputs
use Rattle.paths.specs.declared.ports.TheConstants.{MOST_NETWORK_PORTS}
use Rattle.path_claim.specs.Read.{IsReadPort}
use Rattle.read_claim.proofs.NetLaws.{IsReadNet}
use Rattle.read_claim.proofs.SaidLaws.{HasRate}
use Rattle.read_claim.proofs.WordLaws.{IsRate, no_ok, same_ok}

-- ---- what is first of a list

pub first_law : {X Y : Type 0} (f : X → Option Y) (P : Y → Type 0) (xs : List X) → All (λ (x : X). IfSome (f x) P) xs → IfSome (first_of f xs) P
unfolding first_of
first_law f P [] all = tt
first_law {X} {Y} f P (x ∷ xs) all =
    by (f x) (All-head (λ (y : X). IfSome (f y) P) x xs all) (first_law f P xs (All-tail (λ (y : X). IfSome (f y) P) x xs all))
  where
    by : (o : Option Y) → IfSome o P → IfSome (first_of f xs) P → IfSome (option_or_else o (first_of f xs)) P
    by (Some y) here rest = here
    by None here rest = rest

-- ---- what a port has

-- a rate that there is, and an mtu within its limits
pub record IsSetup (p : Setup) : Type 0 where
  pub rate : IsRate p.rate
  pub mtu : p.mtu ≤ MAX_MTU

-- by what a settings' getters answer
pub setup_is : (p : Setup) (ps rate mtu : ℕ) → ps ≡ rate → rate ≡ p.rate → IsRate ps → mtu ≡ p.mtu → IsMtu mtu → IsSetup p
setup_is p ps rate mtu one two within is_mtu bounds =
    record { rate = subst IsRate (one ∙ two) within; mtu = subst (λ (n : ℕ). n ≤ MAX_MTU) is_mtu bounds.1 }

rate_or : (o : Option ℕ) (n : ℕ) → IfSome o IsRate → IsRate n → IsRate (unwrap_or o n)
rate_or None n said is = is
rate_or (Some r) n said is = said

with_law : (rate mtu room : ℕ) (p : Setup) → IsRate rate → IsSetup p → IsSetup (or_setup p (settings_with rate mtu room None))
with_law rate mtu room p is_rate is = by (is_mtu mtu) (is_room room) refl
  where
    by : (t u : Bool) → is_mtu mtu ≡ t
        → IsSetup (or_setup p (cond t (cond u (Ok (record { rate = rate; mtu = mtu; room = room; until = None; summary = false }))
        (Err BadValues.Room)) (Err BadValues.Mtu)))
    by true true within = record { rate = is_rate; mtu = leb-true mtu MAX_MTU (and_parts (nat_le MIN_MTU mtu) (nat_le mtu MAX_MTU) within).1 }
    by true false within = is
    by false u within = is

setup_law : (p : Setup) (o : Option PortValues) → IsSetup p → IfSome o HasRate → IsSetup (setup_at p o)
setup_law p None is said = is
setup_law p (Some v) is said =
    with_law (unwrap_or v.rate p.rate) (unwrap_or v.mtu p.mtu) (unwrap_or v.room p.room) p (rate_or v.rate p.rate said is.rate) is

-- ---- its schedule

first_none : (a b : Option Refused) → first_refusal a b ≡ None → b ≡ None
first_none (Some why) b e = absurd (none-some why (sym e))
first_none None b e = e

limits_law : (ps : ℕ) (plan : Plan) → limits_fault ps plan ≡ None → plan.cycle ≤ MAX_CYCLE_NS
limits_law ps plan e = by (nat_lt plan.cycle (least_interval ps)) (nat_lt MAX_CYCLE_NS plan.cycle) refl e
  where
    by : (t u : Bool) → nat_lt MAX_CYCLE_NS plan.cycle ≡ u
        → cond t (Some PlanFaults.CycleTooShort) (cond u (Some PlanFaults.CycleTooLong)
        (cond (nat_lt MAX_CYCLE_NS plan.extension) (Some PlanFaults.ExtensionTooLong)
        (cond (nat_lt MAX_BASE_NS plan.base) (Some PlanFaults.BaseTooLate) None))) ≡ None → plan.cycle ≤ MAX_CYCLE_NS
    by true u long is = absurd (none-some PlanFaults.CycleTooShort (sym is))
    by false true long is = absurd (none-some PlanFaults.CycleTooLong (sym is))
    by false false long is = ltb-false MAX_CYCLE_NS plan.cycle long

plan_law : (ps : ℕ) (plan : Plan) → plan_fault ps plan ≡ None → plan.cycle ≤ MAX_CYCLE_NS
plan_law ps plan e = by (first_shorter (least_interval ps) 0 plan.entries) e
  where
    by : (o : Option ℕ) → ◌≡◌ {A = Option PlanFault} (elim o [ Some i ↦ Some (PlanFaults.IntervalTooShort i) | None ↦ limits_fault ps plan ]) None
        → plan.cycle ≤ MAX_CYCLE_NS
    by (Some i) is = absurd (none-some (PlanFaults.IntervalTooShort i) (sym is))
    by None is = limits_law ps plan is

schedule_law : (port : AbstractPort) (c : Change) → schedule_refusal port c ≡ None → (plan_asked c).cycle ≤ MAX_CYCLE_NS
schedule_law port c e = by (plan_fault port.ps (plan_asked c)) refl e
  where
    by : (o : Option PlanFault) → plan_fault port.ps (plan_asked c) ≡ o
        → ◌≡◌ {A = Option Refused} (elim o [ Some fault ↦ Some (Schedule fault) | None ↦ None ]) None
        → (plan_asked c).cycle ≤ MAX_CYCLE_NS
    by (Some fault) told is = absurd (none-some (Schedule fault) (sym is))
    by None told is = plan_law port.ps (plan_asked c) told

refused_law : (s : BoundsSettings) (c : Change) → refusal_of s c ≡ None → (plan_asked c).cycle ≤ MAX_CYCLE_NS
refused_law s c e =
    schedule_law (port_before s) c (first_none (limit_refusal (port_before s) c) (schedule_refusal (port_before s) c)
    (first_none (map_refusal (port_before s) c) (first_refusal (limit_refusal (port_before s) c) (schedule_refusal (port_before s) c)) e))

lead_law : (n : ℕ) → min n greatest_moment ≤ greatest_moment
lead_law n = omega arith

since_small : (lead cycle left more : ℕ) → lead ≤ greatest_moment → cycle ≤ MAX_CYCLE_NS → left ≤ in_ps cycle - more → lead + left ≤ 2 * greatest_moment
since_small lead cycle left more early short le = omega (arith, early, short, le)

since_law : (plan : Plan) (lead : ℕ) → lead ≤ greatest_moment → plan.cycle ≤ MAX_CYCLE_NS → since_of plan lead ≤ 2 * greatest_moment
since_law plan lead early short =
    since_small lead plan.cycle _ ((lead + in_ps plan.base) % in_ps plan.cycle) early short
    (mod-le (in_ps plan.cycle - (lead + in_ps plan.base) % in_ps plan.cycle) (in_ps plan.cycle))

-- ---- all ports

unless_law : (o : Option Refused) (line : ℕ) (q p : PathPort) → made_unless o line q ≡ Ok p → (o ≡ None) × (q ≡ p)
unless_law (Some why) line q p e = no_ok (Inputs.Refused line why) p e
unless_law None line q p e = (refl, same_ok q p e)

module _ (s : BoundsSettings) (is : IsSetup s.port) (net : Net) (read : IsReadNet net) (kept : List PortSchedule) where
  said_of : (number : ℕ) (settings : List PortSetting) → All (λ (x : PortSetting). HasRate x.values) settings
      → All (λ (x : PortSetting). IfSome (values_of number x) HasRate) settings
  said_of number settings all =
      All-weaker (λ (x : PortSetting). HasRate x.values) (λ (x : PortSetting). IfSome (values_of number x) HasRate)
      (λ x has. by x (x.port == number) has) settings all
    where
      by : (x : PortSetting) (t : Bool) → HasRate x.values → IfSome (cond t (Some x.values) None) HasRate
      by x true has = has
      by x false has = tt

  port_law : (number : ℕ) (asked : Option PortSchedule) (p : PathPort) → made_by s net kept number asked ≡ Ok p → IsReadPort p
  port_law number asked p e =
      let own = settings_at s net number in
      let got = unless_law (refusal_of own (change_by asked)) (line_by asked) (port_by own (change_by asked) (lead_in net)) p e in
      let has = setup_law s.port (first_of (values_of number) net.settings) is
      (first_law (values_of number) HasRate net.settings (said_of number net.settings read.settings)) in
      subst IsReadPort got.1 (record {
        least = (has.rate).0;
        rate = (has.rate).1;
        mtu = has.mtu;
        since = since_law (plan_asked (change_by asked)) (lead_in net) (lead_law (min (clocks_of net.clocks * port_count net) (2 ^ 128 - 1)))
            (refused_law own (change_by asked) got.0);
      })

  from_law : (count number : ℕ) (ports all : List PathPort) → All IsReadPort ports → ports_from s net kept count number ports ≡ Ok all
      → All IsReadPort all × (length all ≡ length ports + count)
  unfolding ports_from
  from_law zero number ports all read e =
      subst (λ (ps : List PathPort). All IsReadPort ps × (length ps ≡ length ports + 0)) (same_ok ports all e) (read, omega arith)
  from_law (suc count) number ports all read e =
      by (made_at s net kept number) refl e (λ (more : List PathPort). from_law count (number + 1) more all)
    where
      by : (r : Result PathPort PathsInput) → made_at s net kept number ≡ r
          → with_made s net kept ports r (λ more. ports_from s net kept count (number + 1) more) ≡ Ok all
          → ((more : List PathPort) → All IsReadPort more → ports_from s net kept count (number + 1) more ≡ Ok all
          → All IsReadPort all × (length all ≡ length more + count))
          → All IsReadPort all × (length all ≡ length ports + suc count)
      by (Err fault) made is rest = no_ok fault all is
      by (Ok p) made is rest =
          let more = rest (ports ++ p ∷ []) (All-push IsReadPort ports p read (port_law number (find (has_port number) kept) p made)) is in
          let one = length_push ports p in
          let same = more.1 in
          (more.0, omega (arith, one, same))

  -- All ports are such, and there is one for each name, or one at least.
  pub ports_law : (ports : List PathPort) → ports_in s net kept ≡ Ok ports
      → All IsReadPort ports × (length ports ≡ port_count net) × (port_count net ≤ MOST_NETWORK_PORTS)
  ports_law ports e = by (nat_lt MOST_NETWORK_PORTS (port_count net)) refl e
    where
      by : (t : Bool) → nat_lt MOST_NETWORK_PORTS (port_count net) ≡ t
          → cond t (Err Inputs.Ports) (ports_from s net kept (port_count net) 0 []) ≡ Ok ports
          → All IsReadPort ports × (length ports ≡ port_count net) × (port_count net ≤ MOST_NETWORK_PORTS)
      by true many is = no_ok Inputs.Ports ports is
      by false many is =
          let got = from_law (port_count net) 0 [] ports (All-nil IsReadPort) is in
          let same = got.1 in
          (got.0, omega (arith, same), ltb-false MOST_NETWORK_PORTS (port_count net) many)
