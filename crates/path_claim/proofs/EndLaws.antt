-- The end of a way is as it is told.
use Rattle.std.proofs.Common.{◌≡◌, ◌<◌, ◌≤◌, ℕ, ◌+◌, ◌-◌, ◌^◌, Bool, true, false, List, Some, is_some, slice_get, if◌then◌else◌, refl, sym, ap, ◌∙◌, arith}
use Rattle.std.proofs.lemmas.Option.{same_Some}
use Rattle.wire_time.specs.Wire.{occupancy_of}
use Rattle.abstract_port.specs.declared.Start.{Start}
use Rattle.abstract_port.specs.Traffic.{Came}
use Rattle.any_traffic.proofs.OwnStarts.{own_starts_law}
use Rattle.delay_bounds.specs.declared.Bound.{Bound}
use Rattle.stream_bounds.specs.Verdicts.{plus}
use Rattle.path_bounds.specs.Hops.{greatest_of}
use Rattle.path_bounds.specs.Judged.{Known}
use Rattle.path_bounds.specs.declared.hop.Hop.{Hop}
use Rattle.path_bounds.specs.declared.hop.PathPort.{PathPort}
use Rattle.claims.specs.Network.{Hop as NetworkHop, Network, NetworkPort, NetworkStream, queued_at}
use Rattle.claims.specs.Promise.{need_at}
use Rattle.path_claim.specs.Ends.{EndLaw, SoonerLaw, first_end, last_end}
use Rattle.path_claim.specs.Networks.{IsHopAt}
use Rattle.path_claim.specs.Told.{port_told}
use Rattle.path_claim.specs.Windows.{longest_wait}
use Rattle.path_claim.proofs.ApartLaws.{lesser_need}
use Rattle.path_claim.proofs.WindowLaws.{plus_below, plus_whole}

-- ---- sums

first_sum : (e b n since : ℕ) → since ≤ plus (plus e b) n → plus (plus e b) n - since + since ≤ e + b + n
first_sum e b n since le = sums (plus e b) (plus (plus e b) n) (plus_below e b) (plus_below (plus e b) n) le
  where
    sums : (m k : ℕ) → m ≤ e + b → k ≤ m + n → since ≤ k → k - since + since ≤ e + b + n
    sums m k one two le = omega (arith, one, two, le)

last_sum : (e w n since : ℕ) → since < 2 ^ 127 → plus (plus e w) n - since < 2 ^ 126
    → (e + w + n ≤ plus (plus e w) n - since + since) × (w < 2 ^ 128 - 1)
last_sum e w n since far near = sums (plus e w) (plus (plus e w) n) (plus_whole e w) (plus_whole (plus e w) n) near
  where
    sums : (m k : ℕ) → (m < 2 ^ 128 - 1 → m ≡ e + w) → (k < 2 ^ 128 - 1 → k ≡ m + n) → k - since < 2 ^ 126
        → (e + w + n ≤ k - since + since) × (w < 2 ^ 128 - 1)
    sums m k one two near =
        let below : k < 2 ^ 128 - 1 = omega (arith, near, far) in
        let is = two below in
        let less : m < 2 ^ 128 - 1 = omega (arith, below, is) in
        let whole = one less in
        (omega (arith, is, whole), omega (arith, whole, less))

wait_whole : (t : Bool) (greatest width : ℕ) → (if t then greatest else plus greatest width) < 2 ^ 128 - 1
    → (if t then greatest else plus greatest width) ≡ (if t then greatest else greatest + width)
wait_whole true greatest width less = refl
wait_whole false greatest width less = plus_whole greatest width less

module _ (net : Network) (ports : List PathPort) (clocks : ℕ) (known : Known) (port class place : ℕ) (a : NetworkHop) (h : Hop) (p : PathPort)
    (same : net.ports port ≡ port_told p) (at : IsHopAt net ports clocks known port class a place h) where
  since_is : (net.ports port).since ≡ p.since
  since_is = ap (λ (q : NetworkPort). q.since) same

  need_is : (len : ℕ) → need_at net port len ≡ occupancy_of p.settings.port.rate len
  need_is len = ap (λ (q : NetworkPort). occupancy_of q.ps len) same

  shortest_is : need_at net port (net.streams a.stream).shortest ≡ occupancy_of p.settings.port.rate (h.stream).shortest
  shortest_is =
      need_is (net.streams a.stream).shortest ∙ ap (λ (y : NetworkStream). occupancy_of p.settings.port.rate y.shortest) at.stream

  longest_is : need_at net port (net.streams a.stream).longest ≡ occupancy_of p.settings.port.rate (h.stream).len
  longest_is =
      need_is (net.streams a.stream).longest ∙ ap (λ (y : NetworkStream). occupancy_of p.settings.port.rate y.longest) at.stream

  first : p.since ≤ first_end p h.stream at.span at.bound
      → first_end p h.stream at.span at.bound - p.since + (net.ports port).since
      ≤ a.earliest + a.bound.least + need_at net port (net.streams a.stream).shortest
  first le =
      sums _ _ _ _ _ _ _ _ _ since_is at.earliest (ap (λ (c : Bound). c.least) at.waits) shortest_is
      (first_sum (at.span).earliest (at.bound).least (occupancy_of p.settings.port.rate (h.stream).shortest) p.since le)
    where
      sums : (told s t e f b c n m : ℕ) → s ≡ t → e ≡ f → b ≡ c → n ≡ m → told + t ≤ f + c + m → told + s ≤ e + b + n
      sums told s t e f b c n m one two three four le = omega (arith, one, two, three, four, le)

  -- in whole sums
  whole_first : (base e : ℕ) → base + a.earliest + a.bound.least + need_at net port (net.streams a.stream).shortest ≤ e
      → base + (net.ports port).since + first_end p h.stream at.span at.bound ≤ e + p.since
  whole_first base e le =
      sums _ _ _ _ _ _ _ _ _ _ since_is at.earliest (ap (λ (c : Bound). c.least) at.waits) shortest_is
      (plus_below (plus (at.span).earliest (at.bound).least) (occupancy_of p.settings.port.rate (h.stream).shortest))
      (plus_below (at.span).earliest (at.bound).least) le
    where
      sums : (told m s t x y b c n o : ℕ) → s ≡ t → x ≡ y → b ≡ c → n ≡ o → told ≤ m + o → m ≤ y + c → base + x + b + n ≤ e
          → base + s + told ≤ e + t
      sums told m s t x y b c n o one two three four below less le = omega (arith, one, two, three, four, below, less, le)

  last : p.since < 2 ^ 127 → last_end p h.stream at.span at.bound - p.since < 2 ^ 126
      → a.earliest + a.bound.greatest + need_at net port (net.streams a.stream).longest
      ≤ last_end p h.stream at.span at.bound - p.since + (net.ports port).since
  last far near =
      let whole = last_sum (at.span).earliest (greatest_of h.stream at.span at.bound) (occupancy_of p.settings.port.rate (h.stream).len) p.since far
      near in
      let wait : greatest_of h.stream at.span at.bound ≡ longest_wait h.stream at.span at.bound
      = wait_whole (is_some (h.stream).offset) (at.bound).greatest ((at.span).latest - (at.span).earliest) whole.1 in
      sums _ _ _ _ _ _ _ _ _ _ since_is at.earliest (ap (λ (c : Bound). c.greatest) at.waits) wait longest_is whole.0
    where
      sums : (told s t e f b c w n m : ℕ) → s ≡ t → e ≡ f → b ≡ c → w ≡ c → n ≡ m → f + w + m ≤ told + t → e + b + n ≤ told + s
      sums told s t e f b c w n m one two three four five le = omega (arith, one, two, three, four, five, le)

pub end_law : EndLaw
end_law net ports clocks known runs nominal port class place k i n f a h p far same kept at numbered =
    let ends = kept.ends k i n f a numbered in
    record {
      no_sooner = λ x e le.
          ends.no_sooner x (first_end p h.stream at.span at.bound - p.since) e
          (first net ports clocks known port class place a h p same at le);
      no_later = λ x e near.
          ends.no_later x (last_end p h.stream at.span at.bound - p.since) e
          (last net ports clocks known port class place a h p same at far near);
    }

-- ---- no sooner

pub sooner_law : SoonerLaw
sooner_law net ports clocks known runs nominal port class place k i n f a h p same run kept at numbered x e =
    let setup = net.ports port in
    let own = own_starts_law setup.ps setup.mtu setup.room class (runs port).command setup.plan (runs port).events run.run k x e in
    let there : slice_get (queued_at net port class (runs port)) k ≡ Some f = ap (λ xs. slice_get xs k) kept.all ∙ numbered.came in
    let frame : own.0 ≡ f = same_Some own.0 f (sym own.1 ∙ there) in
    let end : x.«end» ≡ x.at + need_at net port f.frame.len
    = ap (λ (y : Start). y.«end») own.2 ∙ ap (λ (g : Came). x.at + need_at net port g.frame.len) frame in
    let start = (kept.starts k i n f a numbered).no_sooner x e in
    let need : need_at net port (net.streams a.stream).shortest ≤ need_at net port f.frame.len
    = lesser_need setup.ps (net.streams a.stream).shortest f.frame.len (kept.long k i n f a numbered).0 in
    let whole = whole_first net ports clocks known port class place a h p same at ((runs port).command.change + nominal a.stream n) x.«end»
    (omega (arith, end, start, need)) in
    omega (arith, whole)
