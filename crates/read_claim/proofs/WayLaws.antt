-- What is known of the ways of a network's streams.
use Rattle.std.proofs.Common.{◌≡◌, ◌<◌, ◌≤◌, ℕ, zero, suc, ◌+◌, ◌==◌, ◌&&◌, All, Bool, true, false, cond, List, [], ◌∷◌, ◌++◌, length, drop, Option, Some, None, slice_get, refl, sym, ap, ◌∙◌, subst, arith}
use Rattle.std.specs.Prelude.{IfSome}
use Rattle.std.proofs.lemmas.Bool.{true≢false}
use Rattle.std.proofs.lemmas.List.{append-nil, append_assoc, length-append, length-take}
use Rattle.std.proofs.lemmas.List.Elements.{All-append, All-cons, All-drop, All-get_or, All-head, All-nil, All-tail, All-take, All-weaker}
use Rattle.std.proofs.lemmas.Option.{get_or_from_slice_get, same_Some, slice_get_within}
use Rattle.any_traffic.proofs.ListLaws.{none_here}
use Rattle.wire_time.specs.Moment.{greatest_moment}
use Rattle.traffic.specs.declared.table.Stream.{Stream}
use Rattle.network.specs.Network.{Net, first_of, part}
use Rattle.network.specs.declared.network_table.contents.NetworkLink.{NetworkLink}
use Rattle.network.specs.declared.network_table.contents.NetworkStream.{NetworkStream}
use Rattle.path_bounds.specs.declared.start.WayHop.{WayHop}
use Rattle.paths.specs.Ways.{is_periodic, or_none, short, times_by, times_of, way_from, way_hop, way_of, ways_from, ways_in, ways_with}
use Rattle.paths.specs.declared.ways.LinkTimes.{LinkTimes}
use Rattle.path_claim.specs.Read.{IsReadHop}
use Rattle.read_claim.proofs.NetLaws.{IsReadNet, spent}
use Rattle.read_claim.proofs.PortLaws.{first_law}
use Rattle.read_claim.proofs.StreamLaws.{IsReadStream}

-- ---- lists

pub all_at : {X : Type 0} (P : X → Type 0) (xs : List X) (k : ℕ) (x : X) → All P xs → slice_get xs k ≡ Some x → P x
all_at P xs k x all e = subst P (get_or_from_slice_get xs k x x e) (All-get_or P xs k x (slice_get_within xs k x e) all)

-- ---- ways, one hop after another

module _ (links : List NetworkLink) (x : Stream) (number : ℕ) where
  abbrev hops_of : (before : Option ℕ) → List ℕ → List WayHop
  hops_of before [] = []
  hops_of before (port ∷ ports) = way_hop x number before port (times_by links before port) ∷ hops_of (Some port) ports

  way_is : (ports : List ℕ) (before : Option ℕ) (kept : List WayHop) → way_from links x number before kept ports ≡ kept ++ hops_of before ports
  unfolding way_from
  way_is [] before kept = sym (append-nil kept)
  way_is (port ∷ ports) before kept =
      way_is ports (Some port) (kept ++ way_hop x number before port (times_by links before port) ∷ [])
      ∙ append_assoc kept (way_hop x number before port (times_by links before port) ∷ []) (hops_of (Some port) ports)

  hops_count : (ports : List ℕ) (before : Option ℕ) → length (hops_of before ports) ≡ length ports
  hops_count [] before = refl
  hops_count (port ∷ ports) before = ap suc (hops_count ports (Some port))

module _ (net : Net) where
  abbrev hops_with : Bool → NetworkStream → (number : ℕ) → List WayHop
  hops_with true s number = hops_of net.links s.stream number None (way_of (part net.ways s.begin s.hops))
  hops_with false s number = []

  abbrev all_of : (number : ℕ) → List NetworkStream → List WayHop
  all_of number [] = []
  all_of number (s ∷ streams) = hops_with (is_periodic s.stream) s number ++ all_of (short (number + 1)) streams

  with_is : (t : Bool) (s : NetworkStream) (number : ℕ) (kept : List WayHop) → ways_with net t s number kept ≡ kept ++ hops_with t s number
  with_is true s number kept = way_is net.links s.stream number (way_of (part net.ways s.begin s.hops)) None kept
  with_is false s number kept = sym (append-nil kept)

  ways_are : (streams : List NetworkStream) (number : ℕ) (kept : List WayHop) → ways_from net number kept streams ≡ kept ++ all_of number streams
  unfolding ways_from
  ways_are [] number kept = sym (append-nil kept)
  ways_are (s ∷ streams) number kept =
      ways_are streams (short (number + 1)) (ways_with net (is_periodic s.stream) s number kept)
      ∙ (ap (λ (ws : List WayHop). ws ++ all_of (short (number + 1)) streams) (with_is (is_periodic s.stream) s number kept)
      ∙ append_assoc kept (hops_with (is_periodic s.stream) s number) (all_of (short (number + 1)) streams))

  pub in_is : ways_in net ≡ all_of 0 net.streams
  in_is = ways_are net.streams 0 []

-- ---- all hops of a way are of one stream

-- each hop that isn't the first of its way is of the stream before it
abbrev pub IsAlong : Option Stream → List WayHop → Type 0
IsAlong before [] = Unit {0}
IsAlong before (w ∷ ways) = (w.first ≡ false → before ≡ Some w.stream) × IsAlong (Some w.stream) ways

along_join : (xs ys : List WayHop) (before : Option Stream) → IsAlong before xs → ((o : Option Stream) → IsAlong o ys) → IsAlong before (xs ++ ys)
along_join [] ys before is rest = rest before
along_join (w ∷ xs) ys before is rest = (is.0, along_join xs ys (Some w.stream) is.1 rest)

pub along_next : (ways : List WayHop) (k : ℕ) (v w : WayHop) (before : Option Stream) → IsAlong before ways → slice_get ways k ≡ Some v
    → slice_get ways (suc k) ≡ Some w → w.first ≡ false → v.stream ≡ w.stream
along_next [] k v w before is one two first = absurd (none_here k v one)
along_next (u ∷ []) zero v w before is one two first = absurd (none_here zero w two)
along_next (u ∷ t ∷ ways) zero v w before is one two first =
    let here = (is.1).0 (ap (λ (y : WayHop). y.first) (same_Some t w two) ∙ first) in
    ap (λ (y : WayHop). y.stream) (sym (same_Some u v one))
    ∙ (same_Some u.stream t.stream here ∙ ap (λ (y : WayHop). y.stream) (same_Some t w two))
along_next (u ∷ ways) (suc k) v w before is one two first = along_next ways k v w (Some u.stream) is.1 one two first

module _ (links : List NetworkLink) (x : Stream) (number : ℕ) where
  along_rest : (ports : List ℕ) (port : ℕ) → IsAlong (Some x) (hops_of links x number (Some port) ports)
  along_rest [] port = tt
  along_rest (next ∷ ports) port = ((λ first. refl), along_rest ports next)

  along_hops : (ports : List ℕ) (o : Option Stream) → IsAlong o (hops_of links x number None ports)
  along_hops [] o = tt
  along_hops (port ∷ ports) o = ((λ first. absurd (true≢false first)), along_rest ports port)

module _ (net : Net) where
  along_with : (t : Bool) (s : NetworkStream) (number : ℕ) (o : Option Stream) → IsAlong o (hops_with net t s number)
  along_with true s number o = along_hops net.links s.stream number (way_of (part net.ways s.begin s.hops)) o
  along_with false s number o = tt

  pub along_all : (streams : List NetworkStream) (number : ℕ) (o : Option Stream) → IsAlong o (all_of net number streams)
  along_all [] number o = tt
  along_all (s ∷ streams) number o =
      along_join (hops_with net (is_periodic s.stream) s number) (all_of net (short (number + 1)) streams) o
      (along_with (is_periodic s.stream) s number o) (λ p. along_all streams (short (number + 1)) p)

-- ---- each hop

-- a hop that is read, at a port below a number
abbrev pub IsHopBelow : ℕ → WayHop → Type 0
IsHopBelow count w = IsReadHop w × (w.port < count)

-- the number of a port is one of 32 bits
short_below : (port count : ℕ) → port < count → count ≤ 65536 → short port < count
short_below port count less few = omega (arith, less, few)

module _ (links : List NetworkLink) (timed : All (λ (l : NetworkLink). l.least ≤ greatest_moment) links) where
  times_law : (from to : ℕ) (l : NetworkLink) → l.least ≤ greatest_moment → IfSome (times_of from to l) (λ (t : LinkTimes). t.least ≤ greatest_moment)
  times_law from to l le = by ((l.from == from) && (l.to == to))
    where
      by : (t : Bool) → IfSome (cond t (Some (record { least = l.least; greatest = l.greatest })) None) (λ (y : LinkTimes). y.least ≤ greatest_moment)
      by true = le
      by false = tt

  before_law : (before : Option ℕ) (to : ℕ) → (times_by links before to).least ≤ greatest_moment
  before_law None to = omega arith
  before_law (Some from) to =
      by (first_of (times_of from to) links)
      (first_law (times_of from to) (λ (t : LinkTimes). t.least ≤ greatest_moment) links
      (All-weaker (λ (l : NetworkLink). l.least ≤ greatest_moment) (λ (l : NetworkLink). IfSome (times_of from to l) (λ (t : LinkTimes). t.least ≤ greatest_moment))
      (times_law from to) links timed))
    where
      by : (o : Option LinkTimes) → IfSome o (λ (t : LinkTimes). t.least ≤ greatest_moment) → (or_none o).least ≤ greatest_moment
      by None is = omega arith
      by (Some t) is = is

  module _ (count : ℕ) (few : count ≤ 65536) (x : Stream) (number : ℕ) (read : IsReadStream x) where
    hops_law : (ports : List ℕ) (before : Option ℕ) → All (λ (port : ℕ). port < count) ports → All (IsHopBelow count) (hops_of links x number before ports)
    hops_law [] before all = All-nil (IsHopBelow count)
    hops_law (port ∷ ports) before all =
        All-cons (IsHopBelow count) (way_hop x number before port (times_by links before port)) (hops_of links x number (Some port) ports) (
          record { said = read.said; period = read.period; len = read.len; link = before_law before port },
          short_below port count (All-head (λ (p : ℕ). p < count) port ports all) few,
        )
        (hops_law ports (Some port) (All-tail (λ (p : ℕ). p < count) port ports all))

module _ (net : Net) (read : IsReadNet net) (count : ℕ) (named : length net.names ≤ count) (some : 0 < count) (few : count ≤ 65536) where
  way_below : (ports : List ℕ) → All (λ (port : ℕ). port < count) ports → All (λ (port : ℕ). port < count) (way_of ports)
  way_below [] all = All-cons (λ (port : ℕ). port < count) 0 [] some (All-nil (λ (port : ℕ). port < count))
  way_below (port ∷ ports) all = all

  part_below : (begin hops : ℕ) → All (λ (port : ℕ). port < count) (part net.ways begin hops)
  part_below begin hops =
      All-take (λ (port : ℕ). port < count) hops (drop begin net.ways) (All-drop (λ (port : ℕ). port < count) begin net.ways
      (All-weaker (λ (port : ℕ). port < length net.names) (λ (port : ℕ). port < count) (λ port less. omega (arith, less, named)) net.ways read.ways))

  with_law : (t : Bool) (s : NetworkStream) (number : ℕ) → IsReadStream s.stream → All (IsHopBelow count) (hops_with net t s number)
  with_law true s number is =
      hops_law net.links read.links count few s.stream number is (way_of (part net.ways s.begin s.hops)) None
      (way_below (part net.ways s.begin s.hops) (part_below s.begin s.hops))
  with_law false s number is = All-nil (IsHopBelow count)

  all_law : (streams : List NetworkStream) (number : ℕ) → All (λ (s : NetworkStream). IsReadStream s.stream) streams
      → All (IsHopBelow count) (all_of net number streams)
  all_law [] number all = All-nil (IsHopBelow count)
  all_law (s ∷ streams) number all =
      All-append (IsHopBelow count) (hops_with net (is_periodic s.stream) s number) (all_of net (short (number + 1)) streams)
      (with_law (is_periodic s.stream) s number (All-head (λ (y : NetworkStream). IsReadStream y.stream) s streams all))
      (all_law streams (short (number + 1)) (All-tail (λ (y : NetworkStream). IsReadStream y.stream) s streams all))

  pub hops_are : All (IsHopBelow count) (ways_in net)
  hops_are = subst (λ (ws : List WayHop). All (IsHopBelow count) ws) (sym (in_is net)) (all_law net.streams 0 read.streams)

-- ---- how many there are

module _ (net : Net) where
  way_few : (ports : List ℕ) (n : ℕ) → length ports ≤ n → length (way_of ports) ≤ n + 1
  way_few [] n le = omega arith
  way_few (port ∷ ports) n le = omega (arith, le)

  part_few : (begin hops : ℕ) → length (part net.ways begin hops) ≤ hops
  part_few begin hops = (let is = length-take hops (drop begin net.ways) in omega (arith, is))

  with_few : (t : Bool) (s : NetworkStream) (number : ℕ) → length (hops_with net t s number) ≤ s.hops + 1
  with_few true s number =
      let is = hops_count net.links s.stream number (way_of (part net.ways s.begin s.hops)) None in
      let le = way_few (part net.ways s.begin s.hops) s.hops (part_few s.begin s.hops) in
      omega (arith, is, le)
  with_few false s number = omega arith

  all_few : (streams : List NetworkStream) (number : ℕ) → length (all_of net number streams) ≤ spent streams
  all_few [] number = omega arith
  all_few (s ∷ streams) number =
      let both = length-append (hops_with net (is_periodic s.stream) s number) (all_of net (short (number + 1)) streams) in
      let here = with_few (is_periodic s.stream) s number in
      let rest = all_few streams (short (number + 1)) in
      omega (arith, both, here, rest)

  pub ways_few : length (ways_in net) ≤ spent net.streams
  ways_few = (let same = ap length (in_is net) in let le = all_few net.streams 0 in omega (arith, same, le))
