-- What is known of what a line of a network says.
use Rattle.std.proofs.Common.{◌≡◌, ◌≤◌, ℕ, ◌==◌, Bool, true, false, cond, List, [], ◌∷◌, length, drop, Option, Some, None, Result, Ok, Err, refl, subst, arith}
use Rattle.std.specs.Prelude.{IfSome, codes}
use Rattle.std.specs.Str.{bytes_eq}
use Rattle.std.proofs.lemmas.List.{length-drop}
use Rattle.wire_time.specs.Moment.{greatest_moment}
use Rattle.text.specs.Times.{time_in}
use Rattle.text.specs.Words.{words_of}
use Rattle.script.specs.Requests.{is_comment}
use Rattle.script.specs.Settings.{mtu_in, rate_in, room_in}
use Rattle.script.specs.declared.faults.ScriptFault.TheVariants.{BadNumber, UnknownLine, WordCount}
use Rattle.traffic.specs.declared.table.Stream.{Stream}
use Rattle.network.specs.Lines.{Said, Skipped, OfPort, OfLink, OfClocks, OfStream, and_then, by_name, by_number, by_word, clocks_said, greatest_in, link_said, no_values, once, port_said, said_in, said_in_words, stream_said, times_said, values_from, via_in, way_at, with_value, with_way}
use Rattle.network.specs.Names.{name_in}
use Rattle.network.specs.Network.{words_of_way}
use Rattle.network.specs.declared.network_table.faults.NetworkFault.{NetworkFault}
use Rattle.network.specs.declared.network_table.faults.NetworkFault.TheVariants as Faults
use Rattle.network.specs.declared.network_table.said.PortValues.{PortValues}
use Rattle.read_claim.proofs.StreamLaws.{IsReadStream, stream_law}
use Rattle.read_claim.proofs.WordLaws.{IsRate, behind_law, no_ok, rate_law, same_ok, time_law, words_law}

-- ---- one after another

pub then_ok : {S T : Type 0} (r : Result S NetworkFault) (f : S → Result T NetworkFault) (y : T) → and_then r f ≡ Ok y
    → (x : S) × (r ≡ Ok x) × (f x ≡ Ok y)
then_ok (Ok x) f y e = (x, refl, e)
then_ok (Err fault) f y e = no_ok fault y e

word_ok : {T : Type 0} (ws : List (List ℕ)) (f : List ℕ → List (List ℕ) → Result T NetworkFault) (y : T) → by_word ws f ≡ Ok y
    → (w : List ℕ) × (more : List (List ℕ)) × (f w more ≡ Ok y)
word_ok [] f y e = no_ok (Faults.Line WordCount) y e
word_ok (w ∷ ws) f y e = (w, ws, e)

number_ok : {T : Type 0} (o : Option ℕ) (f : ℕ → Result T NetworkFault) (y : T) → by_number o f ≡ Ok y → (n : ℕ) × (o ≡ Some n) × (f n ≡ Ok y)
number_ok None f y e = no_ok (Faults.Line BadNumber) y e
number_ok (Some n) f y e = (n, refl, e)

pub name_ok : {T : Type 0} (o : Option (List ℕ)) (f : List ℕ → Result T NetworkFault) (y : T) → by_name o f ≡ Ok y
    → (name : List ℕ) × (f name ≡ Ok y)
name_ok None f y e = no_ok Faults.BadName y e
name_ok (Some name) f y e = (name, e)

-- ---- what a port has

-- its rate is one that there is, where it is said
abbrev pub HasRate : PortValues → Type 0
HasRate v = IfSome v.rate IsRate

once_law : (before said : Option ℕ) (f : ℕ → PortValues) (out : PortValues) → once before said f ≡ Ok out → (n : ℕ) × (said ≡ Some n) × (f n ≡ out)
once_law (Some b) said f out e = no_ok (Faults.Line WordCount) out e
once_law None said f out e = (let got = number_ok said _ out e in (got.0, got.1, same_ok (f got.0) out got.2))

with_law : (v : PortValues) (w value : List ℕ) (out : PortValues) → HasRate v → with_value v w value ≡ Ok out → HasRate out
with_law v w value out has e = by (bytes_eq w (codes "rate")) (bytes_eq w (codes "mtu")) (bytes_eq w (codes "room")) e
  where
    by : (a b c : Bool) → cond a (once v.rate (rate_in value) (λ n. record v { rate = Some n }))
        (cond b (once v.mtu (mtu_in value) (λ n. record v { mtu = Some n }))
        (cond c (once v.room (room_in value) (λ n. record v { room = Some n })) (Err (Faults.Line WordCount)))) ≡ Ok out → HasRate out
    by true b c is =
        let got = once_law v.rate (rate_in value) (λ n. record v { rate = Some n }) out is in
        subst HasRate got.2 (rate_law value got.0 got.1)
    by false true c is = (let got = once_law v.mtu (mtu_in value) (λ n. record v { mtu = Some n }) out is in subst HasRate got.2 has)
    by false false true is = (let got = once_law v.room (room_in value) (λ n. record v { room = Some n }) out is in subst HasRate got.2 has)
    by false false false is = no_ok (Faults.Line WordCount) out is

values_law : (ws : List (List ℕ)) (v out : PortValues) → HasRate v → values_from v ws ≡ Ok out → HasRate out
unfolding values_from
values_law [] v out has e = subst HasRate (same_ok v out e) has
values_law (w ∷ []) v out has e = no_ok (Faults.Line WordCount) out e
values_law (w ∷ value ∷ ws) v out has e =
    let got = then_ok (with_value v w value) _ out e in
    values_law ws got.0 out (with_law v w value got.0 has got.1) got.2

port_law : (ws : List (List ℕ)) (said : _) → port_said ws ≡ Ok said → HasRate said.values
port_law ws said e =
    let a = word_ok ws _ said e in
    let b = name_ok (name_in a.0) _ said a.2 in
    let c = then_ok (values_from no_values a.1) _ said b.1 in
    subst (λ p. HasRate p.values) (same_ok _ said c.2) (values_law a.1 no_values c.0 tt c.1)

-- ---- links and clocks

times_law : (least : List ℕ) (ws : List (List ℕ)) (times : ℕ × ℕ) → times_said least ws ≡ Ok times → times.0 ≤ greatest_moment
times_law least ws times e =
    let a = number_ok (time_in greatest_moment least) _ times e in
    let b = then_ok (greatest_in a.0 ws) _ times a.2 in
    subst (λ (t : ℕ × ℕ). t.0 ≤ greatest_moment) (same_ok _ times b.2) (time_law greatest_moment least a.0 a.1)

link_law : (ws : List (List ℕ)) (said : _) → link_said ws ≡ Ok said → said.least ≤ greatest_moment
link_law ws said e =
    let a = word_ok ws _ said e in
    let b = word_ok a.1 _ said a.2 in
    let c = word_ok b.1 _ said b.2 in
    let d = name_ok (name_in a.0) _ said c.2 in
    let f = name_ok (name_in b.0) _ said d.1 in
    let g = then_ok (times_said c.0 c.1) _ said f.1 in
    subst (λ l. l.least ≤ greatest_moment) (same_ok _ said g.2) (times_law c.0 c.1 g.0 g.1)

clocks_law : (ws : List (List ℕ)) (difference : ℕ) → clocks_said ws ≡ Ok difference → difference ≤ greatest_moment
clocks_law [] difference e = no_ok (Faults.Line WordCount) difference e
clocks_law (w ∷ []) difference e =
    let a = number_ok (time_in greatest_moment w) _ difference e in
    subst (λ (n : ℕ). n ≤ greatest_moment) (same_ok a.0 difference a.2) (time_law greatest_moment w a.0 a.1)
clocks_law (w ∷ more ∷ ws) difference e = no_ok (Faults.Line WordCount) difference e

-- ---- a line

-- what is known of what a line of so many octets says
abbrev pub IsReadSaid : (count : ℕ) → Said → Type 0
IsReadSaid count Skipped = Unit {0}
IsReadSaid count (OfPort said) = HasRate said.values
IsReadSaid count (OfLink said) = said.least ≤ greatest_moment
IsReadSaid count (OfClocks difference) = difference ≤ greatest_moment
IsReadSaid count (OfStream x way) = IsReadStream x × (length (words_of_way way) ≤ count)

way_law : (octets : List ℕ) (via : Option ℕ) → length (words_of_way (way_at via octets)) ≤ length octets
way_law octets None = omega arith
way_law octets (Some place) =
    let one = behind_law (words_of (drop place octets)) in
    let two = words_law (drop place octets) in
    let three = length-drop place octets in
    omega (arith, one, two, three)

with_way_law : (count : ℕ) (x : Stream) (way : Option (List (List ℕ))) (said : Said) → IsReadStream x → length (words_of_way way) ≤ count
    → with_way x way ≡ Ok said → IsReadSaid count said
with_way_law count x None said read le e = subst (IsReadSaid count) (same_ok (OfStream x None) said e) (read, le)
with_way_law count x (Some ws) said read le e = by (length ws == 0) e
  where
    by : (t : Bool) → cond t (Err (Faults.Line WordCount)) (Ok (OfStream x (Some ws))) ≡ Ok said → IsReadSaid count said
    by true is = no_ok (Faults.Line WordCount) said is
    by false is = subst (IsReadSaid count) (same_ok (OfStream x (Some ws)) said is) (read, le)

in_words_law : (octets : List ℕ) (ws : List (List ℕ)) (said : Said) → said_in_words octets ws ≡ Ok said → IsReadSaid (length octets) said
in_words_law octets [] said e = subst (IsReadSaid (length octets)) (same_ok Skipped said e) tt
in_words_law octets (w ∷ ws) said e =
    by (is_comment w) (bytes_eq w (codes "port")) (bytes_eq w (codes "link")) (bytes_eq w (codes "clocks")) (bytes_eq w (codes "stream")) e
  where
    by : (a b c d f : Bool) → cond a (Ok Skipped)
        (cond b (and_then (port_said ws) (λ said. Ok (OfPort said)))
        (cond c (and_then (link_said ws) (λ said. Ok (OfLink said)))
        (cond d (and_then (clocks_said ws) (λ difference. Ok (OfClocks difference)))
        (cond f (and_then (stream_said octets) (λ s. with_way s (way_at (via_in octets) octets)))
        (Err (Faults.Line UnknownLine)))))) ≡ Ok said → IsReadSaid (length octets) said
    by true b c d f is = subst (IsReadSaid (length octets)) (same_ok Skipped said is) tt
    by false true c d f is =
        let got = then_ok (port_said ws) _ said is in
        subst (IsReadSaid (length octets)) (same_ok (OfPort got.0) said got.2) (port_law ws got.0 got.1)
    by false false true d f is =
        let got = then_ok (link_said ws) _ said is in
        subst (IsReadSaid (length octets)) (same_ok (OfLink got.0) said got.2) (link_law ws got.0 got.1)
    by false false false true f is =
        let got = then_ok (clocks_said ws) _ said is in
        subst (IsReadSaid (length octets)) (same_ok (OfClocks got.0) said got.2) (clocks_law ws got.0 got.1)
    by false false false false true is =
        let got = then_ok (stream_said octets) _ said is in
        with_way_law (length octets) got.0 (way_at (via_in octets) octets) said (stream_law octets got.0 got.1) (way_law octets (via_in octets)) got.2
    by false false false false false is = no_ok (Faults.Line UnknownLine) said is

pub said_law : (octets : List ℕ) (said : Said) → said_in octets ≡ Ok said → IsReadSaid (length octets) said
said_law octets said e = in_words_law octets (words_of octets) said e
