-- What is taken in steps.
use Rattle.std.proofs.Common.{◌≡◌, ℕ, List, [], ◌∷◌, length, Bool, cond, Option, None, Result, Ok, Err, refl, sym, ap, ◌∙◌, subst}
use Rattle.std.specs.Prelude.{codes}
use Rattle.std.specs.Str.{bytes_eq}
use Rattle.job.specs.declared.fault.Fault.{Fault}
use Rattle.job.specs.declared.fault.Fault.TheVariants as Runs
use Rattle.script.specs.Requests.{is_comment}
use Rattle.script.specs.declared.faults.ScriptFault.TheVariants.{UnknownLine}
use Rattle.traffic.specs.Table.{line_said}
use Rattle.traffic.specs.declared.table.Stream.{Stream}
use Rattle.text.specs.Words.{words_of}
use Rattle.network.specs.Lines.{Said, Skipped, OfPort, OfLink, OfClocks, and_then, clocks_said, front_at, link_said, port_said, said_in_words, stream_said, stream_with, via_in, way_at, with_way}
use Rattle.network.specs.Network.{Net, line_taken, stream_put, stream_taken, taken}
use Rattle.network.specs.Reads.{Takes}
use Rattle.network.specs.declared.network_table.faults.NetworkFault.{NetworkFault}
use Rattle.network.specs.declared.network_table.faults.NetworkFault.TheVariants as Faults
use Rattle.network.proofs.WordLaws.{hops_done}

-- a step that goes wrong ends what follows it
pub wrong_on : {S U : Type 0} (fault : Fault NetworkFault) (said : Result S NetworkFault) (f : S → Result U NetworkFault) (all : Result U NetworkFault) (left : S) (new : U)
    → Takes {T = Unit {0}} (Err fault) said left → all ≡ and_then said f → Takes {T = Unit {0}} (Err fault) all new
wrong_on {S} {U} (Runs.Input fault) said f all left new h e = e ∙ ap (λ (r : Result S NetworkFault). and_then r f) h
wrong_on Runs.Read said f all left new h e = tt
wrong_on Runs.Write said f all left new h e = h
wrong_on Runs.Memory said f all left new h e = tt

-- what is taken of what is the same
pub same_taken : {T S I : Type 0} (result : Result T (Fault I)) (said all : Result S I) (new : S) → Takes result said new → all ≡ said → Takes result all new
same_taken {T} {S} {I} result said all new h e =
    let P : Result S I → Type 0 = λ r. Takes result r new in
    subst P (sym e) h

-- a stream without a way
wayless : (number : ℕ) (s : Stream) (net : Net) → stream_taken number s None net ≡ Ok (stream_put number s (length net.ways) net)
wayless number s net =
    ap (λ (r : Result (List (List ℕ) × List ℕ) NetworkFault). and_then r (λ now. Ok (stream_put number s (length net.ways) (record net { names = now.0; ways = now.1 }))))
    (hops_done (length net.ways) (net.names, net.ways) [] refl)

pub wayless_line : (number begin : ℕ) (octets front : List ℕ) (via : Option ℕ) (s : Stream) (net : Net) (read : Result Stream NetworkFault)
    → begin ≡ length net.ways → via ≡ via_in octets → front ≡ front_at via octets → read ≡ stream_with (line_said (words_of front)) → read ≡ Ok s → way_at via octets ≡ None
    → and_then (and_then (stream_said octets) (λ s. with_way s (way_at (via_in octets) octets))) (taken number net) ≡ Ok (stream_put number s begin net)
wayless_line number begin octets front via s net read is_begin is_via is_front is_read is none =
    let said : stream_said octets ≡ Ok s =
    ap (λ (v : Option ℕ). stream_with (line_said (words_of (front_at v octets)))) (sym is_via)
    ∙ (ap (λ (xs : List ℕ). stream_with (line_said (words_of xs))) (sym is_front) ∙ (sym is_read ∙ is)) in
    let way : way_at (via_in octets) octets ≡ None = ap (λ (v : Option ℕ). way_at v octets) (sym is_via) ∙ none in
    ap (λ (r : Result Stream NetworkFault). and_then (and_then r (λ s. with_way s (way_at (via_in octets) octets))) (taken number net)) said
    ∙ (ap (λ (o : Option (List (List ℕ))). and_then (with_way s o) (taken number net)) way ∙ (wayless number s net ∙ ap (λ (n : ℕ). Ok (stream_put number s n net)) (sym is_begin)))

-- ---- a line, by its first word

abbrev chosen : List ℕ → List (List ℕ) → (comment port link clocks stream : Bool) → Result Said NetworkFault
chosen octets ws comment port link clocks stream =
    cond comment (Ok Skipped)
    (cond port (and_then (port_said ws) (λ said. Ok (OfPort said)))
    (cond link (and_then (link_said ws) (λ said. Ok (OfLink said)))
    (cond clocks (and_then (clocks_said ws) (λ difference. Ok (OfClocks difference)))
    (cond stream (and_then (stream_said octets) (λ s. with_way s (way_at (via_in octets) octets)))
    (Err (Faults.Line UnknownLine))))))

module _ (number : ℕ) (octets first : List ℕ) (ws : List (List ℕ)) (net : Net) where
  abbrev is_port : Bool
  is_port = bytes_eq first (codes "port")

  abbrev is_link : Bool
  is_link = bytes_eq first (codes "link")

  abbrev are_clocks : Bool
  are_clocks = bytes_eq first (codes "clocks")

  abbrev is_stream : Bool
  is_stream = bytes_eq first (codes "stream")

  pub line_is : (comment port link clocks stream : Bool) → words_of octets ≡ first ∷ ws → is_comment first ≡ comment → is_port ≡ port → is_link ≡ link → are_clocks ≡ clocks → is_stream ≡ stream
      → line_taken number octets net ≡ and_then (chosen octets ws comment port link clocks stream) (taken number net)
  line_is comment port link clocks stream e a b c d f =
      ap (λ (xs : List (List ℕ)). and_then (said_in_words octets xs) (taken number net)) e
      ∙ ap (λ (t : Bool). and_then (chosen octets ws t is_port is_link are_clocks is_stream) (taken number net)) a
      ∙ ap (λ (t : Bool). and_then (chosen octets ws comment t is_link are_clocks is_stream) (taken number net)) b
      ∙ ap (λ (t : Bool). and_then (chosen octets ws comment port t are_clocks is_stream) (taken number net)) c
      ∙ ap (λ (t : Bool). and_then (chosen octets ws comment port link t is_stream) (taken number net)) d
      ∙ ap (λ (t : Bool). and_then (chosen octets ws comment port link clocks t) (taken number net)) f
