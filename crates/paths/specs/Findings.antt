-- What a strict run finds about classes, and what it finds first of all.
use Rattle.std.specs.Prelude.{ℕ, zero, suc, ◌+◌, ◌*◌, false, List, [], ◌∷◌, length, slice_get, Option, Some, None}
use Rattle.network.specs.Network.{Net}
use Rattle.network.specs.declared.network_table.contents.NetworkStream.{NetworkStream}
use Rattle.network.specs.declared.port_schedules.schedules.PortSchedule.{PortSchedule}
use Rattle.path_bounds.specs.Answers.{pair_of, verdict_at}
use Rattle.path_bounds.specs.Judged.{Known, class_in, port_in}
use Rattle.path_bounds.specs.declared.hop.PathPort.{PathPort}
use Rattle.path_bounds.specs.declared.standings.PairVerdict.{PairVerdict}
use Rattle.path_bounds.specs.declared.standings.PairVerdict.TheVariants as Verdicts
use Rattle.stream_bounds.specs.declared.verdicts.Verdict.{Verdict}
use Rattle.stream_bounds.specs.declared.verdicts.Verdict.TheVariants as Words
use Rattle.paths.specs.PathLines.{first_of, paths_finding}
use Rattle.paths.specs.declared.faults.PathsFinding.{PathsFinding}
use Rattle.paths.specs.declared.faults.PathsFinding.TheVariants as Findings

-- 1. Classes

-- the finding about a class of a port of this name: it loses frames, or never sends some
abbrev pub word_finding : Option (List ℕ) → (class : ℕ) → Verdict → Option PathsFinding
word_finding name class (Words.Full f alone) = Some (Findings.Full name class)
word_finding name class (Words.Stuck never full) = Some (Findings.Stuck name class)
word_finding name class Words.Unfit = Some (Findings.Stuck name class)
word_finding name class Words.NoWindow = Some (Findings.Stuck name class)
word_finding name class (Words.Overloaded alone) = Some (Findings.Overloaded name class)
word_finding name class _ = None

abbrev pub verdict_finding : Option (List ℕ) → (class : ℕ) → Option PairVerdict → Option PathsFinding
verdict_finding name class None = None
verdict_finding name class (Some Verdicts.Unheard) = None
verdict_finding name class (Some (Verdicts.Known v)) = word_finding name class v

module _ (names : List (List ℕ)) (verdicts : List (Option PairVerdict)) where
  abbrev pub pair_finding : (pair : ℕ) → Option PathsFinding
  pair_finding pair =
      verdict_finding (slice_get names (port_in pair)) (class_in pair) (verdict_at verdicts (pair_of (port_in pair) (class_in pair)))

  -- the first among so many classes from one on
  unfoldable pub pairs_finding : (count pair : ℕ) → Option PathsFinding
  pairs_finding zero pair = None
  pairs_finding (suc count) pair = first_of (pair_finding pair) (pairs_finding count (pair + 1))

-- 2. All

-- where no stream is in the network, nothing was judged
abbrev pub no_stream : List NetworkStream → Option PathsFinding
no_stream [] = Some Findings.NoStream
no_stream (s ∷ streams) = None

-- and where no schedule was given, none was
abbrev pub no_schedule : List PortSchedule → Option PathsFinding
no_schedule [] = Some Findings.NoSchedule
no_schedule (s ∷ kept) = None

-- the first finding: streams, then classes
abbrev pub found_in : Net → List PortSchedule → List PathPort → Known → Option PathsFinding
found_in net kept ports k =
    first_of (no_stream net.streams)
    (first_of (paths_finding ports k.verdicts false k.hops)
    (first_of (pairs_finding net.names k.verdicts (8 * length ports) 0) (no_schedule kept)))
