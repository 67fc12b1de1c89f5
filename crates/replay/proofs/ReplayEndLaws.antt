-- The end of a replay through buffers, from what its parts leave.
use Rattle.std.proofs.Common.{◌≡◌, List, ℕ, [], Option, Some, None, Result, Ok, Err, ◌⊎◌, inl, inr, sym, ap, ◌∙◌, subst}
use Rattle.std.specs.Prelude.{IfSome}
use Rattle.std.specs.Io.KnownBytes.{Keeps}
use Rattle.replay.specs.Words.{Command, Entry, CapFault, End, IsReader, TcFault, IsTold, Setup, IsReplayEnding, Timing, AppendsBoth, Ends, Outcome, ReadsAs, timed_outcome, Got, Output, SentBoth, nothing, replay_telling, Fault, ReplayInput}
use Rattle.job.specs.Texts.{run_status, run_text}
use Rattle.job.specs.declared.report.Ended.{Ended}
use Rattle.job.proofs.RunEndLaws.{appends_kept, sent_kept, sent_whole}
use Rattle.replay.specs.ReplayEnd.{with_unwritten}
use Rattle.job.specs.declared.fault.Fault.TheVariants as Faults

-- both writers keep what they hold
abbrev pub KeepsBoth : Got → Got → Type 0
KeepsBoth old new = Keeps old.report new.report × Keeps old.departures new.departures

both_appended : (a b c : Got) (whole : Output) → AppendsBoth a b whole → KeepsBoth b c → AppendsBoth a c whole
both_appended a b c whole w k = record {
  report = appends_kept a.report b.report c.report whole.report w.report k.0;
  departures = appends_kept a.departures b.departures c.departures whole.departures w.departures k.1;
}

both_sent : (a b c : Got) (whole left : Output) → SentBoth a b whole left → KeepsBoth b c → SentBoth a c whole left
both_sent a b c whole left s k = record {
  report = sent_kept a.report b.report c.report whole.report left.report s.report k.0;
  departures = sent_kept a.departures b.departures c.departures whole.departures left.departures s.departures k.1;
}

front_of_both : (a b : Got) (whole : Output) → AppendsBoth a b whole → (left : Output) × SentBoth a b whole left
front_of_both a b whole w = (nothing, record { report = sent_whole a.report b.report whole.report w.report; departures = sent_whole a.departures b.departures whole.departures w.departures })

ends_kept : (r : Result (Unit {0}) (Fault ReplayInput)) (old mid out : Got) (whole : Outcome) → Ends r old mid whole → KeepsBoth mid out → Ends r old out whole
ends_kept (Ok x) old mid out whole w k = (w.0, both_appended old mid out whole.output w.1 k)
ends_kept (Err (Faults.Input fault)) old mid out whole w k = (w.0, both_appended old mid out whole.output w.1 k)
ends_kept (Err Faults.Read) old mid out whole (left, s) k = (left, both_sent old mid out whole.output left s k)
ends_kept (Err Faults.Write) old mid out whole (left, s) k = (left, both_sent old mid out whole.output left s k)
ends_kept (Err Faults.Memory) old mid out whole (left, s) k = (left, both_sent old mid out whole.output left s k)

front_of_end : (r : Result (Unit {0}) (Fault ReplayInput)) (old new : Got) (whole : Outcome) → Ends r old new whole → (left : Output) × SentBoth old new whole.output left
front_of_end (Ok x) old new whole w = front_of_both old new whole.output w.1
front_of_end (Err (Faults.Input fault)) old new whole w = front_of_both old new whole.output w.1
front_of_end (Err Faults.Read) old new whole w = w
front_of_end (Err Faults.Write) old new whole w = w
front_of_end (Err Faults.Memory) old new whole w = w

out_by : (before run : Result (Unit {0}) (Fault ReplayInput)) (old new : Got) (whole : Outcome) → (run ≡ before) ⊎ (run ≡ Err Faults.Write) → Ends before old new whole → Ends run old new whole
out_by before run old new whole (inl same) w = subst (λ r. Ends r old new whole) (sym same) w
out_by before run old new whole (inr failed) w = subst (λ r. Ends r old new whole) (sym failed) (front_of_end before old new whole w)

-- what a call says of the octets of both inputs
abbrev pub Says : Result (Unit {0}) (Fault ReplayInput) → Setup → Timing → Option (List ℕ) → Option (List ℕ) → Got → Got → Type 0
Says r s timing script capture old new = (read : List (List ℕ) → Result Command TcFault) → IsReader read → IfSome script (λ lines. IfSome capture (λ octets.
    (records : Result (List Entry × End) CapFault) → ReadsAs octets records → Ends r old new (timed_outcome read s timing lines records)))

module _ (s : Setup) (timing : Timing) (ended : Ended) (old mid out got : Got) (errors_old errors_new : Option (List ℕ)) (unwritten : Output) (before run : Result (Unit {0}) (Fault ReplayInput)) where
  wrote : (script capture : Option (List ℕ)) (whole : List ℕ → Result (List Entry × End) CapFault → Outcome)
      → IfSome script (λ lines. IfSome capture (λ octets. (records : Result (List Entry × End) CapFault) → ReadsAs octets records → Ends before old mid (whole lines records)))
      → (run ≡ before) ⊎ (run ≡ Err Faults.Write) → KeepsBoth mid out → out ≡ with_unwritten got unwritten
      → IfSome script (λ lines. IfSome capture (λ octets. (records : Result (List Entry × End) CapFault) → ReadsAs octets records → Ends run old (with_unwritten got unwritten) (whole lines records)))
  wrote None capture whole ends kept keeps same = tt
  wrote (Some lines) None whole ends kept keeps same = tt
  wrote (Some lines) (Some octets) whole ends kept keeps same = λ records reads.
      subst (λ (o : Got). Ends run old o (whole lines records)) same (out_by before run old out (whole lines records) kept (ends_kept before old mid out (whole lines records) (ends records reads) keeps))

  pub replay_ending : (script capture : Option (List ℕ)) → Says before s timing script capture old mid
      → (run ≡ before) ⊎ (run ≡ Err Faults.Write) → (unwritten ≡ nothing) ⊎ (run ≡ Err Faults.Write) → KeepsBoth mid out → out ≡ with_unwritten got unwritten
      → ended.status ≡ run_status replay_telling run → IsTold ended.told errors_old errors_new (run_text replay_telling run) → IsReplayEnding s timing script capture ended old got errors_old errors_new
  replay_ending script capture ends kept let_out keeps same status told = record {
    run = run;
    status = status;
    told = told;
    left = record { unwritten = unwritten; let_out = let_out; wrote = λ read is. wrote script capture (timed_outcome read s timing) (ends read is) kept keeps same };
  }

-- both parts are empty
pub nothing_left : (r d : List ℕ) → r ≡ [] → d ≡ [] → ◌≡◌ {A = Output} (record { report = r; departures = d }) nothing
nothing_left r d e f = ap (λ (t : List ℕ). record { report = t; departures = d }) e ∙ ap (λ (t : List ℕ). record { report = []; departures = t }) f

-- nothing is left of both outputs, or a write failed
pub out_both : (run : Result (Unit {0}) (Fault ReplayInput)) (r d : List ℕ) → ((r ≡ []) × (d ≡ [])) ⊎ (run ≡ Err Faults.Write) → ◌⊎◌ (◌≡◌ {A = Output} (record { report = r; departures = d }) nothing) (run ≡ Err Faults.Write)
out_both run r d (inl e) = inl (nothing_left r d e.0 e.1)
out_both run r d (inr e) = inr e

-- what both writers have got is equal where each has got the same
pub both_same : (a a' b b' : Option (List ℕ)) → a ≡ a' → b ≡ b' → ◌≡◌ {A = Got} (record { report = a; departures = b }) (record { report = a'; departures = b' })
both_same a a' b b' e f = ap (λ (t : Option (List ℕ)). record { report = t; departures = b }) e ∙ ap (λ (t : Option (List ℕ)). record { report = a'; departures = t }) f
