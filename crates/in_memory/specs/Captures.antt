-- What a replay over memory reports, and what it leaves in its three slices.
use Rattle.std.specs.Prelude.{◌≡◌, ◌<◌, ◌⊎◌, List, ℕ, [], length, Result, Ok, Err}
use Rattle.replay.specs.Outcome.{Outcome}
use Rattle.replay.specs.Texts.{replay_telling}
use Rattle.script.specs.Texts.{value_text}
use Rattle.script.specs.declared.settings.BadValue.{BadValue}
use Rattle.in_memory.specs.Slices.{IsPut, status_of, text_of}
use Rattle.in_memory.specs.declared.captures.ReplayRan.{ReplayRan}

-- 1. What is reported

-- a status, both outputs, and the text of a fault, which is empty where there is none
pub record ToldReplay : Type 0 where
  pub status : ℕ
  pub report : List ℕ
  pub departures : List ℕ
  pub fault : List ℕ

-- both outputs with the fault that ends them
abbrev pub told_of_replay : Outcome → ToldReplay
told_of_replay whole =
    record {
      status = status_of replay_telling whole.fault;
      report = whole.output.report;
      departures = whole.output.departures;
      fault = text_of replay_telling whole.fault;
    }

-- a bad value, with status 2 and no output
abbrev pub refused_replay : BadValue → ToldReplay
refused_replay value = record { status = 2; report = []; departures = []; fault = value_text value }

-- by what values say: what is to be written by them, or the first that is bad
abbrev pub told_by_replay : {S : Type 0} → (S → Outcome) → Result S BadValue → ToldReplay
told_by_replay whole (Ok settings) = told_of_replay (whole settings)
told_by_replay whole (Err value) = refused_replay value

-- 2. What is left in the slices

-- what the three slices hold
pub record Outputs : Type 0 where
  pub report : List ℕ
  pub departures : List ℕ
  pub fault : List ℕ

-- what stands in three slices, as a record
abbrev pub outputs : List ℕ → List ℕ → List ℕ → Outputs
outputs report departures fault = record { report = report; departures = departures; fault = fault }

-- how long each text is, is reported
pub record TellsLengths (told : ToldReplay) (ran : ReplayRan) : Type 0 where
  pub report : ran.report ≡ length told.report
  pub departures : ran.departures ≡ length told.departures
  pub fault : ran.fault ≡ length told.fault

-- all is reported: each stands at the front of its slice
pub record IsWholeReplay (told : ToldReplay) (ran : ReplayRan) (old new : Outputs) : Type 0 where
  pub status : ran.status ≡ told.status
  pub report : IsPut old.report new.report told.report
  pub departures : IsPut old.departures new.departures told.departures
  pub fault : IsPut old.fault new.fault told.fault
  pub lengths : TellsLengths told ran

-- a slice has too little room for its text
abbrev pub Lacks : ToldReplay → Outputs → Type 0
Lacks told old = (length old.report < length told.report) ⊎ ((length old.departures < length told.departures) ⊎ (length old.fault < length told.fault))

-- A slice has too little room: nothing is written, and how much room all want is reported.
pub record HasNoRoomFor (told : ToldReplay) (ran : ReplayRan) (old new : Outputs) : Type 0 where
  pub status : ran.status ≡ 5
  pub lacking : Lacks told old
  pub lengths : TellsLengths told ran
  pub kept : new ≡ old

-- Out of memory: nothing is written.
pub record HasNoReplayMemory (ran : ReplayRan) (old new : Outputs) : Type 0 where
  pub ended : ran ≡ record { report = 0; departures = 0; fault = 0; status = 4 }
  pub kept : new ≡ old

-- one of the three
abbrev pub Replays : ToldReplay → ReplayRan → Outputs → Outputs → Type 0
Replays told ran old new = IsWholeReplay told ran old new ⊎ (HasNoRoomFor told ran old new ⊎ HasNoReplayMemory ran old new)
