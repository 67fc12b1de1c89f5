-- The records of frames, one after another.
use Rattle.std.proofs.Common.{◌≡◌, ℕ, List, [], ◌∷◌, ◌++◌, length, refl, ap, ◌∙◌}
use Rattle.capture.specs.CaptureWriter.{written_format, written_record}
use Rattle.capture.specs.Layout.{spelled_record, spelled_record_header}
use Rattle.traffic.specs.declared.course.Coming.{Coming}
use Rattle.table_capture.specs.Octets.{captured_of, frame_octets, front_of, record_of}
use Rattle.table_capture.specs.Outcome.{records_of}
use Rattle.table_capture.proofs.Filled.{filled_long}

-- after the last frame
pub no_records : (frames : List Coming) → frames ≡ [] → records_of frames ≡ []
no_records frames e = ap records_of e

-- before a frame
pub next_record : (all : List Coming) (c : Coming) (rest : List Coming) → all ≡ c ∷ rest → records_of all ≡ spelled_record written_format (record_of c) ++ records_of rest
next_record all c rest e = ap records_of e

-- a record as it is written
pub written_is : (c : Coming) (octets : List ℕ) → octets ≡ frame_octets c.frame → written_record c.moment c.frame.len octets ≡ spelled_record written_format (record_of c)
written_is c octets e =
    let long : length (frame_octets c.frame) ≡ captured_of c.frame.len = filled_long (captured_of c.frame.len) (front_of c.frame) in
    ap (written_record c.moment c.frame.len) e ∙ ap (λ n. spelled_record_header written_format c.moment n c.frame.len ++ frame_octets c.frame) long
