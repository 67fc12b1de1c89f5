-- The table of one request more.
use Rattle.std.proofs.Common.{◌≡◌, ℕ, List, [], ◌∷◌, ◌++◌, Option, Some, None, Result, Ok, Err, refl, ap, ◌∙◌, append_assoc}
use Rattle.job.proofs.LineLaws.{behind}
use Rattle.frame_table.specs.Words.{AbstractPort, Arrival, Asks, BadLine, Command, Event, NoCommand, Request, Stream, TcFault, answers_to, events_of, left_rows, responses_to, rows_at, rows_by, rows_of, rows_text, table_by, table_unless, tc_request}
use Rattle.frame_table.proofs.RowLaws.{rows-append}

-- a line that begins with tc has no row
pub rows-tc : (c : Result Command TcFault) (p : AbstractPort) (w : List (List Arrival)) → rows_by (tc_request c) p w ≡ ([], w)
rows-tc (Ok command) p w = refl
rows-tc (Err fault) p w = refl

unless-more : (fault : Option BadLine) (event : Event) (rest : List Event) (p : AbstractPort) (w : List (List Arrival))
    → table_unless fault (event ∷ rest) p w ≡ (rows_at event p w).0 ++ table_unless fault rest (answers_to event p).1 (rows_at event p w).1
unless-more None event rest p w =
    let here = rows_at event p w in
    let later = rows_of rest (answers_to event p).1 here.1 in
    append_assoc here.0 later.0 (left_rows later.1)
unless-more (Some fault) event rest p w = refl

pub by-more : (streams : Option (List Stream)) (r : Request) (rest : List Request) (fault : Option BadLine) (p : AbstractPort) (w : List (List Arrival))
    → table_by streams (r ∷ rest) fault p w ≡ behind (rows_text streams (rows_by r p w).0) (table_by streams rest fault (responses_to r p).1 (rows_by r p w).1)
by-more streams (Asks event) rest fault p w =
    ap (λ (text : List ℕ). record { text = text; fault = fault })
    (ap (rows_text streams) (unless-more fault event (events_of rest) p w) ∙ rows-append streams (rows_at event p w).0 (table_unless fault (events_of rest) (answers_to event p).1 (rows_at event p w).1))
by-more streams (NoCommand bad) rest fault p w = refl
