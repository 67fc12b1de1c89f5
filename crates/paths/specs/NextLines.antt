-- The table of the streams that come to a port, as `bounds` reads it.
use Rattle.std.specs.Prelude.{ℕ, ◌==◌, Bool, List, [], ◌∷◌, ◌++◌, Option, Some, None, decimal, codes, if◌then◌else◌}
use Rattle.std.specs.List.{concat}
use Rattle.path_bounds.specs.Hops.{is_at, moved}
use Rattle.path_bounds.specs.declared.hop.Coming.{Coming}
use Rattle.path_bounds.specs.declared.hop.Coming.TheVariants as Comings
use Rattle.path_bounds.specs.declared.hop.Hop.{Hop}
use Rattle.traffic.specs.declared.table.Stream.{Stream}

-- the moment of a stream's first frame, where it is known
abbrev pub offset_text : Option ℕ → List ℕ
offset_text None = codes " any "
offset_text (Some offset) = concat (codes " " ∷ decimal offset ∷ codes "ps " ∷ [])

abbrev pub tag_text : Bool → List ℕ
tag_text tagged = if tagged then codes " tagged" else []

abbrev pub shortest_text : Stream → List ℕ
shortest_text x = if x.shortest == x.len then [] else concat (codes " shortest " ∷ decimal x.shortest ∷ [])

abbrev pub jitter_text : ℕ → List ℕ
jitter_text jitter = if jitter == 0 then [] else concat (codes " jitter " ∷ decimal jitter ∷ codes "ps" ∷ [])

-- the line of a stream; its deadline is one of its whole way, and so it isn't said
abbrev pub line_head : Stream → List ℕ
line_head x = concat (
    codes "stream " ∷ decimal x.first_id
    ∷ codes " " ∷ decimal x.priority
    ∷ codes " " ∷ decimal x.len
    ∷ codes " " ∷ decimal x.period
    ∷ codes "ps" ∷ [])

abbrev pub count_text : Stream → List ℕ
count_text x = concat (decimal x.count ∷ [])

abbrev pub line_end : Stream → List ℕ
line_end x = tag_text x.tagged ++ (shortest_text x ++ (jitter_text x.jitter ++ codes "\n"))

abbrev pub stream_line : Stream → List ℕ
stream_line x = line_head x ++ (offset_text x.offset ++ (count_text x ++ line_end x))

-- a comment, where it isn't known when the frames of a stream come
abbrev pub unknown_line : Stream → List ℕ
unknown_line x = concat (codes "# stream " ∷ decimal x.first_id ∷ codes ": it is not known when its frames come\n" ∷ [])

abbrev pub entry_line : Stream → Coming → List ℕ
entry_line x (Comings.Within s) = stream_line (moved x s)
entry_line x _ = unknown_line x

abbrev pub next_line : Bool → Hop → List ℕ
next_line at h = if at then entry_line h.stream h.coming else []

-- all lines
unfoldable pub next_lines : (port : ℕ) → List Hop → List ℕ
next_lines port [] = []
next_lines port (h ∷ hops) = next_line (is_at port h) h ++ next_lines port hops
