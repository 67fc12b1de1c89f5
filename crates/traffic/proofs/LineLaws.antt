-- The lines of frames, one after another.
use Rattle.std.proofs.Common.{◌≡◌, ℕ, List, [], ◌∷◌, ◌++◌, Option, Some, refl, ap, ◌∙◌}
use Rattle.traffic.specs.Words.{clock_to, frame_line, lines_of, Coming}

no_line : (written : Option ℕ) → lines_of written [] ≡ []
unfolding lines_of
no_line written = refl

-- after the last frame
pub no_lines : (written : Option ℕ) (fs : List Coming) → fs ≡ [] → lines_of written fs ≡ []
no_lines written fs e = ap (lines_of written) e ∙ no_line written

line_and_rest : (written : Option ℕ) (f : Coming) (fs : List Coming) → lines_of written (f ∷ fs) ≡ clock_to written f.moment ++ frame_line f.frame ++ lines_of (Some f.moment) fs
unfolding lines_of
line_and_rest written f fs = refl

-- before a frame
pub next_line : (written : Option ℕ) (all : List Coming) (f : Coming) (fs : List Coming) → all ≡ f ∷ fs → lines_of written all ≡ clock_to written f.moment ++ frame_line f.frame ++ lines_of (Some f.moment) fs
next_line written all f fs e = ap (lines_of written) e ∙ line_and_rest written f fs
