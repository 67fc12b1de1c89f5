-- What is shown after a start.
use Rattle.std.proofs.Common.{◌≡◌, ℕ, List, Some, true, false, if◌then◌else◌, ap, ap₂, ◌∙◌}
use Rattle.abstract_port.specs.declared.Start.{Start}
use Rattle.drawing.specs.Words.{Filled, frame_drawn, is_drawn, wait_drawn}
use Rattle.drawing.specs.Shapes.{Shown, with_start}

-- one that is drawn
pub start_drawn : (came : ℕ) (s : Start) (x y : Shown) (frames waits : List Filled) → x ≡ y → true ≡ is_drawn s → frames ≡ frame_drawn x.view s x.frames → waits ≡ wait_drawn x.view s.class came s.at (Some s.id) x.waits
    → record x { frames = frames; waits = waits } ≡ with_start came s y
start_drawn came s x y frames waits same drawn f w =
    let all : Shown = record x { frames = frame_drawn x.view s x.frames; waits = wait_drawn x.view s.class came s.at (Some s.id) x.waits } in
    ap₂ (λ a b. record x { frames = a; waits = b }) f w ∙ ap (λ b. if b then all else x) drawn ∙ ap (with_start came s) same

-- one that isn't
pub start_hidden : (came : ℕ) (s : Start) (x : Shown) → false ≡ is_drawn s → x ≡ with_start came s x
start_hidden came s x drawn =
    let all : Shown = record x { frames = frame_drawn x.view s x.frames; waits = wait_drawn x.view s.class came s.at (Some s.id) x.waits } in
    ap (λ b. if b then all else x) drawn
