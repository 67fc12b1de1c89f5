use Rattle.std.proofs.Common.{◌≡◌, Bool, List, ℕ, Option, ap₂, ◌∙◌}
use Rattle.script.specs.Given.{GivenWords}
use Rattle.stream_bounds.specs.BoundsEnd.{Asked, bounds_given}
use Rattle.program.proofs.bounds_call.bounds_settings.Goals as goal

-- the settings of the same values are the same
same : (w v : GivenWords) (m n f h q r : Option (List ℕ)) (s t k l y z o p : Bool) → w ≡ v → m ≡ n → f ≡ h → q ≡ r → s ≡ t → k ≡ l → y ≡ z → o ≡ p
    → bounds_given w m f q (record { strict = s; slack = k; why = y; leftovers = o })
    ≡ bounds_given v n h r (record { strict = t; slack = l; why = z; leftovers = p })
same w v m n f h q r s t k l y z o p words maps frames silents stricts slacks whys leftovers =
    let asked : Asked = record { strict = s; slack = k; why = y; leftovers = o } in
    ap₂ (λ (words : GivenWords) (map : Option (List ℕ)). bounds_given words map f q asked) words maps
    ∙ (ap₂ (λ (frames silent : Option (List ℕ)). bounds_given v n frames silent asked) frames silents
    ∙ (ap₂ (λ (strict slack : Bool). bounds_given v n h r (record { strict = strict; slack = slack; why = y; leftovers = o })) stricts slacks
    ∙ ap₂ (λ (why left : Bool). bounds_given v n h r (record { strict = t; slack = l; why = why; leftovers = left })) whys leftovers))

pub returns : goal.returns
returns c =
    let words = c.bounds_of.ensures in
    c.bounds_given.ensures ∙ same _ _ _ _ _ _ _ _ _ _ _ _ _ _ _ _ words.port words.map words.frames words.silent words.strict words.slack words.why words.leftovers
