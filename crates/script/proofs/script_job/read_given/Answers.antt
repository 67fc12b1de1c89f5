use Rattle.std.proofs.Common.{◌≡◌, ℕ, List, Option, Some, None, refl, ap, ◌∙◌}
use Rattle.std.specs.Prelude.{unwrap_or, option_map}
use denote.Bor.{Bor}
use Rattle.script.specs.Words.{settings_of}
use Rattle.script.proofs.script_job.read_given.Goals as goal

-- what a text that is given or another shows
unwrapped : (o : Option (Bor (List ℕ))) (d : Bor (List ℕ)) → (unwrap_or o d).now ≡ unwrap_or (option_map (λ t. t.now) o) d.now
unwrapped None d = refl
unwrapped (Some t) d = refl

alike : (greatest : ℕ) (a b d a' b' d' : List ℕ) (until : Option (List ℕ)) → a ≡ a' → b ≡ b' → d ≡ d' → settings_of a b d until greatest ≡ settings_of a' b' d' until greatest
alike greatest a b d a' b' d' until e f h =
    ap (λ x. settings_of x b d until greatest) e ∙ (ap (λ x. settings_of a' x d until greatest) f ∙ ap (λ x. settings_of a' b' x until greatest) h)

pub returns : goal.returns
returns c =
    let until = option_map (λ (t : Bor (List ℕ)). t.now) c.args.values.until in
    c.read.ensures
    ∙ alike c.args.greatest _ _ _ _ _ _ until
    (ap (λ (t : Bor (List ℕ)). t.now) c.unwrap_or.ensures ∙ unwrapped c.args.values.rate _)
    (ap (λ (t : Bor (List ℕ)). t.now) c.unwrap_or-2.ensures ∙ unwrapped c.args.values.mtu _)
    (ap (λ (t : Bor (List ℕ)). t.now) c.unwrap_or-3.ensures ∙ unwrapped c.args.values.room _)
