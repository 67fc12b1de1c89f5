use Rattle.std.proofs.Common.{inl, inr, refl, sym, ◌∙◌}
use Rattle.clap.specs.Values.{kind_of}
use Rattle.program.specs.Jobs.{IsAsked}
use Rattle.program.proofs.calls.answer_refusal.Goals as goal

pub returns-in-DisplayHelp : goal.returns-in-DisplayHelp
returns-in-DisplayHelp g c =
    let asked : IsAsked (kind_of c.args.error.now) = elim c.in-DisplayHelp.is [
      | inl help ↦ inl (sym c.kind.ensures ∙ help)
      | inr version ↦ inr (sym c.kind.ensures ∙ version)
    ] in
    inr (_, inl (asked, c.end_help.ensures, refl))

pub returns : goal.returns
returns g c =
    let other : IsAsked (kind_of c.args.error.now) → ⊥ = λ asked. elim asked [
      | inl help ↦ c.in_default-kind.not-DisplayHelp (c.kind.ensures ∙ help)
      | inr version ↦ c.in_default-kind.not-DisplayVersion (c.kind.ensures ∙ version)
    ] in
    inr (_, inr ((other, λ memory. c.in_default-kind.not-OutOfMemory (c.kind.ensures ∙ memory)), c.end_usage.ensures))
