use Rattle.std.proofs.Common.{◌≡◌, inl, inr, map, refl, true, subst, string_bytes}
use Rattle.clap.specs.Simple.{App, HasMatchesOf}
use Rattle.clap.specs.Takes.{takes}
use Rattle.clap.specs.Values.{kind_of}
use Rattle.clap.specs.Matches.{found_of}
use Rattle.clap.specs.declared.error.kind.ErrorKind.TheVariants as Kinds
use Rattle.program.proofs.NameLaws.{named, unnamed}
use Rattle.program.proofs.calls.answer_words.Goals as goal

pub returns-in_default : goal.returns-in_default
returns-in_default g c = inr (inl (record { kind = Kinds.OutOfMemory; taken = λ taken. refl; ending = inl c.end_forgotten.ensures }))

pub returns-in-Err : goal.returns-in-Err
returns-in-Err g c = inr (inl (record {
  kind = kind_of c.in-Err.error;
  taken = subst (λ (app : App). takes app (map string_bytes c.args.words.now) ≡ true → kind_of c.in-Err.error ≡ Kinds.OutOfMemory) c.in-Ok.ensures c.in-Err.ensures.passes;
  ending = c.answer_refusal.ensures;
}))

pub returns-in-Some : goal.returns-in-Some
returns-in-Some g c =
    let matches = c.in-Ok-try_get_matches_from.matches in
    let words = map string_bytes c.args.words.now in
    let has = subst (λ (app : App). HasMatchesOf app words matches) c.in-Ok.ensures c.in-Ok-try_get_matches_from.ensures.matches in
    inl (record {
      job = c.in-Some.name;
      found = found_of c.in-Some.given.now;
      named = named matches words c.in-Some.name c.in-Some.given.now has c.in-Some.ensures.some;
      ending = c.answer_asked.ensures;
    })

pub returns : goal.returns
returns g c =
    let matches = c.in-Ok-try_get_matches_from.matches in
    let words = map string_bytes c.args.words.now in
    let has = subst (λ (app : App). HasMatchesOf app words matches) c.in-Ok.ensures c.in-Ok-try_get_matches_from.ensures.matches in
    inr (inr (record { none = unnamed matches words has (c.in-None.ensures.none refl); ending = c.end_usage.ensures }))
