-- Lines that are written of what is told, one after another.
use Rattle.std.proofs.Common.{◌≡◌, ℕ, List, [], ◌++◌, Option, refl, sym, ap, ◌∙◌, subst, append_assoc}
use Rattle.std.specs.Io.KnownBytes.{Appends}
use Rattle.text.specs.Writes.{AppendsFront}
use Rattle.text.proofs.Fronts.{Appends-append, Appends-nil}
use Rattle.script.specs.Told.{Told}
use Rattle.script.specs.ToldLines.{lines-both, noted-both, noted_told, told_lines}
use Rattle.summary.specs.Observed.{Observed}

-- the lines of what is told are written, and it is noted
abbrev pub Lined : List Told → Option Observed → Option (List ℕ) → Option Observed → Option (List ℕ) → Type 0
Lined told seen_old old seen_new new = Appends old new (told_lines told) × (seen_new ≡ noted_told told seen_old)

-- a front of the lines of what is told is written
abbrev pub LinedFront : List Told → Option (List ℕ) → Option (List ℕ) → Type 0
LinedFront told old new = AppendsFront old new (told_lines told)

pub none_lined : (o : Option Observed) (a : Option (List ℕ)) → Lined [] o a o a
none_lined o a = (Appends-nil a, refl)

pub lined_both : (xs ys : List Told) (o p q : Option Observed) (a b c : Option (List ℕ)) → Lined xs o a p b → Lined ys p b q c → Lined (xs ++ ys) o a q c
lined_both xs ys o p q a b c (w, e) (v, f) =
    let P : List ℕ → Type 0 = λ text. Appends a c text in
    (subst P (sym (lines-both xs ys)) (Appends-append a b c (told_lines xs) (told_lines ys) w v), f ∙ ap (noted_told ys) e ∙ sym (noted-both xs ys o))

pub front_later : (xs ys : List Told) (o p : Option Observed) (a b c : Option (List ℕ)) → Lined xs o a p b → LinedFront ys b c → LinedFront (xs ++ ys) a c
front_later xs ys o p a b c (w, e) (left, s) = (
  left,
  record {
    done = told_lines xs ++ s.done;
    appended = Appends-append a b c (told_lines xs) s.done w s.appended;
    parts = lines-both xs ys ∙ ap (λ t. told_lines xs ++ t) s.parts ∙ sym (append_assoc (told_lines xs) s.done left);
  },
)

pub front_here : (xs ys : List Told) (o p : Option Observed) (a b : Option (List ℕ)) → Lined xs o a p b → LinedFront (xs ++ ys) a b
front_here xs ys o p a b (w, e) = (told_lines ys, record { done = told_lines xs; appended = w; parts = lines-both xs ys })

pub front_sooner : (xs ys : List Told) (a b : Option (List ℕ)) → LinedFront xs a b → LinedFront (xs ++ ys) a b
front_sooner xs ys a b (left, s) = (
  left ++ told_lines ys,
  record {
    done = s.done;
    appended = s.appended;
    parts = lines-both xs ys ∙ ap (λ t. t ++ told_lines ys) s.parts ∙ append_assoc s.done left (told_lines ys);
  },
)
