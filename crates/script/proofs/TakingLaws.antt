-- What a taker has taken, call by call.
use Rattle.std.proofs.Common.{◌≡◌, List, [], ◌++◌, refl, sym, ap, ◌∙◌, subst, append_assoc, append-nil}
use Rattle.job.specs.declared.halt.Halt.{Halt}
use Rattle.script.specs.Requests.{Request}
use Rattle.script.specs.Walked.{Halting, HaltsIn, TakesFirst, Taking}

module _ {S W H : Type 0} (took : Taking S W H) (cut : Halting S W H) where
  -- What was taken so far, followed by what is to come, is all that is asked.
  pub record HasTaken (s : S) (w : W) (h : H) (t : S) (v : W) (k : H) (all rest : List Request) : Type 0 where
    pub so_far : List Request
    pub taken : took so_far s w h t v k
    pub parts : all ≡ so_far ++ rest

  pub taken_none : ((s : S) (w : W) (h : H) → took [] s w h s w h) → (s : S) (w : W) (h : H) (all : List Request) → HasTaken s w h s w h all all
  taken_none nothing s w h all = record { so_far = []; taken = nothing s w h; parts = refl }

  module _ (s : S) (w : W) (h : H) (t : S) (v : W) (k : H) (all rest : List Request) (a : HasTaken s w h t v k all rest) where
    -- these are taken, too
    pub taken_more : ((xs ys : List Request) (s t u : S) (w v x : W) (h k l : H) → took xs s w h t v k → took ys t v k u x l → took (xs ++ ys) s w h u x l)
        → (u : S) (x : W) (l : H) (more later : List Request) → rest ≡ more ++ later → took more t v k u x l → HasTaken s w h u x l all later
    taken_more both u x l more later e took_more = record {
      so_far = a.so_far ++ more;
      taken = both a.so_far more s t u w v x h k l a.taken took_more;
      parts = a.parts ∙ ap (λ y. a.so_far ++ y) e ∙ sym (append_assoc a.so_far more later);
    }

    -- nothing more is to come
    pub taken_all : rest ≡ [] → took all s w h t v k
    taken_all e = subst (λ (y : List Request). took y s w h t v k) (sym (a.parts ∙ ap (λ y. a.so_far ++ y) e ∙ append-nil a.so_far)) a.taken

    -- a read failed
    pub taken_first : TakesFirst took cut all s w h t v k
    taken_first = record { first = a.so_far; rest = rest; parts = a.parts; taken = a.taken }

    -- a call couldn't go on
    pub taken_short : ((xs ys : List Request) (halt : Halt) (s t u : S) (w v x : W) (h k l : H) → took xs s w h t v k → cut ys halt t v k u x l → cut (xs ++ ys) halt s w h u x l)
        → (u : S) (x : W) (l : H) (halt : Halt) (more later : List Request) → rest ≡ more ++ later → cut more halt t v k u x l → HaltsIn took cut all halt s w h u x l
    taken_short cut_later u x l halt more later e short = record {
      first = a.so_far ++ more;
      rest = later;
      parts = a.parts ∙ ap (λ y. a.so_far ++ y) e ∙ sym (append_assoc a.so_far more later);
      halted = cut_later a.so_far more halt s t u w v x h k l a.taken short;
    }
