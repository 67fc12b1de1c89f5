-- What a call takes of what is asked, or where it can't go on in that; and the laws of a taker that writes rows.
use Rattle.std.proofs.Common.{◌≡◌, ◌++◌, List, [], Option, Result, Ok, Err, refl, ◌∙◌, subst, append_assoc}
use Rattle.job.specs.declared.halt.Halt.{Halt}
use Rattle.script.specs.Alerts.{Alert}
use Rattle.script.specs.Requests.{Request}
use Rattle.script.specs.declared.faults.BadLine.{BadLine}
use Rattle.script.proofs.AlertLaws.{alerted_more}
use Rattle.frame_table.specs.Walk.{Carries, Place, Stands, alerts_at}
use Rattle.traffic.specs.declared.table.Stream.{Stream}

module _ {H : Type 0} (alerted : List Alert → H → H → Type 0) (streams : Option (List Stream)) where
  -- a call takes these requests in whole
  abbrev pub TakesRows : List Request → Place H → Place H → Type 0
  TakesRows requests from to = Carries alerted streams {T = Unit {0}} (Ok tt) requests from to

  -- or it can't go on in them
  abbrev pub StopsKept : List Request → Halt → Place H → Place H → Type 0
  StopsKept requests halt from to = Carries alerted streams {T = Unit {0}} (Err halt) requests from to

  -- requests before others
  before : (fault : Option BadLine) (xs ys : List Request) (x : Place H) (first : Place H) (all rest : List Request) → Stands alerted streams fault first all ((xs ++ ys) ++ rest) x → Stands alerted streams fault first all (xs ++ (ys ++ rest)) x
  before fault xs ys x first all rest st = subst (λ (rs : List Request). Stands alerted streams fault first all rs x) (append_assoc xs ys rest) st

  pub takes_both : (r : Result (Unit {0}) Halt) (xs ys : List Request) {x y : Place H} (z : Place H) → TakesRows xs x y → Carries alerted streams r ys y z → Carries alerted streams r (xs ++ ys) x z
  takes_both r xs ys {x} z a b fault first all rest st = b fault first all rest (a fault first all (ys ++ rest) (before fault xs ys x first all rest st))

  -- who watches was told of what is no alert
  pub let_know : ((xs ys : List Alert) (s t u : H) → alerted xs s t → alerted ys t u → alerted (xs ++ ys) s u) → (fault : Option BadLine) (first : Place H) (all left : List Request) (x : Place H) (k : H)
      → Stands alerted streams fault first all left x → alerted [] x.watch k → Stands alerted streams fault first all left (record x { watch = k })
  let_know both fault first all left x k st a = record {
    sent = st.sent;
    told = alerted_more alerted both (alerts_at streams fault all first) (alerts_at streams fault left x) [] (alerts_at streams fault left x) first.watch x.watch k st.told refl a;
    sound = st.sound;
  }

-- a taker takes these requests, and its streams stay
abbrev pub TakesKept : {H : Type 0} → (List Alert → H → H → Type 0) → (before after : Option (List Stream)) → List Request → Place H → Place H → Type 0
TakesKept alerted before after requests from to = (after ≡ before) × TakesRows alerted before requests from to

module _ {H : Type 0} (alerted : List Alert → H → H → Type 0) (f : Option (List Stream)) where
  pub kept_none : (x : Place H) → TakesKept alerted f f [] x x
  kept_none x = (refl, λ fault first all rest st. st)

  pub kept_untold : ((xs ys : List Alert) (s t u : H) → alerted xs s t → alerted ys t u → alerted (xs ++ ys) s u) → (x : Place H) (k : H) → alerted [] x.watch k → TakesKept alerted f f [] x (record x { watch = k })
  kept_untold both x k told = (refl, λ fault first all rest st. let_know alerted f both fault first all rest x k st told)

  pub kept_both : (g h : Option (List Stream)) (xs ys : List Request) {x y : Place H} (z : Place H) → TakesKept alerted f g xs x y → TakesKept alerted g h ys y z → TakesKept alerted f h (xs ++ ys) x z
  kept_both g h xs ys {x} {y} z (e, a) (d, b) = (d ∙ e, takes_both alerted f (Ok tt) xs ys z a (subst (λ (s : Option (List Stream)). TakesRows alerted s ys y z) e b))

  pub kept_later : (g : Option (List Stream)) (xs ys : List Request) (halt : Halt) {x y : Place H} (z : Place H) → TakesKept alerted f g xs x y → StopsKept alerted g ys halt y z → StopsKept alerted f (xs ++ ys) halt x z
  kept_later g xs ys halt {x} {y} z (e, a) b = takes_both alerted f (Err halt) xs ys z a (subst (λ (s : Option (List Stream)). StopsKept alerted s ys halt y z) e b)
