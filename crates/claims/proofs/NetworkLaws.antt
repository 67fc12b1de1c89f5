-- All classes that are judged keep time, one after another in their order.
use Rattle.std.proofs.Common.{◌≡◌, ◌<◌, ◌≤◌, inl, inr, ℕ, zero, suc, ◌+◌, true, Option, Some, None, slice_get, refl, ap, subst, arith}
use Rattle.abstract_port.specs.declared.Start.{Start}
use Rattle.abstract_port.specs.Traffic.{Came}
use Rattle.claims.specs.LateClaim.{CurveClaim, WindowClaim}
use Rattle.claims.specs.OtherClasses.{OthersLaw}
use Rattle.claims.specs.SharedClaim.{SharedClaim}
use Rattle.claims.proofs.CurveLaws.{curve_promise}
use Rattle.claims.proofs.Lengths.{ended, need_of_stream}
use Rattle.claims.proofs.PriorityLaws.{priority_promise, silent_promise}
use Rattle.claims.proofs.WindowLaws.{window_promise}
use Rattle.claims.specs.Network.{Hop, IsFromBefore, IsLong, IsNetworkRun, IsNumbered, IsWithin, Link, Network, PortRun, started_at}
use Rattle.claims.specs.NetworkClaim.{EndsInTime, FollowsFrom, IsJudged, IsTold, KeepsTime, NetworkClaim, NetworkLaw}
use Rattle.claims.specs.Promise.{AreInTime, AreLong, AreWithin, IsPromise, need_at}

module _ (net : Network) (told : IsTold net) (runs : ℕ → PortRun) (nominal : (stream n : ℕ) → ℕ) (run : IsNetworkRun net runs nominal) where
  -- ---- how long frames are

  long_next : (m p class : ℕ) → ((q c : ℕ) → net.order q c < m → net.judged q c ≡ true → AreLong net q c (runs q))
      → net.order p class ≤ m → net.judged p class ≡ true → AreLong net p class (runs p)
  long_next m p class before le judged k i n f h is = by h.before refl
    where
      by : (o : Option Link) → h.before ≡ o → IsLong (net.streams h.stream) f
      by None e = (run.talkers p class k i n f h judged is e).0
      by (Some l) e =
          let link = told.links p class i h l judged is.hop e in
          let came = run.links p class k i n f h l judged is e in
          let b = link.2 in
          let sooner = link.1 in
          let long = before l.port l.class (omega (arith, sooner, le)) link.0 came.place l.place n came.frame b
          (record { came = came.came; number = came.number; hop = link.3 }) in
          subst (λ s. IsLong (net.streams s) f) link.4.same
          (subst (λ len. ((net.streams b.stream).shortest ≤ len) × (len ≤ (net.streams b.stream).longest)) came.same long)

  long_by : (m p class : ℕ) → net.order p class < m → net.judged p class ≡ true → AreLong net p class (runs p)
  long_by zero p class less judged = absurd (omega (arith, less))
  long_by (suc m) p class less judged =
      long_next m p class (λ q c sooner own. long_by m q c sooner own) (omega (arith, less)) judged

  are_long : (p class : ℕ) → net.judged p class ≡ true → AreLong net p class (runs p)
  are_long p class judged = long_by (suc (net.order p class)) p class (omega arith) judged

  -- ---- when a frame ends

  ends_at : (p class k i n : ℕ) (f : Came) (h : Hop) (x : Start) → net.judged p class ≡ true
      → AreInTime net p class (runs p) nominal → IsNumbered net p class (runs p) k i n f h
      → slice_get (started_at net p class (runs p)) k ≡ Some x → x.«end» ≡ x.at + need_at net p f.frame.len
  ends_at p class k i n f h x judged kept is e = (ended net p class (runs p) (run.ports p class judged) kept.all k i n f h x is e).1

  -- ---- from one port to the next

  -- what a class that keeps time sends comes to the next port within the window there
  passed : (p class k i n : ℕ) (f : Came) (h b : Hop) (l : Link) → net.judged l.port l.class ≡ true
      → AreInTime net l.port l.class (runs l.port) nominal → IsNumbered net p class (runs p) k i n f h
      → slice_get (net.hops l.port l.class) l.place ≡ Some b → FollowsFrom net p h l b → IsFromBefore net runs p n l f
      → IsWithin (runs p).command.change (nominal h.stream n) h f
  passed p class k i n f h b l judged kept is there follows came =
      let sent = came.sent kept.all in
      let x = sent.0 in
      let mine : IsNumbered net l.port l.class (runs l.port) came.place l.place n came.frame b
      = record { came = came.came; number = came.number; hop = there } in
      let starts = kept.each came.place l.place n came.frame b mine in
      let from = starts.no_sooner x sent.1 in
      let to = starts.no_later x sent.1 in
      let end = ends_at l.port l.class came.place l.place n came.frame b x judged kept mine sent.1 in
      let long = are_long l.port l.class judged came.place l.place n came.frame b mine in
      let need = need_of_stream net l.port (net.streams b.stream) came.frame long in
      let least = need.0 in
      let most = need.1 in
      let moment : nominal b.stream n ≡ nominal h.stream n = ap (λ s. nominal s n) follows.same in
      let short : need_at net l.port (net.streams b.stream).shortest ≡ need_at net l.port (net.streams h.stream).shortest
      = ap (λ s. need_at net l.port (net.streams s).shortest) follows.same in
      let wide : need_at net l.port (net.streams b.stream).longest ≡ need_at net l.port (net.streams h.stream).longest
      = ap (λ s. need_at net l.port (net.streams s).longest) follows.same in
      let begins = follows.begins in
      let ends = follows.ends in
      let sooner = sent.2.no_sooner in
      let later = sent.2.no_later in (
        omega (arith, from, end, least, moment, short, begins, sooner),
        omega (arith, to, end, most, moment, wide, ends, later),
      )

  -- ---- one class after another

  module _ (promise : (p class : ℕ) → net.judged p class ≡ true → IsPromise net p class) where
    abbrev Keeps : (p class : ℕ) → Type 0
    Keeps p class = AreWithin net p class (runs p) nominal × AreInTime net p class (runs p) nominal

    next : (m p class : ℕ) → ((q c : ℕ) → net.order q c < m → net.judged q c ≡ true → Keeps q c)
        → net.order p class ≤ m → net.judged p class ≡ true → Keeps p class
    next m p class before le judged = (
      within,
      promise p class judged (runs p) nominal (record {
        moments = run.moments;
        runs = λ j own. run.ports p j own;
        others = λ j limit e. run.others p j limit e;
        long = λ j own. are_long p j own;
        come = within;
        before = λ j own sooner. (before p j (omega (arith, sooner, le)) own).0;
      }),
    )
      where
        within : AreWithin net p class (runs p) nominal
        within k i n f h is = by h.before refl
          where
            by : (o : Option Link) → h.before ≡ o → IsWithin (runs p).command.change (nominal h.stream n) h f
            by None e = (run.talkers p class k i n f h judged is e).1
            by (Some l) e =
                let link = told.links p class i h l judged is.hop e in
                let sooner = link.1 in
                passed p class k i n f h link.2 l link.0 (before l.port l.class (omega (arith, sooner, le)) link.0).1 is link.3 link.4
                (run.links p class k i n f h l judged is e)

    keeps_by : (m p class : ℕ) → net.order p class < m → net.judged p class ≡ true → Keeps p class
    keeps_by zero p class less judged = absurd (omega (arith, less))
    keeps_by (suc m) p class less judged =
        next m p class (λ q c sooner own. keeps_by m q c sooner own) (omega (arith, less)) judged

    keeps : (p class : ℕ) → net.judged p class ≡ true → Keeps p class
    keeps p class judged = keeps_by (suc (net.order p class)) p class (omega arith) judged

    ends_in_time : (p class k i n : ℕ) (f : Came) (h : Hop) → net.judged p class ≡ true
        → IsNumbered net p class (runs p) k i n f h → EndsInTime net runs nominal p class k n h
    ends_in_time p class k i n f h judged is =
        let kept = (keeps p class judged).1 in
        let starts = kept.each k i n f h is in
        let need = need_of_stream net p (net.streams h.stream) f (are_long p class judged k i n f h is) in
        let short = need.0 in
        let wide = need.1 in
        record {
          no_sooner = λ x least e bound.
              let from = starts.no_sooner x e in
              let end = ends_at p class k i n f h x judged kept is e in
              omega (arith, from, end, short, bound);
          no_later = λ x greatest e bound.
              let to = starts.no_later x e in
              let end = ends_at p class k i n f h x judged kept is e in
              omega (arith, to, end, wide, bound);
        }

    keeps_time : (p class : ℕ) → net.judged p class ≡ true → KeepsTime net runs nominal p class
    keeps_time p class judged = record {
      all = (keeps p class judged).1.all;
      long = are_long p class judged;
      comes = (keeps p class judged).0;
      starts = (keeps p class judged).1.each;
      ends = λ k i n f h is. ends_in_time p class k i n f h judged is;
    }

pub network_law : NetworkLaw
network_law net told promise runs nominal run p class judged = keeps_time net told runs nominal run promise p class judged

pub network_claim : WindowClaim → CurveClaim → SharedClaim → OthersLaw → NetworkClaim
network_claim by_windows by_curves by_priority others net told ways runs nominal run =
    network_law net told (λ p class judged. promise p class judged (ways p class judged)) runs nominal run
  where
    promise : (p class : ℕ) → net.judged p class ≡ true → IsJudged net p class → IsPromise net p class
    promise p class judged (inl silent) = silent_promise net p class judged silent
    promise p class judged (inr (inl w)) = window_promise by_windows net p class judged w
    promise p class judged (inr (inr (inl c))) = curve_promise by_curves net p class judged c
    promise p class judged (inr (inr (inr s))) = priority_promise by_priority others net p class judged s
