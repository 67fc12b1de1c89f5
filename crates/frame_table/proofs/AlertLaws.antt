-- What who watches was told, part after part, and where a call failed.
use Rattle.std.proofs.Common.{◌≡◌, inl, inr, List, [], ◌++◌, Option, Some, None, Result, Ok, Err, refl, sym, subst, append-nil}
use Rattle.std.specs.Prelude.{IfSome}
use Rattle.job.specs.RunEnd.{IsOrFails}
use Rattle.job.specs.declared.fault.Fault.{Fault}
use Rattle.job.specs.declared.fault.Fault.TheVariants as Faults
use Rattle.script.specs.Alerts.{Alert, AlertedFront, Alerting}
use Rattle.script.proofs.AlertLaws.{HasAlerted, alerted_all, alerted_more, alerts_same, front_later, front_of_all, front_of_more}
use Rattle.frame_table.specs.Alerts.{WatchedRun}

module _ {H : Type 0} (alerted : List Alert → H → H → Type 0) where
  -- 1. Parts

  -- nothing was told yet
  pub front_none : ((s : H) → alerted [] s s) → (all : List Alert) (h : H) → AlertedFront alerted all h h
  front_none nothing all h = record { first = []; rest = all; alerted_first = nothing h; parts = refl }

  pub alerting_none : ((s : H) → alerted [] s s) → {T E : Type 0} (all : List Alert) (h : H) (r : Result T E) (fault : E) → r ≡ Err fault → Alerting alerted all r h h
  alerting_none nothing {T} {E} all h r fault e = subst (λ (x : Result T E). Alerting alerted all x h h) (sym e) (front_none nothing all h)

  -- no part is left
  pub told_nil : ((s : H) → alerted [] s s) → (all : List Alert) (h : H) → all ≡ [] → alerted all h h
  told_nil nothing all h e = alerts_same alerted [] all h h (sym e) (nothing h)

  -- the parts are the same
  pub alerting_same : {T E : Type 0} (some all : List Alert) (r : Result T E) (h k : H) → some ≡ all → Alerting alerted some r h k → Alerting alerted all r h k
  alerting_same some all r h k e = subst (λ (x : List Alert). Alerting alerted x r h k) e

  module _ (both : (xs ys : List Alert) (s t u : H) → alerted xs s t → alerted ys t u → alerted (xs ++ ys) s u) where
    -- a call failed in the next part
    pub front_in : (all rest told later : List Alert) (h k l : H) → HasAlerted alerted all rest h k → rest ≡ told ++ later → AlertedFront alerted told k l → AlertedFront alerted all h l
    front_in all rest told later h k l g e f = front_later alerted both g.so_far rest all h k l g.parts g.alerted_so_far (front_of_more alerted told later rest k l e f)

    pub alerting_in : {T E : Type 0} (all rest told later : List Alert) (h k l : H) (r : Result T E) (fault : E) → r ≡ Err fault → HasAlerted alerted all rest h k → rest ≡ told ++ later → AlertedFront alerted told k l → Alerting alerted all r h l
    alerting_in {T} {E} all rest told later h k l r fault is g e f = subst (λ (x : Result T E). Alerting alerted all x h l) (sym is) (front_in all rest told later h k l g e f)

    -- the last part
    pub alerting_last : {T E : Type 0} (all rest : List Alert) (h k l : H) (r : Result T E) → HasAlerted alerted all rest h k → Alerting alerted rest r k l → Alerting alerted all r h l
    alerting_last all rest h k l (Ok x) g a = alerted_all alerted all [] h l (alerted_more alerted both all rest rest [] h k l g (sym (append-nil rest)) a) refl
    alerting_last all rest h k l (Err x) g f = front_in all rest rest [] h k l g (sym (append-nil rest)) f

  -- 2. A run

  -- one that follows these alerts
  pub behind : ((xs ys : List Alert) (s t u : H) → alerted xs s t → alerted ys t u → alerted (xs ++ ys) s u) → {T I : Type 0} (first all : List Alert) (r : Result T (Fault I)) (h k l : H) → alerted first h k → WatchedRun alerted all r k l → WatchedRun alerted (first ++ all) r h l
  behind both first all (Ok x) h k l a w = both first all h k l a w
  behind both first all (Err (Faults.Input fault)) h k l a w = both first all h k l a w
  behind both first all (Err Faults.Read) h k l a w = front_later alerted both first all (first ++ all) h k l refl a w
  behind both first all (Err Faults.Write) h k l a w = front_later alerted both first all (first ++ all) h k l refl a w
  behind both first all (Err Faults.Memory) h k l a w = front_later alerted both first all (first ++ all) h k l refl a w

  -- a write failed before anything was read
  pub watched_before : ((s : H) → alerted [] s s) → {X T I : Type 0} (all : X → List Alert) (input : Option X) (h : H) (x : Result T (Fault I)) → x ≡ Err Faults.Write → IfSome input (λ octets. WatchedRun alerted (all octets) x h h)
  watched_before nothing all None h x e = tt
  watched_before nothing {X} {T} {I} all (Some octets) h x e = subst (λ (z : Result T (Fault I)). WatchedRun alerted (all octets) z h h) (sym e) (front_none nothing (all octets) h)

  -- the last write may fail
  pub told_out : {I : Type 0} (all : List Alert) (before run : Result (Unit {0}) (Fault I)) (h k : H) → IsOrFails run before → WatchedRun alerted all before h k → WatchedRun alerted all run h k
  told_out {I} all before run h k (inl same) w = subst (λ (z : Result (Unit {0}) (Fault I)). WatchedRun alerted all z h k) (sym same) w
  told_out {I} all before run h k (inr failed) w = subst (λ (z : Result (Unit {0}) (Fault I)). WatchedRun alerted all z h k) (sym failed) (by before w)
    where
      by : (r : Result (Unit {0}) (Fault I)) → WatchedRun alerted all r h k → AlertedFront alerted all h k
      by (Ok y) w = front_of_all alerted all h k w
      by (Err (Faults.Input fault)) w = front_of_all alerted all h k w
      by (Err Faults.Read) w = w
      by (Err Faults.Write) w = w
      by (Err Faults.Memory) w = w
