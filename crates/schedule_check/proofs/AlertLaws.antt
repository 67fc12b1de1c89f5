-- What who watches a check was told, line by line.
use Rattle.std.proofs.Common.{◌≡◌, ◌<◌, ◌≤◌, ℕ, suc, ◌+◌, ◌-◌, Bool, true, false, cond, List, [], ◌++◌, Option, Some, None, Result, Ok, Err, sym, ap, ◌∙◌, subst, arith, append-nil}
use Rattle.std.specs.Prelude.{IfSome}
use Rattle.abstract_port.specs.declared.Change.{Change}
use Rattle.job.specs.Lines.{Steps}
use Rattle.job.specs.declared.fault.Fault.{Fault}
use Rattle.job.specs.declared.fault.Fault.TheVariants as Faults
use Rattle.text.specs.LineReader.{Advances}
use Rattle.text.specs.Script.{Script, Line}
use Rattle.script.specs.Alerts.{Alert, Watched}
use Rattle.script.specs.declared.faults.BadLine.{BadLine}
use Rattle.script.specs.declared.faults.ScriptFault.{ScriptFault}
use Rattle.script.proofs.AlertLaws.{HasAlerted, alerted_all, alerted_first, alerted_more, alerted_none, alerts_same}
use Rattle.schedule_check.specs.Alerts.{alert_of, alerts_in, first_never, line_wrong, never_opens, with_alert}
use Rattle.schedule_check.specs.Words.{Command, TcFault, is_command, long_line, words_of}
use Rattle.schedule_check.specs.declared.settings.CheckSettings.{CheckSettings}

-- 1. The first class that never opens

module _ (s : CheckSettings) (c : Change) where
  pub never_here : (class : ℕ) → class < 8 → never_opens s c class ≡ true → first_never s c (8 - class) class ≡ Some class
  unfolding first_never
  never_here class less here =
      let more : 8 - class ≡ suc (8 - (class + 1)) = omega arith in
      ap (λ n. first_never s c n class) more ∙ ap (λ b. cond b (Some class) (first_never s c (8 - (class + 1)) (class + 1))) here

  pub never_later : (class : ℕ) → class < 8 → never_opens s c class ≡ false → first_never s c (8 - class) class ≡ first_never s c (8 - (class + 1)) (class + 1)
  unfolding first_never
  never_later class less here =
      let more : 8 - class ≡ suc (8 - (class + 1)) = omega arith in
      ap (λ n. first_never s c n class) more ∙ ap (λ b. cond b (Some class) (first_never s c (8 - (class + 1)) (class + 1))) here

  pub never_over : (class : ℕ) → 8 ≤ class → first_never s c (8 - class) class ≡ None
  unfolding first_never
  never_over class over =
      let none : 8 - class ≡ 0 = omega arith in
      ap (λ n. first_never s c n class) none

-- 2. A line before the rest

module _ (s : CheckSettings) (read : List (List ℕ) → Result Command TcFault) (number : ℕ) (line : List ℕ) where
  by_command : (is : Result Bool ScriptFault) → is_command s.script (words_of line) ≡ is → (rest : Script)
      → alerts_in s read (Line number line rest) ≡ with_alert is (alert_of (line_wrong s (read (words_of line)))) (alerts_in s read rest)
  by_command is e rest = ap (λ x. with_alert x (alert_of (line_wrong s (read (words_of line)))) (alerts_in s read rest)) e

  pub alerts_skipped : is_command s.script (words_of line) ≡ Ok false → (rest : Script) → alerts_in s read (Line number line rest) ≡ [] ++ alerts_in s read rest
  alerts_skipped = by_command (Ok false)

  pub alerts_judged : is_command s.script (words_of line) ≡ Ok true → (rest : Script) → alerts_in s read (Line number line rest) ≡ alert_of (line_wrong s (read (words_of line))) ++ alerts_in s read rest
  alerts_judged = by_command (Ok true)

  pub alerts_wrong : (fault : ScriptFault) → is_command s.script (words_of line) ≡ Err fault → (rest : Script) → alerts_in s read (Line number line rest) ≡ []
  alerts_wrong fault = by_command (Err fault)

-- 3. All lines

module _ {H : Type 0} (alerted : List Alert → H → H → Type 0) (s : CheckSettings) (read : List (List ℕ) → Result Command TcFault) where
  -- the alerts of known lines are those that were told and those of the lines to come
  abbrev pub Tells : Option Script → H → H → Option Script → Type 0
  Tells None h k left = Unit {0}
  Tells (Some all) h k None = ⊥
  Tells (Some all) h k (Some script) = HasAlerted alerted (alerts_in s read all) (alerts_in s read script) h k

  pub tells_begun : ((h : H) → alerted [] h h) → (all : Option Script) (h : H) → Tells all h h all
  tells_begun nothing None h = tt
  tells_begun nothing (Some all) h = alerted_none alerted nothing (alerts_in s read all) h

  -- a line more
  pub tells_on : ((xs ys : List Alert) (s t u : H) → alerted xs s t → alerted ys t u → alerted (xs ++ ys) s u) → (number : ℕ) (line : List ℕ) (told : List Alert) (all old new : Option Script) (h k l : H) → Tells all h k old
      → Advances old (Ok true) number line new → ((rest : Script) → alerts_in s read (Line number line rest) ≡ told ++ alerts_in s read rest) → alerted told k l → Tells all h l new
  tells_on both number line told None old new h k l g a e w = tt
  tells_on both number line told (Some all) None new h k l g a e w = absurd g
  tells_on both number line told (Some all) (Some script) new h k l g (rest, left, is) e w =
      let P : Option Script → Type 0 = λ u. Tells (Some all) h l u in
      subst P (sym left) (alerted_more alerted both (alerts_in s read all) (alerts_in s read script) told (alerts_in s read rest) h k l g (ap (alerts_in s read) is ∙ e rest) w)

  -- a line with a fault
  pub tells_wrong : {T : Type 0} → ((xs ys : List Alert) (s t u : H) → alerted xs s t → alerted ys t u → alerted (xs ++ ys) s u) → (number : ℕ) (line : List ℕ) (fault : BadLine) (all old new : Option Script) (h k l : H) (r : Result T (Fault BadLine)) → Tells all h k old
      → Advances old (Ok true) number line new → ((rest : Script) → alerts_in s read (Line number line rest) ≡ []) → alerted [] k l → r ≡ Err (Faults.Input fault) → IfSome all (λ script. Watched alerted (alerts_in s read script) r h l)
  tells_wrong both number line fault None old new h k l r g a e w is = tt
  tells_wrong both number line fault (Some all) None new h k l r g a e w is = absurd g
  tells_wrong {T} both number line fault (Some all) (Some script) new h k l r g (rest, left, next) e w is =
      let whole = alerted_all alerted (alerts_in s read all) (alerts_in s read script) h k g (ap (alerts_in s read) next ∙ e rest) in
      let told = alerts_same alerted (alerts_in s read all ++ []) (alerts_in s read all) h l (append-nil (alerts_in s read all)) (both (alerts_in s read all) [] h k l whole w) in
      subst (λ (x : Result T (Fault BadLine)). Watched alerted (alerts_in s read all) x h l) (sym is) told

  -- the end of the lines
  pub tells_all : {T : Type 0} (done : T) (number : ℕ) (line : List ℕ) (all old new : Option Script) (h k : H) (r : Result T (Fault BadLine)) → Tells all h k old → Advances old (Ok false) number line new → r ≡ Ok done
      → IfSome all (λ script. Watched alerted (alerts_in s read script) r h k)
  tells_all done number line None old new h k r g a is = tt
  tells_all done number line (Some all) None new h k r g a is = absurd g
  tells_all {T} done number line (Some all) (Some script) new h k r g a is =
      subst (λ (x : Result T (Fault BadLine)). Watched alerted (alerts_in s read all) x h k) (sym is) (alerted_all alerted (alerts_in s read all) (alerts_in s read script) h k g (ap (alerts_in s read) a))

  -- a write failed
  pub tells_first : {T : Type 0} (all left : Option Script) (h k : H) (r : Result T (Fault BadLine)) → Tells all h k left → r ≡ Err Faults.Write → IfSome all (λ script. Watched alerted (alerts_in s read script) r h k)
  tells_first None left h k r g is = tt
  tells_first (Some all) None h k r g is = absurd g
  tells_first {T} (Some all) (Some script) h k r g is =
      subst (λ (x : Result T (Fault BadLine)). Watched alerted (alerts_in s read all) x h k) (sym is) (alerted_first alerted (alerts_in s read all) (alerts_in s read script) h k g)

  -- the next line can't be had
  pub tells_before : {T : Type 0} (fault : Fault BadLine) (number : ℕ) (line : List ℕ) (all old new : Option Script) (h k : H) (r : Result T (Fault BadLine)) → Tells all h k old → Steps long_line old (Err fault) number line new → r ≡ Err fault
      → IfSome all (λ script. Watched alerted (alerts_in s read script) r h k)
  tells_before fault number line None old new h k r g a is = tt
  tells_before fault number line (Some all) None new h k r g a is = absurd g
  tells_before {T} (Faults.Input fault) number line (Some all) (Some script) new h k r g (n, limit, same, a) is =
      subst (λ (x : Result T (Fault BadLine)). Watched alerted (alerts_in s read all) x h k) (sym is) (alerted_all alerted (alerts_in s read all) (alerts_in s read script) h k g (ap (alerts_in s read) a))
  tells_before {T} Faults.Read number line (Some all) (Some script) new h k r g a is =
      subst (λ (x : Result T (Fault BadLine)). Watched alerted (alerts_in s read all) x h k) (sym is) (alerted_first alerted (alerts_in s read all) (alerts_in s read script) h k g)
  tells_before {T} Faults.Write number line (Some all) (Some script) new h k r g a is =
      subst (λ (x : Result T (Fault BadLine)). Watched alerted (alerts_in s read all) x h k) (sym is) (alerted_first alerted (alerts_in s read all) (alerts_in s read script) h k g)
  tells_before Faults.Memory number line (Some all) (Some script) new h k r g a is = absurd a
