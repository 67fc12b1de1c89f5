-- What is reported of an accepted schedule.
use Rattle.std.proofs.Common.{◌≡◌, ◌<◌, ◌++◌, ℕ, Bool, List, Option, Some, None, Ok, refl, sym, ap, ◌∙◌}
use Rattle.schedule_check.specs.Words.{PlanFault, Plan, Window, ok_unless, plan_fault, plan_asked, apart_line, change_lines, class_count, class_line, classes_apart, asked_lines, sharing_line, told_line, waits_text, IsTeller, IsWindow, Teller}
use Rattle.abstract_port.specs.declared.Change.{Change}
use Rattle.schedule_check.specs.Apart.{schedule_lines}
use Rattle.schedule_check.specs.Refusals.{is_led, map_after}
use Rattle.schedule_check.proofs.TellLaws.{same_window}
use Rattle.schedule_check.specs.declared.settings.CheckSettings.{CheckSettings}

-- what is made has no fault, and is what was asked
pub made_without_fault : (fault : Option PlanFault) (asked made : Plan) → ok_unless fault asked ≡ Ok made → (fault ≡ None) × (made ≡ asked)
made_without_fault None asked made is = (refl, let same : asked ≡ made = cc in sym same)
made_without_fault (Some fault) asked made is = absurd (let no : ⊥ = cc in no)

-- the three parts of what is reported
pub told_parts : (tell : Teller) (s : CheckSettings) (c : Change) → plan_fault s.rate (plan_asked c) ≡ None
    → change_lines tell s c ≡ apart_line (classes_apart (class_count (map_after s.map c.map)) 0 (plan_asked c).entries)
    ++ (asked_lines s.shares (sharing_line (plan_asked c) (class_count (map_after s.map c.map))) (class_count (map_after s.map c.map))
    ++ asked_lines s.windows (class_line s c (tell s.rate (plan_asked c))) (class_count (map_after s.map c.map)))
told_parts tell s c none = ap (λ (fault : Option PlanFault). schedule_lines fault s (tell s.rate (plan_asked c)) c) none

-- what is written of a class is its line
pub line_is : (tell : Teller) (s : CheckSettings) (c : Change) (class : ℕ) (plan : Plan) (w : Window) (led : Bool) → IsTeller tell → 0 < plan.cycle
    → plan ≡ plan_asked c → IsWindow s.rate plan class w → led ≡ is_led (map_after s.map c.map) class
    → told_line led class w (waits_text s.rate plan class s.frame w.longest_frame) ≡ class_line s c (tell s.rate (plan_asked c)) class
line_is tell s c class plan w led tells above asked is led_is =
    let same = same_window s.rate plan class w (tell s.rate plan class) is (tells s.rate plan class above) in
    let line : Bool → Plan → Window → List ℕ = λ b p v. told_line b class v (waits_text s.rate p class s.frame v.longest_frame) in
    ap (λ b. line b plan w) led_is
    ∙ (ap (λ v. line (is_led (map_after s.map c.map) class) plan v) same
    ∙ ap (λ (p : Plan). line (is_led (map_after s.map c.map) class) p (tell s.rate p class)) asked)
