-- A command that a port accepts, and the gates of a picture.
use Rattle.std.proofs.Common.{◌≡◌, ℕ, ◌+◌, List, Option, Some, None, Ok, Err, refl, sym, ap, ◌∙◌}
use Rattle.picture.specs.Words.{lead_of, plan_fault, Accepted, with_command, accepted_at, deletion_at, AbstractPort, installs, plan_asked, Command, ClassLane, Drawing, history_with, with_plan}
use Rattle.gates.specs.Gate.{Plan, ok_unless}
use Rattle.gates.specs.declared.gate_list.PlanFault.{PlanFault}
use Rattle.gates.specs.History.{announced}
use Rattle.gates.specs.Current.{with_command_by}
use Rattle.abstract_port.specs.AbstractPort.{installs_by, refusal, own_refusal, map_refusal, limit_refusal, schedule_refusal, busy_refusal, busy_by, first_of, after_command}
use Rattle.abstract_port.specs.declared.Command.TheVariants.{Replace, Delete}
use Rattle.abstract_port.specs.declared.Change.{Change}
use Rattle.abstract_port.specs.declared.Refused.{Refused}
use Rattle.abstract_port.specs.declared.Refused.TheVariants.{Schedule}

not_refused : (r : Option Refused) (p : AbstractPort) (command : Command) (change : ℕ) → (installs_by r p command).0 ≡ Ok change → r ≡ None
not_refused None p command change e = refl
not_refused (Some r) p command change e = cc

none_first : (a b : Option Refused) → first_of a b ≡ None → a ≡ None
none_first None b e = refl
none_first (Some r) b e = cc

none_later : (a b : Option Refused) → first_of a b ≡ None → b ≡ None
none_later None b e = e
none_later (Some r) b e = cc

not_busy : (waits : Option Accepted) → busy_by waits ≡ None → waits ≡ None
not_busy None e = refl
not_busy (Some a) e = cc

-- a plan's fault, as a port says it
abbrev told : Option PlanFault → Option Refused
told (Some fault) = Some (Schedule fault)
told None = None

no_fault : (fault : Option PlanFault) → told fault ≡ None → fault ≡ None
no_fault None e = refl
no_fault (Some f) e = cc

no_plan_fault : (p : AbstractPort) (c : Change) → own_refusal p c ≡ None → plan_fault p.ps (plan_asked c) ≡ None
no_plan_fault p c e = no_fault (plan_fault p.ps (plan_asked c)) (none_later (limit_refusal p c) (schedule_refusal p c) (none_later (map_refusal p c) (first_of (limit_refusal p c) (schedule_refusal p c)) e))

-- the history of the gates after a command is that of the port which accepts it
accepted_so : (p : AbstractPort) (command : Command) → refusal p command ≡ None
    → history_with p.ps (p.now + lead_of p.ps p.mtu) command p.history p.now ≡ (after_command p command).history
accepted_so p Delete e = ap (λ waits. with_command_by waits p.history (deletion_at (p.now + lead_of p.ps p.mtu))) (not_busy (announced p.history p.now) e)
accepted_so p (Replace c) e =
    let fine = no_plan_fault p c (none_first (own_refusal p c) (busy_refusal p) e) in
    let idle = not_busy (announced p.history p.now) (none_later (own_refusal p c) (busy_refusal p) e) in
    ap (λ fault. with_plan fault p.history p.now (accepted_at (p.now + lead_of p.ps p.mtu) (plan_asked c))) fine
    ∙ ap (λ waits. with_command_by waits p.history (accepted_at (p.now + lead_of p.ps p.mtu) (plan_asked c))) idle

installed_so : (r : Option Refused) (p : AbstractPort) (command : Command) → r ≡ None → (after_command p command).history ≡ (installs_by r p command).1.history
installed_so r p command e = ap (λ x. (installs_by x p command).1.history) (sym e)

pub taken : (p : AbstractPort) (command : Command) (change ps lead m : ℕ) (h : List Accepted) → p.history ≡ h → p.now ≡ m → p.ps ≡ ps → p.now + lead_of p.ps p.mtu ≡ lead
    → (installs p command).0 ≡ Ok change → history_with ps lead command h m ≡ (installs p command).1.history
taken p command change ps lead m h eh em es el ok =
    let none : refusal p command ≡ None = not_refused (refusal p command) p command change ok in
    ap (λ x. history_with ps lead command x m) (sym eh)
    ∙ ap (λ x. history_with ps lead command p.history x) (sym em)
    ∙ ap (λ x. history_with x lead command p.history p.now) (sym es)
    ∙ ap (λ x. history_with p.ps x command p.history p.now) (sym el)
    ∙ accepted_so p command none
    ∙ installed_so (refusal p command) p command none

-- what is drawn, with another history
abbrev drawing : List Accepted → ℕ → ℕ → Option ℕ → List ClassLane → List ClassLane → ℕ → Drawing
drawing history moment from to classes mixed left = record { history = history; moment = moment; from = from; to = to; classes = classes; mixed = mixed; left = left }

pub same_drawing : (h k : List Accepted) (m n from : ℕ) (to : Option ℕ) (classes mixed : List ClassLane) (left : ℕ) → h ≡ k → m ≡ n → drawing h m from to classes mixed left ≡ drawing k n from to classes mixed left
same_drawing h k m n from to classes mixed left eh em = ap (λ x. drawing x m from to classes mixed left) eh ∙ ap (λ x. drawing k x from to classes mixed left) em

pub plan_made : (fault : Option PlanFault) (plan made : Plan) → Ok made ≡ ok_unless fault plan → (fault ≡ None) × (made ≡ plan)
plan_made None plan made e = (refl, cc)
plan_made (Some f) plan made e = (cc, cc)

-- the history with the plan of a schedule that could be made
pub planned : (fault : Option PlanFault) (plan made : Plan) (h : List Accepted) (m lead : ℕ) → Ok made ≡ ok_unless fault plan
    → with_command h m (accepted_at lead made) ≡ with_plan fault h m (accepted_at lead plan)
planned fault plan made h m lead e =
    let both = plan_made fault plan made e in
    ap (λ x. with_command h m (accepted_at lead x)) both.1 ∙ ap (λ x. with_plan x h m (accepted_at lead plan)) (sym both.0)

-- the history where no schedule could be made
pub not_planned : (fault : Option PlanFault) (plan : Plan) (why : PlanFault) (h : List Accepted) (m : ℕ) (a : Accepted) → Err why ≡ ok_unless fault plan → h ≡ with_plan fault h m a
not_planned None plan why h m a e = absurd (cc)
not_planned (Some f) plan why h m a e = refl
