-- The refusals of a change, in their order.
use Rattle.std.proofs.Common.{◌≡◌, ℕ, ◌+◌, List, [], ◌∷◌, ◌++◌, Option, Some, None, Ok, Err, refl, sym, ap, ◌∙◌}
use Rattle.std.specs.Prelude.{unwrap_or, IsSome}
use Rattle.abstract_port.specs.declared.class_map.ClassMap.{ClassMap}
use Rattle.abstract_port.specs.declared.class_map.Queues.{Queues}
use Rattle.gates.specs.History.{Accepted, announced}
use Rattle.gates.specs.Current.{accepted_at, deletion_at, answer_by, answer_to, with_command_by, with_command}
use Rattle.gates.specs.declared.list_config.NotNow.{NotNow}
use Rattle.gates.specs.declared.list_config.NotNow.TheVariants as waiting
use Rattle.port.specs.Words.{lead_of, plan_fault, Refused, Schedule, busy_of, AbstractPort, plan_asked, refusal, installs_by}
use Rattle.gates.specs.Gate.{Plan, ok_unless}
use Rattle.gates.specs.declared.gate_list.PlanFault.{PlanFault}
use Rattle.abstract_port.specs.declared.Change.{Change}
use Rattle.abstract_port.specs.declared.Command.{Command}
use Rattle.abstract_port.specs.declared.Command.TheVariants.{Replace, Delete}
use Rattle.abstract_port.specs.AbstractPort.{first_of, map_refusal, limit_refusal, own_refusal, busy_by, busy_refusal, new_command, after_command, installs, classes_after}
use Rattle.abstract_port.proofs.RunLaws.{refused_for}

made : {T E : Type 0} (o : Option E) (wanted x : T) → Ok x ≡ ok_unless o wanted → (x ≡ wanted) × (o ≡ None)
made None wanted x e = ((cc), refl)
made (Some f) wanted x e = absurd (cc)

refused : {T E : Type 0} (o : Option E) (wanted : T) (f : E) → Err f ≡ ok_unless o wanted → o ≡ Some f
refused None wanted f e = absurd (cc)
refused (Some g) wanted f e = (cc)

first_last : (a b last c : Option Refused) → first_of a b ≡ None → last ≡ c → first_of a (first_of b last) ≡ c
first_last None None last c e is = is
first_last None (Some r) last c e is = absurd (cc)
first_last (Some r) b last c e is = absurd (cc)

early_first : (a b last : Option Refused) (r : Refused) → first_of a b ≡ Some r → first_of a (first_of b last) ≡ Some r
early_first None None last r e = absurd (cc)
early_first None (Some y) last r e = e
early_first (Some x) b last r e = e

pub own_early : (p : AbstractPort) (c : Change) (r : Refused) → first_of (map_refusal p c) (limit_refusal p c) ≡ Some r → own_refusal p c ≡ Some r
own_early p c r early = early_first (map_refusal p c) (limit_refusal p c) _ r early

-- what a port with these fields refuses of a change, by what a schedule at its rate answers
module _ (q p : AbstractPort) (same : q ≡ p) (c : Change) (early : first_of (map_refusal p c) (limit_refusal p c) ≡ None) where
  pub own_is : (o : Option PlanFault) → plan_fault q.ps (plan_asked c) ≡ o → own_refusal p c ≡ refused_for o
  own_is o is = first_last (map_refusal p c) (limit_refusal p c) _ (refused_for o) early (ap refused_for (ap (λ x. plan_fault x.ps (plan_asked c)) (sym same) ∙ is))

  pub own_none : {T : Type 0} (wanted x : T) → Ok x ≡ ok_unless (plan_fault q.ps (plan_asked c)) wanted → own_refusal p c ≡ None
  own_none wanted x answer = own_is None (made _ _ _ answer).1

  pub own_some : {T : Type 0} (wanted : T) (f : PlanFault) → Err f ≡ ok_unless (plan_fault q.ps (plan_asked c)) wanted → own_refusal p c ≡ Some (Schedule f)
  own_some wanted f answer = own_is (Some f) (refused _ _ _ answer)

-- a command that only the gates may refuse, as they answer it
module _ (p : AbstractPort) (command : Command) (k : List Accepted) (only_busy : refusal p command ≡ busy_refusal p) (is : k ≡ with_command p.history p.now (new_command p command)) where
  taken_by : (o : Option Accepted) (moment : ℕ) → refusal p command ≡ busy_by o → k ≡ with_command_by o p.history (new_command p command) → Ok moment ≡ answer_by o (new_command p command)
      → (installs p command ≡ (Ok moment, after_command p command)) × (k ≡ p.history ++ new_command p command ∷ [])
  taken_by None moment e h answer =
      let same : (new_command p command).change ≡ moment = (cc) in
      (ap (λ r. installs_by r p command) e ∙ ap (λ m. (Ok m, after_command p command)) same, h)
  taken_by (Some waits) moment e h answer = absurd (cc)

  busy_with : (o : Option Accepted) (w : NotNow) → refusal p command ≡ busy_by o → k ≡ with_command_by o p.history (new_command p command) → Err w ≡ answer_by o (new_command p command)
      → (installs p command ≡ (Err (busy_of w), p)) × (k ≡ p.history)
  busy_with None w e h answer = absurd (cc)
  busy_with (Some a) w e h answer =
      let same : waiting.Busy a.lead ≡ w = (cc) in
      (ap (λ r. installs_by r p command) e ∙ ap (λ x. (Err (busy_of x), p)) same, h)

  pub taken : (moment : ℕ) → Ok moment ≡ answer_to p.history p.now (new_command p command) → (installs p command ≡ (Ok moment, after_command p command)) × (k ≡ p.history ++ new_command p command ∷ [])
  taken moment answer = taken_by (announced p.history p.now) moment only_busy is answer

  pub busy : (w : NotNow) → Err w ≡ answer_to p.history p.now (new_command p command) → (installs p command ≡ (Err (busy_of w), p)) × (k ≡ p.history)
  busy w answer = busy_with (announced p.history p.now) w only_busy is answer

-- where a change meets no refusal but the gates'
pub only_busy : (p : AbstractPort) (c : Change) → own_refusal p c ≡ None → refusal p (Replace c) ≡ busy_refusal p
only_busy p c e = ap (λ r. first_of r (busy_refusal p)) e

pub own_refused : (p : AbstractPort) (c : Change) (r : Refused) → own_refusal p c ≡ Some r → installs p (Replace c) ≡ (Err r, p)
own_refused p c r e = ap (λ o. installs_by (first_of o (busy_refusal p)) p (Replace c)) e

-- a change that only the gates refuse, while a command is announced: it is refused as a deletion is
module _ (p : AbstractPort) (c : Change) (own : own_refusal p c ≡ None) where
  deleted_by : (o : Option Accepted) → busy_refusal p ≡ busy_by o → IsSome o → installs p Delete ≡ installs p (Replace c)
  deleted_by None e some = absurd (cc)
  deleted_by (Some waits) e some = ap (λ r. installs_by r p Delete) e ∙ sym (ap (λ r. installs_by r p (Replace c)) (only_busy p c own ∙ e))

  pub as_deleted : IsSome (announced p.history p.now) → installs p Delete ≡ installs p (Replace c)
  as_deleted some = deleted_by (announced p.history p.now) refl some

-- the port after a change that is taken, or a command that is refused
pub installed_port : (q p : AbstractPort) (c : Change) (now : ℕ) (h : List Accepted) (classes : Option (ClassMap × Queues)) (limits : List ℕ) → q ≡ p → now ≡ q.now
    → h ≡ p.history ++ new_command p (Replace c) ∷ [] → classes ≡ classes_after p c → limits ≡ unwrap_or c.max_sdu q.limits
    → record q { now = now; history = h; classes = classes; limits = limits } ≡ after_command p (Replace c)
installed_port q p c now h classes limits same is_now is_h is_classes is_limits =
    ap (λ n. record q { now = n; history = h; classes = classes; limits = limits }) is_now
    ∙ (ap (λ x. record q { history = x; classes = classes; limits = limits }) is_h
    ∙ (ap (λ x. record q { history = p.history ++ new_command p (Replace c) ∷ []; classes = x; limits = limits }) is_classes
    ∙ (ap (λ x. record q { history = p.history ++ new_command p (Replace c) ∷ []; classes = classes_after p c; limits = x }) is_limits
    ∙ ap (λ (y : AbstractPort). record y { history = p.history ++ new_command p (Replace c) ∷ []; classes = classes_after p c; limits = unwrap_or c.max_sdu y.limits }) same)))

pub deleted_port : (q p : AbstractPort) (now : ℕ) (h : List Accepted) → q ≡ p → now ≡ q.now → h ≡ p.history ++ new_command p Delete ∷ []
    → record q { now = now; history = h } ≡ after_command p Delete
deleted_port q p now h same is_now is_h =
    ap (λ n. record q { now = n; history = h }) is_now
    ∙ (ap (λ x. record q { history = x }) is_h ∙ ap (λ (y : AbstractPort). record y { history = p.history ++ new_command p Delete ∷ [] }) same)

pub same_port : (q p : AbstractPort) (now : ℕ) (h : List Accepted) → q ≡ p → now ≡ q.now → h ≡ p.history → record q { now = now; history = h } ≡ p
same_port q p now h same is_now is_h =
    ap (λ n. record q { now = n; history = h }) is_now ∙ (ap (λ x. record q { history = x }) (is_h ∙ ap (λ y. y.history) (sym same)) ∙ same)

-- what the gates answer to a change, said of the port
module _ (q p : AbstractPort) (c : Change) (e : ℕ) (s : Plan) (same : q ≡ p) (is_e : e ≡ p.now + lead_of p.ps p.mtu) (is_s : s ≡ plan_asked c) where
  is_command : accepted_at e s ≡ new_command p (Replace c)
  is_command = ap (λ n. accepted_at n s) is_e ∙ ap (λ x. accepted_at (p.now + lead_of p.ps p.mtu) x) is_s

  pub is_answer : answer_to q.history q.now (accepted_at e s) ≡ answer_to p.history p.now (new_command p (Replace c))
  is_answer = ap (λ (y : AbstractPort). answer_to y.history y.now (accepted_at e s)) same ∙ ap (answer_to p.history p.now) is_command

  pub is_history : with_command q.history q.now (accepted_at e s) ≡ with_command p.history p.now (new_command p (Replace c))
  is_history = ap (λ (y : AbstractPort). with_command y.history y.now (accepted_at e s)) same ∙ ap (with_command p.history p.now) is_command

  -- taken
  pub replace_taken : (now moment : ℕ) (h : List Accepted) (classes : Option (ClassMap × Queues)) (limits : List ℕ) → own_refusal p c ≡ None
      → Ok moment ≡ answer_to q.history q.now (accepted_at e s) → h ≡ with_command q.history q.now (accepted_at e s) → now ≡ q.now → classes ≡ classes_after p c → limits ≡ unwrap_or c.max_sdu q.limits
      → (Ok moment ≡ (installs p (Replace c)).0) × (record q { now = now; history = h; classes = classes; limits = limits } ≡ (installs p (Replace c)).1)
  replace_taken now moment h classes limits own answer is_h is_now is_classes is_limits =
      let t = taken p (Replace c) h (only_busy p c own) (is_h ∙ is_history) moment (answer ∙ is_answer) in
      (ap (λ r. r.0) (sym t.0), installed_port q p c now h classes limits same is_now t.1 is_classes is_limits ∙ ap (λ r. r.1) (sym t.0))

  -- refused by the gates
  pub replace_busy : (now : ℕ) (w : NotNow) (h : List Accepted) → own_refusal p c ≡ None → Err w ≡ answer_to q.history q.now (accepted_at e s) → h ≡ with_command q.history q.now (accepted_at e s) → now ≡ q.now
      → (Err (busy_of w) ≡ (installs p (Replace c)).0) × (record q { now = now; history = h } ≡ (installs p (Replace c)).1)
  replace_busy now w h own answer is_h is_now =
      let t = busy p (Replace c) h (only_busy p c own) (is_h ∙ is_history) w (answer ∙ is_answer) in
      (ap (λ r. r.0) (sym t.0), same_port q p now h same is_now t.1 ∙ ap (λ r. r.1) (sym t.0))

-- what the gates answer to a deletion, said of the port
module _ (q p : AbstractPort) (e : ℕ) (same : q ≡ p) (is_e : e ≡ p.now + lead_of p.ps p.mtu) where
  is_deletion : deletion_at e ≡ new_command p Delete
  is_deletion = ap deletion_at is_e

  deletion_answer : answer_to q.history q.now (deletion_at e) ≡ answer_to p.history p.now (new_command p Delete)
  deletion_answer = ap (λ (y : AbstractPort). answer_to y.history y.now (deletion_at e)) same ∙ ap (answer_to p.history p.now) is_deletion

  deletion_history : with_command q.history q.now (deletion_at e) ≡ with_command p.history p.now (new_command p Delete)
  deletion_history = ap (λ (y : AbstractPort). with_command y.history y.now (deletion_at e)) same ∙ ap (with_command p.history p.now) is_deletion

  pub delete_taken : (now moment : ℕ) (h : List Accepted) → Ok moment ≡ answer_to q.history q.now (deletion_at e) → h ≡ with_command q.history q.now (deletion_at e) → now ≡ q.now
      → (Ok moment ≡ (installs p Delete).0) × (record q { now = now; history = h } ≡ (installs p Delete).1)
  delete_taken now moment h answer is_h is_now =
      let t = taken p Delete h refl (is_h ∙ deletion_history) moment (answer ∙ deletion_answer) in
      (ap (λ r. r.0) (sym t.0), deleted_port q p now h same is_now t.1 ∙ ap (λ r. r.1) (sym t.0))

  pub delete_busy : (now : ℕ) (w : NotNow) (h : List Accepted) → Err w ≡ answer_to q.history q.now (deletion_at e) → h ≡ with_command q.history q.now (deletion_at e) → now ≡ q.now
      → (Err (busy_of w) ≡ (installs p Delete).0) × (record q { now = now; history = h } ≡ (installs p Delete).1)
  delete_busy now w h answer is_h is_now =
      let t = busy p Delete h refl (is_h ∙ deletion_history) w (answer ∙ deletion_answer) in
      (ap (λ r. r.0) (sym t.0), same_port q p now h same is_now t.1 ∙ ap (λ r. r.1) (sym t.0))
