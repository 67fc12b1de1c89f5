-- How the bands of a run follow its port.
use Rattle.std.proofs.Common.{◌≡◌, ℕ, List, [], ◌∷◌, true, refl, sym, ap, ◌∙◌, subst}
use Rattle.std.proofs.lemmas.Bool.{true≢false}
use Rattle.abstract_port.specs.declared.Answer.{Answer}
use Rattle.abstract_port.specs.declared.Event.{Event}
use Rattle.abstract_port.specs.declared.Event.TheVariants.{Arrive, Install, Clock, Query, Count}
use Rattle.script.specs.Setup.{Setup}
use Rattle.script.specs.Walked.{IsSilent}
use Rattle.picture.specs.Drawn.{Drawing}
use Rattle.drawing.specs.Course.{asked_at, no_command}
use Rattle.drawing.specs.Followed.{BandsOn, FollowsEvent, IsFollowed}
use Rattle.drawing.specs.Options.{view_of}
use Rattle.drawing.specs.Words.{AbstractPort, Asks, Course, Draws, answers_to, seen_all, seen_at}
use Rattle.drawing.specs.declared.drawn.Drawn.{Drawn}
use Rattle.drawing.specs.declared.options.DrawOptions.{DrawOptions}
use Rattle.drawing.specs.declared.view.View.{View}
use Rattle.drawing.proofs.WalkLaws.{draws_one}

-- an event that gives no command moves the bands
pub moved : (s : Setup) (o : DrawOptions) (event : Event) (p : AbstractPort) (x : Course) (d new : Drawing) → no_command event ≡ true → FollowsEvent o event p x d new → BandsOn s o event p x d new
moved s o (Arrive f) p x d new none f' = f'
moved s o (Install c) p x d new none f' = absurd (true≢false (sym none))
moved s o (Clock m) p x d new none f' = f'
moved s o Query p x d new none f' = f'
moved s o (Count class) p x d new none f' = f'

-- a command is answered
is_answered : (answer : Answer) (rest : List Answer) → answer ∷ rest ≡ [] → ⊥
is_answered answer rest none = cc

-- so an event that isn't gives none
pub unanswered : (event : Event) (p : AbstractPort) → (answers_to event p).0 ≡ [] → no_command event ≡ true
unanswered (Arrive f) p none = refl
unanswered (Install c) p none = absurd (is_answered _ [] none)
unanswered (Clock m) p none = refl
unanswered Query p none = refl
unanswered (Count class) p none = refl

-- a port rests in an event, and the bands follow it: the event is drawn
pub rested : (event : Event) (d e : Drawn) (view : View) → IsSilent event d.port e.port → e.course ≡ d.course → view ≡ view_of d.options d.course.scope → IsFollowed view e.port.port.now d.bands e.bands
    → e.settings ≡ d.settings → e.options ≡ d.options → Draws (Asks event ∷ []) d e
rested event d e view silent course is followed settings options =
    let p = d.port.port in
    let same : d.course ≡ seen_at event p d.course = ap (λ (answers : List Answer). seen_all p.now (asked_at event p) answers d.course) (sym silent.answers) in
    let now = ap (λ (q : AbstractPort). q.now) silent.port in
    let shown = is ∙ ap (λ (x : Course). view_of d.options x.scope) same in
    draws_one (Asks event) d e (record {
      port = silent.port;
      course = course ∙ same;
      bands = moved d.settings d.options event p d.course d.bands e.bands (unanswered event p silent.answers)
          (subst (λ (v : View). IsFollowed v (answers_to event p).1.now d.bands e.bands) shown (subst (λ (n : ℕ). IsFollowed view n d.bands e.bands) now followed));
      sound = silent.sound;
    }) settings options
