-- A run that is drawn request by request.
use Rattle.std.proofs.Common.{◌≡◌, ℕ, List, [], ◌∷◌, Option, refl, sym, ap, ap₂, ◌∙◌, subst}
use Rattle.abstract_port.specs.Answers.{port_after}
use Rattle.abstract_port.specs.Settled.{IsSettling}
use Rattle.script.specs.Responses.{events_of, responses_to}
use Rattle.script.specs.Setup.{Setup}
use Rattle.picture.specs.Drawn.{Drawing}
use Rattle.script.proofs.LineSteps.{StandsFor, stands-after, stands_for_itself}
use Rattle.script.proofs.OutputLaws.{events-more}
use Rattle.drawing.specs.Course.{seen_after}
use Rattle.drawing.specs.Followed.{BandsAfter, BandsOfRequests, BandsTo}
use Rattle.drawing.specs.PictureEnd.{picture_by, picture_to}
use Rattle.drawing.specs.Words.{AbstractPort, Course, Draws, DrawsAll, DrawsOne, IsSoundPort, Place, Request, drawn_place, seen_by, settled}
use Rattle.drawing.specs.declared.drawn.Drawn.{Drawn}
use Rattle.drawing.specs.declared.options.DrawOptions.{DrawOptions}
use Rattle.drawing.proofs.TakenLaws.{request_drawn, same-drawn}

module _ (s : Setup) (o : DrawOptions) where
  pub one_drawn : (r : Request) (x y : Place) → DrawsOne s o r x y → DrawsAll s o (r ∷ []) x y
  one_drawn r x y one = (y, (one, refl))

  -- the bands after them
  pub bands_drawn : (requests : List Request) (x y : Place) → DrawsAll s o requests x y → BandsAfter s o requests x.port x.course x.bands y.bands
  bands_drawn [] x y is = ap (λ (u : Place). u.bands) is
  bands_drawn (r ∷ rest) x y (mid, (one, all)) =
      let P : AbstractPort → Type 0 = λ p. BandsAfter s o rest p (seen_by r x.port x.course) mid.bands y.bands in
      let Q : Course → Type 0 = λ c. BandsAfter s o rest mid.port c mid.bands y.bands in
      (mid.bands, (one.bands, subst P one.port (subst Q one.course (bands_drawn rest mid y all))))

  -- the port, and what is drawn: the port that runs stands for an abstract one
  drawn_for : IsSettling → (requests : List Request) (x y : Place) (p : AbstractPort) → StandsFor x.port p → DrawsAll s o requests x y
      → (y.port ≡ settled (port_after (events_of requests) p)) × (y.course ≡ seen_after (events_of requests) p x.course)
  drawn_for law [] x y p stands is = (ap (λ (u : Place). u.port) is ∙ stands.same, ap (λ (u : Place). u.course) is)
  drawn_for law (r ∷ rest) x y p stands (mid, (one, all)) =
      let more = drawn_for law rest mid y (responses_to r p).1 (stands-after law x.port p stands r mid.port one.port one.sound) all in
      let same = one.course ∙ same-drawn law x.port p stands r x.course in (
        more.0 ∙ ap settled (sym (events-more r rest p)),
        more.1 ∙ ap (λ (c : Course). seen_after (events_of rest) (responses_to r p).1 c) same ∙ sym (request_drawn r rest p x.course),
      )

  pub drawn_from : IsSettling → (requests : List Request) (x y : Place) → IsSoundPort x.port → DrawsAll s o requests x y
      → (y.port ≡ settled (port_after (events_of requests) x.port)) × (y.course ≡ seen_after (events_of requests) x.port x.course)
  drawn_from law requests x y sound all = drawn_for law requests x y x.port (stands_for_itself x.port sound) all

  -- from one place to another by requests, and then to the end
  module _ (law : IsSettling) (upto : Option ℕ) (requests : List Request) (x y : Place) (sound : IsSoundPort x.port) (drawn : DrawsAll s o requests x y) where
    -- the picture is that of the requests
    pub picture_drawn : (b : Drawing) → picture_to upto s o y.port y.course b ≡ picture_by upto s o requests x.port x.course b
    picture_drawn b =
        let both = drawn_from law requests x y sound drawn in
        ap₂ (λ (p : AbstractPort) (c : Course). picture_to upto s o p c b) both.0 both.1

    -- and so are the bands
    pub bands_to_end : (b : Drawing) → BandsTo upto s o y.port y.course y.bands b → BandsOfRequests upto s o requests x.port x.course x.bands b
    bands_to_end b at_end =
        let both = drawn_from law requests x y sound drawn in
        let P : AbstractPort → Type 0 = λ p. BandsTo upto s o p (seen_after (events_of requests) x.port x.course) y.bands b in
        let Q : Course → Type 0 = λ c. BandsTo upto s o y.port c y.bands b in
        (y.bands, (bands_drawn requests x y drawn, subst P both.0 (subst Q both.1 at_end)))

-- one request is
pub draws_one : (r : Request) (d e : Drawn) → DrawsOne d.settings d.options r (drawn_place d) (drawn_place e) → e.settings ≡ d.settings → e.options ≡ d.options → Draws (r ∷ []) d e
draws_one r d e one settings options = record { drawn = one_drawn d.settings d.options r (drawn_place d) (drawn_place e) one; settings = settings; options = options }
