-- A run that is drawn request by request: where it stands, and what requests leave of it.
use Rattle.std.proofs.Common.{◌≡◌, List, [], ◌∷◌, ◌++◌, refl, ◌∙◌, subst}
use Rattle.abstract_port.specs.AbstractPort.{AbstractPort, new_port, settled}
use Rattle.abstract_port.specs.Sound.{IsSoundPort}
use Rattle.picture.specs.Drawn.{Drawing}
use Rattle.script.specs.Requests.{Request}
use Rattle.script.specs.Responses.{responses_to}
use Rattle.script.specs.Setup.{Setup}
use Rattle.drawing.specs.Course.{Course}
use Rattle.drawing.specs.Followed.{BandsBy, first_bands}
use Rattle.drawing.specs.PictureEnd.{first_course}
use Rattle.drawing.specs.Taken.{seen_by}
use Rattle.drawing.specs.declared.drawn.Drawn.{Drawn}
use Rattle.drawing.specs.declared.options.DrawOptions.{DrawOptions}

-- a port, what is drawn of it so far, and its bands
pub record Place : Type 0 where
  pub port : AbstractPort
  pub course : Course
  pub bands : Drawing

abbrev pub place : AbstractPort → Course → Drawing → Place
place port course bands = record { port = port; course = course; bands = bands }

-- a new port, of which nothing is drawn
abbrev pub first_place : Setup → DrawOptions → Place
first_place s o = place (new_port s.rate s.mtu s.room) (first_course s o) (first_bands o)

-- a request is drawn
pub record DrawsOne (s : Setup) (o : DrawOptions) (r : Request) (from upto : Place) : Type 0 where
  pub port : upto.port ≡ settled (responses_to r from.port).1
  pub course : upto.course ≡ seen_by r from.port from.course
  pub bands : BandsBy s o r from.port from.course from.bands upto.bands
  pub sound : IsSoundPort upto.port

-- one request after another
abbrev pub DrawsAll : Setup → DrawOptions → List Request → Place → Place → Type 0
DrawsAll s o [] from upto = upto ≡ from
DrawsAll s o (r ∷ rest) from upto = (mid : Place) × (DrawsOne s o r from mid × DrawsAll s o rest mid upto)

-- a run that is drawn stands at such a place
abbrev pub drawn_place : Drawn → Place
drawn_place d = place d.port.port d.course d.bands

-- a run comes by these requests to another place, where it is drawn by the same settings and options
pub record Draws (requests : List Request) (from upto : Drawn) : Type 0 where
  pub drawn : DrawsAll from.settings from.options requests (drawn_place from) (drawn_place upto)
  pub settings : upto.settings ≡ from.settings
  pub options : upto.options ≡ from.options

-- requests are drawn, and then others
pub both_drawn : (s : Setup) (o : DrawOptions) (xs ys : List Request) (x y z : Place) → DrawsAll s o xs x y → DrawsAll s o ys y z → DrawsAll s o (xs ++ ys) x z
both_drawn s o [] ys x y z a b = subst (λ (u : Place). DrawsAll s o ys u z) a b
both_drawn s o (r ∷ xs) ys x y z (mid, (one, rest)) b = (mid, (one, both_drawn s o xs ys mid y z rest b))

-- nothing is asked
pub draws_none : (d : Drawn) → Draws [] d d
draws_none d = record { drawn = refl; settings = refl; options = refl }

-- requests are drawn, and then others
pub draws_both : (xs ys : List Request) (d e f : Drawn) → Draws xs d e → Draws ys e f → Draws (xs ++ ys) d f
draws_both xs ys d e f a b =
    let P : Setup → Type 0 = λ s. DrawsAll s e.options ys (drawn_place e) (drawn_place f) in
    let Q : DrawOptions → Type 0 = λ o. DrawsAll d.settings o ys (drawn_place e) (drawn_place f) in
    record {
      drawn = both_drawn d.settings d.options xs ys (drawn_place d) (drawn_place e) (drawn_place f) a.drawn (subst Q a.options (subst P a.settings b.drawn));
      settings = b.settings ∙ a.settings;
      options = b.options ∙ a.options;
    }
