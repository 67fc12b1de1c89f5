-- How long a class is open, through legs.
use Rattle.std.proofs.Common.{◌≡◌, ◌≤◌, ℕ, ◌+◌, ◌-◌, ◌*◌, min, Bool, true, false, ◌&&◌, List, ◌∷◌, Option, Some, None, refl, sym, ap, ◌∙◌, subst, arith}
use denote.Bor.{Bor}
use Rattle.std.specs.Option.{ForSome}
use Rattle.jumping.specs.CommandWords.{greatest_moment, open_while, mask_of, mask_in, Position, IsPlaced, Listed, ListedLeg, Following, AreReady, DoFollow, from_of, until_of, stretch_of}
use Rattle.gates.specs.Stretch.{Stretch}
use Rattle.gates.proofs.StretchLaws.{IsBy, first_while, stretch_parts}
use Rattle.jumping.specs.declared.list_position.Need.{Need}
use Rattle.jumping.specs.declared.accepted_commands.leg.Leg.{Leg}
use Rattle.jumping.specs.declared.accepted_commands.leg.Leg.TheVariants.{Open}

-- a stretch without an end
pub endless_while : (s : Stretch) (rest : List Stretch) (class n d : ℕ) → s.until ≡ None → open_while (mask_in (s ∷ rest)) class n d ≡ open_while (mask_of s) class n d
endless_while s rest class n d endless = first_while s rest class n d (subst (IsBy (n + d)) (sym endless) tt)

-- a stretch with an end, by its part and by what follows
pub ended_while : (s : Stretch) (rest : List Stretch) (class n u d : ℕ) → s.until ≡ Some u → n ≤ u → open_while (mask_in (s ∷ rest)) class n d ≡ (open_while (mask_of s) class n (min d (u - n)) && open_while (mask_in rest) class u (d - (u - n)))
ended_while s rest class n u d ends l =
    let left : n + d - u ≡ d - (u - n) = omega arith in
    stretch_parts s rest class n u d ends l
    ∙ ap (λ k. open_while (mask_of s) class n (min d (u - n)) && open_while (mask_in rest) class u k) left

pub until_is : (leg : Leg) → (stretch_of leg).until ≡ until_of leg
until_is (Listed leg) = refl
until_is (Open leg) = refl

-- the last leg
pub open_last : (leg : Leg) (rest : List Stretch) (need : Need) (a : Bool) → until_of leg ≡ None → a ≡ open_while (mask_of (stretch_of leg)) need.class need.from need.length → a ≡ open_while (mask_in (stretch_of leg ∷ rest)) need.class need.from need.length
open_last leg rest need a endless is =
    is ∙ sym (endless_while (stretch_of leg) rest need.class need.from need.length (until_is leg ∙ endless))

-- a leg and what follows it from u on
module _ (leg : Leg) (rest : List Stretch) (need : Need) (u : ℕ) (ends : until_of leg ≡ Some u) (l : need.from ≤ u) where
  parts : open_while (mask_in (stretch_of leg ∷ rest)) need.class need.from need.length ≡ (open_while (mask_of (stretch_of leg)) need.class need.from (min need.length (u - need.from)) && open_while (mask_in rest) need.class u (need.length - (u - need.from)))
  parts = ended_while (stretch_of leg) rest need.class need.from u need.length (until_is leg ∙ ends) l

  pub open_through : (v : ℕ) → v ≡ u → (first : Need) → first ≡ record need { length = min need.length (v - need.from) } → (a : Bool) → a ≡ open_while (mask_of (stretch_of leg)) first.class first.from first.length → a ≡ true → (w : ℕ) → w ≡ u → (then : Need) → then ≡ record need { from = w; length = need.length - (w - need.from) } → (b : Bool) → b ≡ open_while (mask_in rest) then.class then.from then.length → b ≡ open_while (mask_in (stretch_of leg ∷ rest)) need.class need.from need.length
  open_through v at first first_is a is on w at_then then then_is b b_is =
      ap (λ x. x && b) (sym on)
      ∙ (ap (λ x. x && b) (is ∙ (ap (λ (k : Need). open_while (mask_of (stretch_of leg)) k.class k.from k.length) first_is ∙ ap (λ m. open_while (mask_of (stretch_of leg)) need.class need.from (min need.length (m - need.from))) at))
      ∙ (ap (λ x. open_while (mask_of (stretch_of leg)) need.class need.from (min need.length (u - need.from)) && x) (b_is ∙ (ap (λ (k : Need). open_while (mask_in rest) k.class k.from k.length) then_is ∙ ap (λ m. open_while (mask_in rest) need.class m (need.length - (m - need.from))) at_then))
      ∙ sym parts))

  pub shut_before : (v : ℕ) → v ≡ u → (first : Need) → first ≡ record need { length = min need.length (v - need.from) } → (a : Bool) → a ≡ open_while (mask_of (stretch_of leg)) first.class first.from first.length → a ≡ false → a ≡ open_while (mask_in (stretch_of leg ∷ rest)) need.class need.from need.length
  shut_before v at first first_is a is off =
      let b : Bool = open_while (mask_in rest) need.class u (need.length - (u - need.from)) in
      off
      ∙ (ap (λ x. x && b) (sym off)
      ∙ (ap (λ x. x && b) (is ∙ (ap (λ (k : Need). open_while (mask_of (stretch_of leg)) k.class k.from k.length) first_is ∙ ap (λ m. open_while (mask_of (stretch_of leg)) need.class need.from (min need.length (m - need.from))) at))
      ∙ sym parts))

-- a list that stands elsewhere later
pub ready_later : (leg : ListedLeg) (rest : Following) (m : ℕ) (position : Bor Position) → AreReady (Listed leg) rest → IsPlaced leg.schedule.now leg.start leg.held_from m position.now → m ≤ 2 * greatest_moment → ForSome leg.until (λ u. m ≤ u) → AreReady (Listed (record leg { from = m; position = position })) rest
ready_later leg rest m position ready placed near before = record {
  first = record { stands = (((ready.first).stands).0, placed); near = near };
  follows = by rest.next ready.follows;
  then = ready.then;
  ends = ready.ends;
}
  where
    by : (next : Option Leg) → DoFollow (Listed leg) next → DoFollow (Listed (record leg { from = m; position = position })) next
    by None f = f
    by (Some next) f = (f.0, before (from_of next) f.0, f.2)
