use Rattle.std.proofs.Common.{◌≡◌, ◌<◌, ◌≤◌, ◌+◌, ◌-◌, ◌*◌, ap, sym, ◌∙◌, subst, rules, arith, le_refl}
use Rattle.std.proofs.Math.Nat.{mul-suc}
use Rattle.picture.specs.Words.{gates, kept, AreUsedUp, IsSteady, class_at, drawn, most_moved}
use Rattle.picture.proofs.BandLaws.{drawn_none}
use Rattle.picture.proofs.BoundaryLaws.{next_used, none_used}
use Rattle.picture.proofs.DrawLaws.{drawn_to, kept_on, later_to, steady_to, within_to}
use Rattle.picture.proofs.LookLaws.{at_end, kept_longest, next_moved}
use Rattle.picture.proofs.bands.draw_to.Goals as goal

pub loop-now-init : goal.loop-now-init
loop-now-init g c =
    let none : c.now-now.result - c.args.own.now.moment ≡ 0 = omega (arith, c.now-now.ensures) in
    record {
      sound = c.requires.sound;
      here = sym c.now-now.ensures;
      onward = omega (arith, c.now-now.ensures);
      within = omega (arith, c.now-now.ensures);
      goes = λ more seen new used. subst (λ m. AreUsedUp c.args.own.now.history m c.args.upto seen c.args.left.now new) c.now-now.ensures used;
      used = subst (λ m. AreUsedUp c.args.own.now.history c.args.own.now.moment c.args.upto m c.args.left.now c.args.left.now) (sym c.now-now.ensures) (none_used c.args.own.now.history c.args.own.now.moment c.args.upto c.args.left.now);
      moved = λ some. le_refl _;
      few = let one = mul-suc (most_moved c.args.own.now.history) c.args.left.now in omega (arith, one);
      history = sym (ap (kept c.args.own.now.history) c.now-now.ensures ∙ c.requires.sound.kept_whole);
      classes = λ class below. sym (ap (λ n. drawn (gates c.args.own.now.history) class c.args.own.now.moment n (class_at c.args.classes.now class)) none ∙ drawn_none (gates c.args.own.now.history) class c.args.own.now.moment (class_at c.args.classes.now class));
    }

pub loop-now-preserved : goal.loop-now-preserved
loop-now-preserved g c =
    let i = c.loop-now.invariant in
    let steady : IsSteady c.loop-now.own.history c.loop-now.now c.unwrap_or-next.result =
    subst (λ n. IsSteady c.loop-now.own.history c.loop-now.now n) (sym c.unwrap_or-next.ensures)
    (steady_to c.loop-now.own.history c.loop-now.now c.args.upto c.next_boundary-boundary.result (rw i.here at c.next_boundary-boundary.ensures.none)) in
    let later : c.loop-now.now < c.unwrap_or-next.result =
    subst (λ n. c.loop-now.now < n) (sym c.unwrap_or-next.ensures)
    (later_to c.loop-now.now c.args.upto c.next_boundary-boundary.result c.loop-now-test.true (rw i.here at c.next_boundary-boundary.ensures.between)) in
    let within : c.unwrap_or-next.result ≤ c.args.upto =
    subst (λ n. n ≤ c.args.upto) (sym c.unwrap_or-next.ensures) (within_to c.loop-now.now c.args.upto c.next_boundary-boundary.result (rw i.here at c.next_boundary-boundary.ensures.between)) in
    let moved = next_moved (most_moved c.loop-now.own.history) (most_moved c.args.own.now.history) c.args.upto c.next_boundary-boundary.result c.loop-now.left c.left_after.result c.unwrap_or-next.result c.loop-now.visits c.move_to.new.visits
    (c.args.visits.now + most_moved c.args.own.now.history * c.args.left.now)
    (let less = kept_longest c.args.own.now.history c.loop-now.own.history c.loop-now.now i.history in omega (arith, less))
    (omega (arith, c.if-left-gt0.true)) (omega (arith, c.move_to.ensures.visits)) (λ none. at_end c.args.upto c.next_boundary-boundary.result c.unwrap_or-next.result c.unwrap_or-next.ensures none) (i.moved c.loop-now-test.true) c.left_after.ensures in
    let used = next_used c.args.own.now.history c.args.own.now.moment c.requires.sound c.loop-now.now c.loop-now.own.history i.onward i.history c.args.upto c.args.left.now c.loop-now.left c.left_after.result c.unwrap_or-next.result c.next_boundary-boundary.result
    c.loop-now-test.true (rw i.here at c.next_boundary-boundary.ensures.none) (rw i.here at c.next_boundary-boundary.ensures.between) c.next_boundary-boundary.ensures.event (omega (arith, c.if-left-gt0.true)) c.unwrap_or-next.ensures c.left_after.ensures (i.goes c.loop-now-test.true) in
    record {
      sound = c.move_to.ensures.sound;
      here = c.move_to.ensures.moment;
      onward = omega (arith, i.onward, later);
      within = omega (arith, within);
      goes = used.0;
      used = used.1;
      moved = moved.0;
      few = let one = mul-suc (most_moved c.args.own.now.history) c.args.left.now in omega (arith, one, moved.1);
      history = c.move_to.ensures.history ∙ kept_on c.args.own.now.history c.args.own.now.moment c.requires.sound c.loop-now.now c.unwrap_or-next.result c.loop-now.own.history i.onward (omega (arith, later)) i.history;
      classes = λ class below.
          c.step_all.ensures class below
          ∙ (rw (c.mask.ensures, i.here, i.classes class below)
          (drawn_to c.args.own.now.history c.args.own.now.moment c.requires.sound c.loop-now.now c.unwrap_or-next.result c.loop-now.own.history class (class_at c.args.classes.now class) i.onward later i.history steady));
    }

pub returns-else-left-gt0 : goal.returns-else-left-gt0
returns-else-left-gt0 g c =
    let i = c.loop-now.invariant in
    record {
      sound = i.sound;
      onward = omega (arith, i.onward, i.here);
      within = omega (arith, i.within, i.here);
      few = i.few;
      whole = λ some. absurd (omega (arith, some, c.if-left-gt0.false));
      used = subst (λ m. AreUsedUp c.args.own.now.history c.args.own.now.moment c.args.upto m c.args.left.now c.loop-now.left) (sym i.here) i.used;
      history = i.history ∙ ap (kept c.args.own.now.history) (sym i.here);
      classes = λ class below. i.classes class below ∙ ap (λ n. drawn (gates c.args.own.now.history) class c.args.own.now.moment (n - c.args.own.now.moment) (class_at c.args.classes.now class)) (sym i.here);
    }

pub returns-after-loop-now : goal.returns-after-loop-now
returns-after-loop-now g c =
    let i = c.loop-now.invariant in
    record {
      sound = i.sound;
      onward = omega (arith, i.onward, i.here);
      within = omega (arith, i.within, i.here);
      few = i.few;
      whole = λ some. omega (arith, i.here, c.loop-now-test.false);
      used = subst (λ m. AreUsedUp c.args.own.now.history c.args.own.now.moment c.args.upto m c.args.left.now c.loop-now.left) (sym i.here) i.used;
      history = i.history ∙ ap (kept c.args.own.now.history) (sym i.here);
      classes = λ class below. i.classes class below ∙ ap (λ n. drawn (gates c.args.own.now.history) class c.args.own.now.moment (n - c.args.own.now.moment) (class_at c.args.classes.now class)) (sym i.here);
    }

pub next_boundary-boundary-requires : goal.next_boundary-boundary-requires
next_boundary-boundary-requires g c =
    let i = c.loop-now.invariant in
    record { sound = i.sound; later = omega (arith, i.here, c.loop-now-test.true); within = c.requires.within }

pub step_all-requires : goal.step_all-requires
step_all-requires g c = (search rules, omega (arith, c.loop-now-test.true, c.requires.within))

pub move_to-requires : goal.move_to-requires
move_to-requires g c =
    let i = c.loop-now.invariant in
    let between = rw i.here at c.next_boundary-boundary.ensures.between in
    let later = later_to c.loop-now.now c.args.upto c.next_boundary-boundary.result c.loop-now-test.true between in
    let within = within_to c.loop-now.now c.args.upto c.next_boundary-boundary.result between in
    record { sound = i.sound; later = omega (arith, i.here, c.unwrap_or-next.ensures, later); within = omega (arith, c.unwrap_or-next.ensures, within, c.requires.within) }

pub loop-now-smaller : goal.loop-now-smaller
loop-now-smaller g c =
    let i = c.loop-now.invariant in
    let between = rw i.here at c.next_boundary-boundary.ensures.between in
    let later = later_to c.loop-now.now c.args.upto c.next_boundary-boundary.result c.loop-now-test.true between in
    omega (arith, c.unwrap_or-next.ensures, later, c.loop-now-test.true)
