use Rattle.std.proofs.Common.{◌≡◌, ◌≤◌, ◌+◌, max, min, ap, refl, sym, ◌∙◌, rules, arith, subst}
use Rattle.picture.specs.Words.{MAX_WIDTH, gates, kept, AreUsedUp, Drawing, IsDrawnInPieces, most_moved, piece_of, up_to}
use Rattle.picture.proofs.BoundaryLaws.{used_fewer, used_same}
use Rattle.picture.proofs.DrawLaws.{drawn_gone, kept_on, up_to_within}
use Rattle.picture.proofs.PieceLaws.{covered, few_pieces, pieces_same}
use Rattle.picture.proofs.LookLaws.{kept_longest, spent_more}
use Rattle.picture.proofs.bands.Bands.go_to.Goals as goal

pub move_to-requires-2-clause-later : goal.move_to-requires-2-clause-later
move_to-requires-2-clause-later g c =
    let upto = up_to_within c.self.inside.to c.args.moment in
    omega (arith, c.draw_to.ensures.within, c.mix_to.ensures.moment, c.move_to.ensures.moment, c.min-first.ensures, c.up_to-upto.ensures, upto)

pub returns-clause-history : goal.returns-clause-history
returns-clause-history g c =
    let began : c.self.inside.gates.moment ≡ c.args.self.now.moment = ap (λ (d : Drawing). d.moment) c.self.view_is in
    let within = up_to_within c.self.inside.to c.args.moment in
    let first : c.move_to.new.self.moment ≡ min (max c.self.inside.from c.self.inside.gates.moment) c.args.moment = omega (arith, c.move_to.ensures.moment, c.min-first.ensures, c.max.ensures, c.now.ensures) in
    let some : c.self.inside.gates.moment ≤ c.move_to.new.self.moment = omega (arith, first, began, c.requires.later) in
    let onward : c.move_to.new.self.moment ≤ c.draw_to.new.own.moment = c.draw_to.ensures.onward in
    let further : c.draw_to.new.own.moment ≤ c.mix_to.new.own.moment = omega (arith, c.mix_to.ensures.moment) in
    let last : c.mix_to.new.own.moment ≤ c.args.moment = omega (arith, first, c.mix_to.ensures.moment, c.draw_to.ensures.within, c.up_to-upto.ensures, within) in
    let moved : c.move_to.new.self.history ≡ kept c.self.inside.gates.history c.move_to.new.self.moment = c.move_to.ensures.history ∙ ap (kept c.self.inside.gates.history) (sym c.move_to.ensures.moment) in
    let on : c.draw_to.new.own.history ≡ kept c.self.inside.gates.history c.draw_to.new.own.moment =
    c.draw_to.ensures.history ∙ kept_on c.self.inside.gates.history c.self.inside.gates.moment c.self.invariant c.move_to.new.self.moment c.draw_to.new.own.moment c.move_to.new.self.history some onward moved in
    let mixed : c.mix_to.new.own.history ≡ kept c.self.inside.gates.history c.mix_to.new.own.moment =
    c.mix_to.ensures.history ∙ kept_on c.self.inside.gates.history c.self.inside.gates.moment c.self.invariant c.draw_to.new.own.moment c.mix_to.new.own.moment c.draw_to.new.own.history (omega (arith, some, onward)) further on in
    rw (← c.self.view_is)
    (c.move_to-2.ensures.history ∙ kept_on c.self.inside.gates.history c.self.inside.gates.moment c.self.invariant c.mix_to.new.own.moment c.args.moment c.mix_to.new.own.history (omega (arith, some, onward, further)) last mixed)

pub returns-clause-drawn : goal.returns-clause-drawn
returns-clause-drawn g c =
    let began : c.self.inside.gates.moment ≡ c.args.self.now.moment = ap (λ (d : Drawing). d.moment) c.self.view_is in
    let first : c.move_to.new.self.moment ≡ min (max c.self.inside.from c.self.inside.gates.moment) c.args.moment = omega (arith, c.move_to.ensures.moment, c.min-first.ensures, c.max.ensures, c.now.ensures) in
    let some : c.self.inside.gates.moment ≤ c.move_to.new.self.moment = omega (arith, first, began, c.requires.later) in
    let onward : c.move_to.new.self.moment ≤ c.draw_to.new.own.moment = c.draw_to.ensures.onward in
    let moved : c.move_to.new.self.history ≡ kept c.self.inside.gates.history c.move_to.new.self.moment = c.move_to.ensures.history ∙ ap (kept c.self.inside.gates.history) (sym c.move_to.ensures.moment) in
    let on : c.draw_to.new.own.history ≡ kept c.self.inside.gates.history c.draw_to.new.own.moment =
    c.draw_to.ensures.history ∙ kept_on c.self.inside.gates.history c.self.inside.gates.moment c.self.invariant c.move_to.new.self.moment c.draw_to.new.own.moment c.move_to.new.self.history some onward moved in
    let old : Drawing = record { history = c.self.inside.gates.history; moment = c.self.inside.gates.moment; from = c.self.inside.from; to = c.self.inside.to; classes = c.self.inside.classes; mixed = c.self.inside.mixed; left = c.self.inside.left } in
    let seen = c.draw_to.new.own.moment in
    let h = c.self.inside.gates.history in
    let piece : c.piece_of-piece.result ≡ piece_of c.self.inside.from c.self.inside.to (up_to c.self.inside.to c.args.moment) = c.piece_of-piece.ensures.value ∙ ap (piece_of c.self.inside.from c.self.inside.to) c.up_to-upto.ensures in
    let pieces : IsDrawnInPieces (gates h) (piece_of c.self.inside.from c.self.inside.to (up_to c.self.inside.to c.args.moment)) seen (up_to c.self.inside.to c.args.moment) c.draw_to.new.classes c.self.inside.mixed c.mix_to.new.classes c.mix_to.new.mixed =
    subst (λ p. IsDrawnInPieces (gates h) p seen (up_to c.self.inside.to c.args.moment) c.draw_to.new.classes c.self.inside.mixed c.mix_to.new.classes c.mix_to.new.mixed) piece
    (subst (λ u. IsDrawnInPieces (gates h) c.piece_of-piece.result seen u c.draw_to.new.classes c.self.inside.mixed c.mix_to.new.classes c.mix_to.new.mixed) c.up_to-upto.ensures
    (pieces_same h c.self.inside.gates.moment c.self.invariant seen c.draw_to.new.own.history (omega (arith, some, onward)) on _ _ _ _ _ _ c.mix_to.ensures.drawn)) in
    let used : AreUsedUp h (min (max c.self.inside.from c.self.inside.gates.moment) c.args.moment) (up_to c.self.inside.to c.args.moment) seen c.self.inside.left c.draw_to.new.left =
    subst (λ f. AreUsedUp h f (up_to c.self.inside.to c.args.moment) seen c.self.inside.left c.draw_to.new.left) first
    (subst (λ u. AreUsedUp h c.move_to.new.self.moment u seen c.self.inside.left c.draw_to.new.left) c.up_to-upto.ensures
    (used_same h c.self.inside.gates.moment c.self.invariant c.move_to.new.self.moment c.move_to.new.self.history some moved _ _ _ _ c.draw_to.ensures.used)) in
    let within = up_to_within c.self.inside.to c.args.moment in
    rw (← c.self.view_is)
    (record {
      seen = c.draw_to.new.own.moment;
      within = omega (arith, c.draw_to.ensures.within, first, c.up_to-upto.ensures);
      whole = λ left. let all = c.draw_to.ensures.whole left in omega (arith, all, c.up_to-upto.ensures);
      used = used;
      each = c.draw_to.new.classes;
      bands = λ class below. c.draw_to.ensures.classes class below ∙ drawn_gone old c.args.moment c.move_to.new.self.moment seen class c.move_to.new.self.history c.self.invariant first (omega (arith, began, c.requires.later)) moved;
      pieces = pieces;
      few = few_pieces (gates h) c.self.inside.from c.self.inside.to seen c.args.moment pieces.ends (omega (arith, first, onward, within)) pieces.pieces;
    })

pub move_to-requires-clause-later : goal.move_to-requires-clause-later
move_to-requires-clause-later g c =
    let began : c.self.inside.gates.moment ≡ c.args.self.now.moment = ap (λ (d : Drawing). d.moment) c.self.view_is in
    omega (arith, c.min-first.ensures, c.max.ensures, c.now.ensures, began, c.requires.later)

pub draw_to-requires : goal.draw_to-requires
draw_to-requires g c =
    let within = up_to_within c.self.inside.to c.args.moment in
    (search rules, (c.move_to.ensures.sound, omega (arith, c.up_to-upto.ensures, within, c.requires.within)))

pub mix_to-requires : goal.mix_to-requires
mix_to-requires g c =
    let within = up_to_within c.self.inside.to c.args.moment in
    (search rules, (c.draw_to.ensures.sound, (c.piece_of-piece.ensures.some, omega (arith, c.up_to-upto.ensures, within, c.requires.within))))

pub returns-clause-moment : goal.returns-clause-moment
returns-clause-moment g c = c.move_to-2.ensures.moment

pub returns-clause-viewport : goal.returns-clause-viewport
returns-clause-viewport g c = rw (← c.self.view_is) (refl, refl)

pub returns-clause-few : goal.returns-clause-few
returns-clause-few g c =
    let h = c.self.inside.gates.history in
    let began : c.self.inside.gates.moment ≡ c.args.self.now.moment = ap (λ (d : Drawing). d.moment) c.self.view_is in
    let first : c.move_to.new.self.moment ≡ min (max c.self.inside.from c.self.inside.gates.moment) c.args.moment = omega (arith, c.move_to.ensures.moment, c.min-first.ensures, c.max.ensures, c.now.ensures) in
    let less_1 = kept_longest h c.move_to.new.self.history c.min-first.result c.move_to.ensures.history in
    let less_2 = kept_longest c.move_to.new.self.history c.draw_to.new.own.history c.draw_to.new.own.moment c.draw_to.ensures.history in
    let less_3 = kept_longest c.draw_to.new.own.history c.mix_to.new.own.history c.mix_to.new.own.moment c.mix_to.ensures.history in
    let drawn = spent_more (most_moved c.move_to.new.self.history) (most_moved h) c.self.inside.left c.draw_to.new.left c.move_to.new.visits c.draw_to.new.visits (omega (arith, less_1)) (used_fewer _ _ _ _ _ _ c.draw_to.ensures.used) c.draw_to.ensures.few in
    let mixed = c.mix_to.ensures.few (MAX_WIDTH + 1) (covered c.self.inside.from c.self.inside.to c.args.moment c.draw_to.new.own.moment c.up_to-upto.result c.piece_of-piece.result c.up_to-upto.ensures c.piece_of-piece.ensures.value (omega (arith, first, c.draw_to.ensures.onward))) in
    rw (← c.self.view_is) (omega (arith, drawn, mixed, c.zero-visits.ensures, c.move_to.ensures.visits, c.move_to-2.ensures.visits, less_1, less_2, less_3, c.count.ensures))
