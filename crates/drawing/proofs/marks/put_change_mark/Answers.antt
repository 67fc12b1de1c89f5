use Rattle.std.proofs.Common.{◌≡◌, ◌≤◌, ◌++◌, ℕ, Option, Some, [], append-nil, sym, refl, ap, ◌∙◌, if◌then◌else◌}
use Rattle.std.proofs.lemmas.Bool.{le-leb, lt-leb}
use Rattle.std.proofs.lemmas.Result.{err_from_is_err_and}
use Rattle.text.proofs.Fronts.{sent_all, sent_exit, sent_more, sent_none}
use Rattle.picture.specs.Viewports.{cut_to}
use Rattle.picture.specs.declared.span.Shape.{Shape}
use Rattle.picture.specs.declared.span.Span.{Span}
use Rattle.drawing.specs.Marks.{at_x, change_lines, change_name, change_of, change_text, name_of_change}
use Rattle.drawing.specs.declared.page.Page.{Page}
use Rattle.drawing.proofs.marks.put_change_mark.Goals as goal

-- a change of which this time is shown, between these places
shown_at : (page : Page) (free : ℕ) (shape : Shape) (cut : Option Span) (s : Span) (left right : ℕ) → cut ≡ cut_to page.viewport shape.span → cut ≡ Some s → left ≡ at_x page s.from → right ≡ at_x page s.to
    → change_text page free shape ≡ change_lines left right ++ name_of_change page free left shape.id
shown_at page free shape cut s left right is some from to =
    ap (change_of page free shape.id) (sym is ∙ some)
    ∙ ap (λ (x : ℕ). change_lines x (at_x page s.to) ++ name_of_change page free x shape.id) (sym from)
    ∙ ap (λ (x : ℕ). change_lines left x ++ name_of_change page free left shape.id) (sym to)

-- its name has room
named_at : (page : Page) (free x : ℕ) (id : Option ℕ) → free ≤ x → name_of_change page free x id ≡ change_name page x id ++ []
named_at page free x id room = ap (λ b. if b then change_name page x id else []) (le-leb free x room) ∙ sym (append-nil (change_name page x id))

pub returns-in_err-put_change_lines-clause-text : goal.returns-in_err-put_change_lines-clause-text
returns-in_err-put_change_lines-clause-text g c =
    let p = err_from_is_err_and c.from_residual.result c.from_residual.ensures.1 in
    let shown = shown_at c.args.page.now c.args.free c.args.shape.now c.cut.result c.in-Some.span c.x-x.result c.x.result c.cut.ensures.cut c.in-Some.is c.x-x.ensures.place c.x.ensures.place in
    sent_exit _ _ _ p.1 (sent_none (g.W.Write.contents c.args.writer.now) (change_text c.args.page.now c.args.free c.args.shape.now)) shown c.in_err-put_change_lines.ensures

pub returns-in_err-put_change_name-clause-text : goal.returns-in_err-put_change_name-clause-text
returns-in_err-put_change_name-clause-text g c =
    let p = err_from_is_err_and c.from_residual-in_err-put_change_name.result c.from_residual-in_err-put_change_name.ensures.1 in
    let shown = shown_at c.args.page.now c.args.free c.args.shape.now c.cut.result c.in-Some.span c.x-x.result c.x.result c.cut.ensures.cut c.in-Some.is c.x-x.ensures.place c.x.ensures.place in
    let lines = sent_more _ _ _ (sent_none (g.W.Write.contents c.args.writer.now) (change_text c.args.page.now c.args.free c.args.shape.now)) shown c.in_ok-put_change_lines.ensures in
    sent_exit _ _ [] p.1 lines (named_at c.args.page.now c.args.free c.x-x.result c.args.shape.now.id c.if-free-x.true) c.in_err-put_change_name.ensures

pub returns-then-free-x-clause-text : goal.returns-then-free-x-clause-text
returns-then-free-x-clause-text g c =
    let shown = shown_at c.args.page.now c.args.free c.args.shape.now c.cut.result c.in-Some.span c.x-x.result c.x.result c.cut.ensures.cut c.in-Some.is c.x-x.ensures.place c.x.ensures.place in
    let lines = sent_more _ _ _ (sent_none (g.W.Write.contents c.args.writer.now) (change_text c.args.page.now c.args.free c.args.shape.now)) shown c.in_ok-put_change_lines.ensures in
    sent_all (sent_more _ _ [] lines (named_at c.args.page.now c.args.free c.x-x.result c.args.shape.now.id c.if-free-x.true) c.in_ok-put_change_name.ensures) refl

pub returns-clause-text : goal.returns-clause-text
returns-clause-text g c =
    let shown = shown_at c.args.page.now c.args.free c.args.shape.now c.cut.result c.in-Some.span c.x-x.result c.x.result c.cut.ensures.cut c.in-Some.is c.x-x.ensures.place c.x.ensures.place in
    let lines = sent_more _ _ _ (sent_none (g.W.Write.contents c.args.writer.now) (change_text c.args.page.now c.args.free c.args.shape.now)) shown c.in_ok-put_change_lines.ensures in
    sent_all lines (ap (λ b. if b then change_name c.args.page.now c.x-x.result c.args.shape.now.id else []) (lt-leb _ _ c.if-free-x.false))
