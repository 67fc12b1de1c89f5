use Rattle.std.proofs.Common.{◌≡◌, ◌==◌, ◌++◌, ℕ, Option, Some, nat_lt, sym, ap, ◌∙◌}
use Rattle.std.proofs.lemmas.Result.{err_from_is_err_and}
use Rattle.text.proofs.Fronts.{sent_exit, sent_last, sent_more, sent_none}
use Rattle.picture.specs.Viewports.{cut_to}
use Rattle.picture.specs.declared.span.Shape.{Shape}
use Rattle.picture.specs.declared.span.Span.{Span}
use Rattle.drawing.specs.Marks.{arrival_text, at_x, wait_line, wait_of, wait_text}
use Rattle.drawing.specs.declared.page.Page.{Page}
use Rattle.drawing.proofs.marks.put_wait.Goals as goal

-- a wait of which this time is shown, between these places, in a picture that ends at `end`
shown_at : (page : Page) (top : ℕ) (shape : Shape) (cut : Option Span) (s : Span) (left right end : ℕ) → cut ≡ cut_to page.viewport shape.span → cut ≡ Some s → left ≡ at_x page s.from → right ≡ at_x page s.to → end ≡ page.viewport.to
    → wait_text page top shape ≡ arrival_text (s.from == shape.span.from) left top ++ wait_line left right top (nat_lt shape.span.to end)
shown_at page top shape cut s left right end is some from to last =
    let first = s.from == shape.span.from in
    ap (wait_of page top shape.span) (sym is ∙ some)
    ∙ ap (λ (x : ℕ). arrival_text first x top ++ wait_line x (at_x page s.to) top (nat_lt shape.span.to page.viewport.to)) (sym from)
    ∙ ap (λ (x : ℕ). arrival_text first left top ++ wait_line left x top (nat_lt shape.span.to page.viewport.to)) (sym to)
    ∙ ap (λ (x : ℕ). arrival_text first left top ++ wait_line left right top (nat_lt shape.span.to x)) (sym last)

pub returns-in_err-put_arrival : goal.returns-in_err-put_arrival
returns-in_err-put_arrival g c =
    let p = err_from_is_err_and c.from_residual.result c.from_residual.ensures.1 in
    let shown = shown_at c.args.page.now c.args.top c.args.shape.now c.cut.result c.in-Some.span c.x-left.result c.x-right.result c.to.result c.cut.ensures.cut c.in-Some.is c.x-left.ensures.place c.x-right.ensures.place c.to.ensures.value in
    sent_exit _ _ _ p.1 (sent_none (g.W.Write.contents c.args.writer.now) (wait_text c.args.page.now c.args.top c.args.shape.now)) shown c.in_err-put_arrival.ensures

pub returns : goal.returns
returns g c =
    let shown = shown_at c.args.page.now c.args.top c.args.shape.now c.cut.result c.in-Some.span c.x-left.result c.x-right.result c.to.result c.cut.ensures.cut c.in-Some.is c.x-left.ensures.place c.x-right.ensures.place c.to.ensures.value in
    sent_last c.put_wait_line.result _ (sent_more _ _ _ (sent_none (g.W.Write.contents c.args.writer.now) (wait_text c.args.page.now c.args.top c.args.shape.now)) shown c.in_ok-put_arrival.ensures) c.put_wait_line.ensures
