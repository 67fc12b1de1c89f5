use Rattle.std.proofs.Common.{◌++◌, ℕ, codes, sym, refl, ap}
use Rattle.std.proofs.lemmas.Result.{err_from_is_err_and}
use Rattle.text.proofs.Fronts.{sent_exit, sent_last, sent_more, sent_none}
use Rattle.drawing.specs.Picture.{head_text, name_text, size_text, style_text, title_text}
use Rattle.drawing.proofs.svg.put_head.Goals as goal

pub returns-in_err-put_size : goal.returns-in_err-put_size
returns-in_err-put_size g c =
    let wide = ap (λ (n : ℕ). size_text n c.args.height ++ (name_text c.args.page.now (codes "</title>\n") ++ (style_text ++ (title_text ++ name_text c.args.page.now (codes "</text>\n"))))) (sym c.width.ensures) in
    let p = err_from_is_err_and c.from_residual.result c.from_residual.ensures.1 in
    let s0 = sent_none (g.W.Write.contents c.args.writer.now) (head_text c.args.page.now c.args.height) in
    sent_exit _ _ (name_text c.args.page.now (codes "</title>\n") ++ (style_text ++ (title_text ++ name_text c.args.page.now (codes "</text>\n")))) p.1 s0 wide c.in_err-put_size.ensures

pub returns-in_err-put_name : goal.returns-in_err-put_name
returns-in_err-put_name g c =
    let wide = ap (λ (n : ℕ). size_text n c.args.height ++ (name_text c.args.page.now (codes "</title>\n") ++ (style_text ++ (title_text ++ name_text c.args.page.now (codes "</text>\n"))))) (sym c.width.ensures) in
    let p = err_from_is_err_and c.from_residual-in_err-put_name.result c.from_residual-in_err-put_name.ensures.1 in
    let s0 = sent_none (g.W.Write.contents c.args.writer.now) (head_text c.args.page.now c.args.height) in
    let s1 = sent_more _ _ (name_text c.args.page.now (codes "</title>\n") ++ (style_text ++ (title_text ++ name_text c.args.page.now (codes "</text>\n")))) s0 wide c.in_ok-put_size.ensures in
    sent_exit _ _ (style_text ++ (title_text ++ name_text c.args.page.now (codes "</text>\n"))) p.1 s1 refl c.in_err-put_name.ensures

pub returns-in_err-put_style : goal.returns-in_err-put_style
returns-in_err-put_style g c =
    let wide = ap (λ (n : ℕ). size_text n c.args.height ++ (name_text c.args.page.now (codes "</title>\n") ++ (style_text ++ (title_text ++ name_text c.args.page.now (codes "</text>\n"))))) (sym c.width.ensures) in
    let p = err_from_is_err_and c.from_residual-in_err-put_style.result c.from_residual-in_err-put_style.ensures.1 in
    let s0 = sent_none (g.W.Write.contents c.args.writer.now) (head_text c.args.page.now c.args.height) in
    let s1 = sent_more _ _ (name_text c.args.page.now (codes "</title>\n") ++ (style_text ++ (title_text ++ name_text c.args.page.now (codes "</text>\n")))) s0 wide c.in_ok-put_size.ensures in
    let s2 = sent_more _ _ (style_text ++ (title_text ++ name_text c.args.page.now (codes "</text>\n"))) s1 refl c.in_ok-put_name.ensures in
    sent_exit _ _ (title_text ++ name_text c.args.page.now (codes "</text>\n")) p.1 s2 refl c.in_err-put_style.ensures

pub returns-in_err-put_title : goal.returns-in_err-put_title
returns-in_err-put_title g c =
    let wide = ap (λ (n : ℕ). size_text n c.args.height ++ (name_text c.args.page.now (codes "</title>\n") ++ (style_text ++ (title_text ++ name_text c.args.page.now (codes "</text>\n"))))) (sym c.width.ensures) in
    let p = err_from_is_err_and c.from_residual-in_err-put_title.result c.from_residual-in_err-put_title.ensures.1 in
    let s0 = sent_none (g.W.Write.contents c.args.writer.now) (head_text c.args.page.now c.args.height) in
    let s1 = sent_more _ _ (name_text c.args.page.now (codes "</title>\n") ++ (style_text ++ (title_text ++ name_text c.args.page.now (codes "</text>\n")))) s0 wide c.in_ok-put_size.ensures in
    let s2 = sent_more _ _ (style_text ++ (title_text ++ name_text c.args.page.now (codes "</text>\n"))) s1 refl c.in_ok-put_name.ensures in
    let s3 = sent_more _ _ (title_text ++ name_text c.args.page.now (codes "</text>\n")) s2 refl c.in_ok-put_style.ensures in
    sent_exit _ _ (name_text c.args.page.now (codes "</text>\n")) p.1 s3 refl c.in_err-put_title.ensures

pub returns : goal.returns
returns g c =
    let wide = ap (λ (n : ℕ). size_text n c.args.height ++ (name_text c.args.page.now (codes "</title>\n") ++ (style_text ++ (title_text ++ name_text c.args.page.now (codes "</text>\n"))))) (sym c.width.ensures) in
    let s0 = sent_none (g.W.Write.contents c.args.writer.now) (head_text c.args.page.now c.args.height) in
    let s1 = sent_more _ _ (name_text c.args.page.now (codes "</title>\n") ++ (style_text ++ (title_text ++ name_text c.args.page.now (codes "</text>\n")))) s0 wide c.in_ok-put_size.ensures in
    let s2 = sent_more _ _ (style_text ++ (title_text ++ name_text c.args.page.now (codes "</text>\n"))) s1 refl c.in_ok-put_name.ensures in
    let s3 = sent_more _ _ (title_text ++ name_text c.args.page.now (codes "</text>\n")) s2 refl c.in_ok-put_style.ensures in
    let s4 = sent_more _ _ (name_text c.args.page.now (codes "</text>\n")) s3 refl c.in_ok-put_title.ensures in
    sent_last c.put_name-2.result _ s4 c.put_name-2.ensures
