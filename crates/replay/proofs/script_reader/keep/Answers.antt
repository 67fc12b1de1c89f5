use Rattle.std.proofs.Common.{◌++◌, ◌∷◌, [], List, ap, ◌∙◌}
use Rattle.std.proofs.lemmas.List.{map-append}
use Rattle.replay.specs.Words.{Request, kept_request, kept_requests, KeptLine}
use Rattle.replay.proofs.script_reader.keep.Goals as goal

pub returns : goal.returns
returns g c = λ read.
    let old = c.args.script.now in
    let o = c.kept_line.new.script.octets.items in
    let kept = c.in_ok-kept.kept in
    ap (λ (xs : List KeptLine). kept_requests read o xs) (c.in_ok-push.ensures.items ∙ ap (λ (xs : List KeptLine). xs ++ kept ∷ []) c.in_ok-kept.ensures.lines)
    ∙ map-append (kept_request read o) old.lines.items (kept ∷ [])
    ∙ ap (λ (xs : List Request). xs ++ kept_request read o kept ∷ []) (c.in_ok-kept.ensures.others read)
    ∙ ap (λ (r : Request). kept_requests read old.octets.items old.lines.items ++ r ∷ []) (c.in_ok-kept.ensures.says read)
