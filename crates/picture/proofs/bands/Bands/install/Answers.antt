use Rattle.std.proofs.Common.{ap, sym, ◌∙◌}
use Rattle.picture.specs.Words.{Command, Drawing, history_with}
use Rattle.picture.proofs.CommandLaws.{taken}
use Rattle.picture.proofs.bands.Bands.install.Goals as goal

pub returns-in-Delete-clause-accepted : goal.returns-in-Delete-clause-accepted
returns-in-Delete-clause-accepted g c =
    λ p change h m ps lead ok.
    ap (λ (d : Drawing). d.history) c.delete.ensures.drawing
    ∙ ap (λ (x : Command). history_with c.args.rate c.args.lead x c.args.self.now.history c.args.self.now.moment) (sym c.in-Delete.is)
    ∙ taken p c.args.command.now change c.args.rate c.args.lead c.args.self.now.moment c.args.self.now.history h m ps lead ok

pub returns-in-Replace-clause-accepted : goal.returns-in-Replace-clause-accepted
returns-in-Replace-clause-accepted g c =
    λ p change h m ps lead ok.
    ap (λ (d : Drawing). d.history) c.replace.ensures.drawing
    ∙ ap (λ (x : Command). history_with c.args.rate c.args.lead x c.args.self.now.history c.args.self.now.moment) (sym c.in-Replace.is)
    ∙ taken p c.args.command.now change c.args.rate c.args.lead c.args.self.now.moment c.args.self.now.history h m ps lead ok

pub returns-in-Delete-clause-drawing : goal.returns-in-Delete-clause-drawing
returns-in-Delete-clause-drawing g c = rw c.in-Delete.is c.delete.ensures.drawing

pub returns-in-Replace-clause-drawing : goal.returns-in-Replace-clause-drawing
returns-in-Replace-clause-drawing g c = rw c.in-Replace.is c.replace.ensures.drawing
