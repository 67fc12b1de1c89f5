use Rattle.std.proofs.Common.{◌≡◌, [], drop}
use Rattle.std.specs.Io.KnownBytes.{Keeps}
use Rattle.translated.specs.Outlook.{outlook}
use Rattle.translated.proofs.reader.Translated.fill.Given as goal

abbrev pub invariant-loop : goal.invariant-loop
invariant-loop g l =
    Keeps (outlook g.R.Read.remaining g.T.Translation.meaning l.fn.self) (outlook g.R.Read.remaining g.T.Translation.meaning l.self)
    × (drop l.self.given l.self.turned.items ≡ [])
