use Rattle.std.proofs.Common.{◌≡◌, ℕ, List, Option, drop, option_map, sym, subst}
use Rattle.std.specs.Io.KnownBytes.{ReadConsumes, prepend_known}
use Rattle.translated.specs.Hand.{held}
use Rattle.translated.proofs.HandLaws.{passed}
use Rattle.translated.proofs.reader.Translated.pass.Goals as goal

pub returns-clause-bytes : goal.returns-clause-bytes
returns-clause-bytes g c =
    let t = c.args.self.now in
    let r = c.read.result in
    let buf = c.read.new.buf in
    let old = g.R.Read.remaining t.source in
    let new = g.R.Read.remaining c.read.new.self in
    let look : Option (List ℕ) → Option (List ℕ) = λ known. prepend_known (drop t.given t.turned.items) (option_map (g.T.Translation.meaning t.translation) (prepend_known (held t.hand) known)) in
    let is : (known : Option (List ℕ)) → look known ≡ known = passed (g.T.Translation.meaning t.translation) c.requires.passes.plain (drop t.given t.turned.items) (held t.hand) c.requires.given c.requires.passes.empty in
    subst (λ (a : Option (List ℕ)). ReadConsumes a (look new) r buf) (sym (is old)) (subst (λ (b : Option (List ℕ)). ReadConsumes old b r buf) (sym (is new)) c.read.ensures.bytes)
