use Rattle.std.proofs.Common.{◌≡◌, true, false, ◌∙◌, rules}
use Rattle.std.specs.Prelude.{codes}
use Rattle.std.specs.Str.{bytes_eq}
use Rattle.pasted.proofs.DeviceLaws.{device_here, device_on, word_alone, words_done}
use Rattle.pasted.proofs.device.device_behind.Goals as goal

pub heads-preserved : goal.heads-preserved
heads-preserved c =
    let other : bytes_eq c.in-Some.word.now (codes "dev") ≡ false = search rules in
    c.heads.invariant ∙ device_on c.in-Some.word.now _ _ _ c.in-Some.ensures.word other c.past_own-words.ensures

pub returns-in-Some-next_word : goal.returns-in-Some-next_word
returns-in-Some-next_word c =
    let dev : bytes_eq c.in-Some.word.now (codes "dev") ≡ true = search rules in
    c.heads.invariant ∙ device_here c.in-Some.word.now _ _ _ _ c.in-Some.ensures.word c.in-Some-next_word.ensures.word dev

pub returns-in-None : goal.returns-in-None
returns-in-None c = c.heads.invariant ∙ word_alone c.in-Some.word.now _ _ c.in-Some.ensures.word c.in-None.ensures.word.0

pub returns : goal.returns
returns c = c.heads.invariant ∙ words_done _ c.in_default.ensures.word.0
