use Rattle.std.proofs.Common.{◌≡◌, drop}
use Rattle.text.specs.Numbers.{value_behind}
use Rattle.text.proofs.words.numbers.number_in.Given as goal

-- what is left, after what was read, stands for the whole
abbrev pub invariant-loop-octet : goal.invariant-loop-octet
invariant-loop-octet l = value_behind l.base 0 l.word ≡ value_behind l.base l.number (drop l.octet-index l.word)
