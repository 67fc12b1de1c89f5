use Rattle.std.proofs.Common.{◌≡◌, length}
use Rattle.text.specs.WordsLeft.{words_left}
use Rattle.pasted.specs.Device.{device_from}
use Rattle.pasted.proofs.device.device_behind.Given as goal

abbrev pub invariant-heads : goal.invariant-heads
invariant-heads l = device_from (words_left l.fn.words) ≡ device_from (words_left l.words)

abbrev pub decreases-heads : goal.decreases-heads
decreases-heads l = length (words_left l.words)
