-- Values that look random, and are the same for the same seed: SplitMix64 (Steele, Lea and Flood, "Fast splittable pseudorandom number generators", 2014).
use Rattle.std.specs.Prelude.{ℕ, ◌+◌, ◌*◌, ◌/◌, ◌%◌, ◌^◌, bit_xor}

-- a word with its high bits folded down by so many places, times a factor
abbrev pub fold_mul : ℕ → ℕ → ℕ → ℕ
fold_mul word places factor = bit_xor word (word / 2 ^ places) * factor % 2 ^ 64

-- what a generator makes of its state
abbrev pub mixed : ℕ → ℕ
mixed state =
    let word = fold_mul (fold_mul state 30 0xbf58476d1ce4e5b9) 27 0x94d049bb133111eb in
    bit_xor word (word / 2 ^ 31)

-- the value of a generator with this seed after so many others
abbrev pub value : ℕ → ℕ → ℕ
value seed others = mixed ((seed + 0x9e3779b97f4a7c15 * (others + 1)) % 2 ^ 64)

-- the number, at most so great, that this value draws
abbrev pub draw : ℕ → ℕ → ℕ → ℕ
draw seed others most = value seed others % (most + 1)
