-- Four numbers as 256 lanes.
use Rattle.std.proofs.Common.{ℕ, ◌/◌, ◌%◌, ◌<◌, arith}
use Rattle.std.proofs.lemmas.Nat.{mod_below, div_below}

pub place : (l : ℕ) → l < 256 → l / 64 < 4
place l h = div_below l 64 4 (omega arith) h

pub low : (l : ℕ) → l % 64 < 64
low l = mod_below l 64 (omega arith)
