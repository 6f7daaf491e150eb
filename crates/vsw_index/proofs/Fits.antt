-- The ends of a prefix's addresses fit 32 bits.
use Rattle.std.proofs.Common.{◌≡◌, ◌≤◌, ◌<◌, ◌+◌, ◌-◌, ◌*◌, ◌/◌, ◌%◌, ◌^◌, ℕ, arith, ◌∙◌, sym, ap}
use Rattle.std.proofs.lemmas.Nat.{pow-add, shr_below, row_fits}

pub next_fits : (value bits : ℕ) → value < 2 ^ 32 → bits ≤ 32 → (value / 2 ^ (32 - bits) + 1) * 2 ^ (32 - bits) ≤ 2 ^ 32
next_fits value bits small few =
    let all : bits + (32 - bits) ≡ 32 = omega arith in
    let split : 2 ^ 32 ≡ 2 ^ bits * 2 ^ (32 - bits) = ap (λ (n : ℕ). 2 ^ n) (sym all) ∙ pow-add 2 bits (32 - bits) in
    let under : value / 2 ^ (32 - bits) < 2 ^ bits = shr_below value bits (32 - bits) (rw all small) in
    let row : value / 2 ^ (32 - bits) * 2 ^ (32 - bits) + 2 ^ (32 - bits) ≤ 2 ^ bits * 2 ^ (32 - bits) = row_fits (value / 2 ^ (32 - bits)) (2 ^ (32 - bits)) (2 ^ bits) (2 ^ (32 - bits)) under (omega arith) in
    omega (arith, row, split)

pub last_fits : (value bits : ℕ) → value < 2 ^ 32 → bits ≤ 32 → (value / 2 ^ (32 - bits) + 1) * 2 ^ (32 - bits) % 18446744073709551616 - 1 < 2 ^ 32
last_fits value bits small few =
    let next : (value / 2 ^ (32 - bits) + 1) * 2 ^ (32 - bits) ≤ 2 ^ 32 = next_fits value bits small few in
    omega arith
