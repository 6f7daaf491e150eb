-- An Ethernet address, held as three numbers of 16 bits, as one number with the first byte highest.
use Rattle.std.specs.Prelude.{◌≡◌, ◌<◌, ℕ, ◌+◌, ◌*◌, ◌/◌, ◌%◌, ◌^◌}
use Rattle.std.proofs.Common.{ap, arith}
use Rattle.vsw_base.specs.declared.address.Mac.TheInside.{Inside}

abbrev pub number_of : Inside → ℕ
number_of s = s.high * 2 ^ 32 + s.middle * 2 ^ 16 + s.low

abbrev pub words_of : ℕ → Inside
words_of n = record { high = n / 2 ^ 32; middle = n / 2 ^ 16 % 2 ^ 16; low = n % 2 ^ 16 }

abbrev pub AreWords : Inside → Type 0
AreWords s = (s.high < 2 ^ 16) × (s.middle < 2 ^ 16) × (s.low < 2 ^ 16)

pub words_are : (s : Inside) → AreWords s → words_of (number_of s) ≡ s
words_are s h =
    let a : number_of s / 2 ^ 32 ≡ s.high = omega (arith, h.0, h.1, h.2) in
    let b : number_of s / 2 ^ 16 % 2 ^ 16 ≡ s.middle = omega (arith, h.0, h.1, h.2) in
    let c : number_of s % 2 ^ 16 ≡ s.low = omega (arith, h.0, h.1, h.2) in
    ap (λ (p : ℕ × ℕ × ℕ). record { high = p.0; middle = p.1; low = p.2 }) (cc (a, b, c))
