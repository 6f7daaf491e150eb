-- Updates of checksums that were wrong.
use Rattle.std.proofs.Common.{◌≡◌, ℕ, ◌+◌, ◌-◌, ◌%◌, ◌<◌, List, [], ◌∷◌, refl, sym, ◌∙◌, ap, arith, sum, ◌⊎◌}
use Rattle.std.proofs.lemmas.Grind.{common_steps}
use Rattle.vsw_header.specs.Sum.{AreWords, checksum, plus_ones, sum_ones}
use Rattle.vsw_header.specs.Update.{IsOtherZero, WasRight, changes, written}
use Rattle.vsw_header.proofs.Changed.{stays_written}
use Rattle.vsw_header.proofs.Folds.{fold_fits, sum_is}

changes_fit : (ms ns : List ℕ) → AreWords ns → AreWords (changes ms ns)
changes_fit [] ns h = tt
changes_fit (m ∷ ms) [] h = tt
changes_fit (m ∷ ms) (n ∷ ns) h = grind (arith, common_steps, changes_fit ms ns h.1)

ones_fit : (ws : List ℕ) → AreWords ws → sum_ones ws < 65536
ones_fit ws h = omega (arith, sum_is ws h, fold_fits (sum ws))

written_is : (s : ℕ) → s < 65536 → written (65535 - s) ≡ 65535 - s % 65535
written_is s h = grind arith

plus_is : (s t : ℕ) → s < 65536 → t < 65536 → plus_ones s t < 65536
plus_is s t hs ht = grind arith

plus_mod : (s t : ℕ) → s < 65536 → t < 65536 → plus_ones s t % 65535 ≡ (s + t) % 65535
plus_mod s t hs ht = grind arith

taken_mod : (u v t : ℕ) → 65535 - (u + t) % 65535 ≡ 65535 - (v + t) % 65535 → u % 65535 ≡ v % 65535
taken_mod u v t e = omega (arith, e)

-- what is added can be taken away, but which zero it was added to isn't known
taken : (u v t : ℕ) → u < 65536 → v < 65536 → t < 65536 → written (65535 - plus_ones u t) ≡ written (65535 - plus_ones v t) → written (65535 - u) ≡ written (65535 - v)
taken u v t hu hv ht e =
    let sums : 65535 - (u + t) % 65535 ≡ 65535 - (v + t) % 65535 =
    ap (λ (n : ℕ). 65535 - n) (sym (plus_mod u t hu ht)) ∙ sym (written_is (plus_ones u t) (plus_is u t hu ht)) ∙ e ∙ written_is (plus_ones v t) (plus_is v t hv ht) ∙ ap (λ (n : ℕ). 65535 - n) (plus_mod v t hv ht) in
    written_is u hu ∙ ap (λ (n : ℕ). 65535 - n) (taken_mod u v t sums) ∙ sym (written_is v hv)

twice : (n : ℕ) → n < 65536 → 65535 - (65535 - n) ≡ n
twice n h = omega (arith, h)

written_fits : (n : ℕ) → n < 65536 → written n < 65536
written_fits n h = grind arith

written_twice : (n : ℕ) → written (written n) ≡ written n
written_twice n = grind arith

-- an update that is right but for the zeros was made of a checksum that was
pub was_right : WasRight
was_right old ms ns xs ys c w h e =
    let right = written (checksum xs) in
    let fits : right < 65536 = written_fits (checksum xs) (omega arith) in
    let both = taken (65535 - old) (65535 - right) (sum_ones (changes ms ns)) (omega arith) (omega arith) (ones_fit (changes ms ns) (changes_fit ms ns w)) (e ∙ sym (stays_written right ms ns xs ys c refl)) in
    ap written (sym (twice old h)) ∙ both ∙ ap written (twice right fits) ∙ written_twice (checksum xs)

-- words whose sum isn't 0 have no checksum 0xffff
pub zeros : (old right : ℕ) → right < 65535 → written old ≡ written right → (old ≡ right) ⊎ IsOtherZero old right
zeros old right h e = grind arith
