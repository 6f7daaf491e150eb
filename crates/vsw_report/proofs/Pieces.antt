-- Texts that are written in place.
use Rattle.std.proofs.Common.{◌≡◌, ℕ, ◌+◌, ◌-◌, ◌≤◌, List, ◌++◌, length, take, drop, sym, ap, ◌∙◌, arith}
use Rattle.std.proofs.lemmas.List.{drop-take, drop_at, length-append, length-drop, length-take-le, take-take, take_at, take-append-le}
use Rattle.std.proofs.Math.Seq.{take-append-add}

-- the first k bytes of a piece that was copied to a place
pub copied : (at k n : ℕ) (page piece from rest : List ℕ) → at ≤ length page → piece ≡ take n from → k ≤ n → n ≤ length from → take (at + k) (take at page ++ (piece ++ rest)) ≡ take at page ++ take k from
copied at k n page piece from rest h e le long =
    let size : length (take at page) ≡ at = length-take-le at page h in
    let few : k ≤ length (take n from) = omega (arith, le, length-take-le n from long) in
    ap (λ (m : ℕ). take (m + k) (take at page ++ (piece ++ rest))) (sym size)
    ∙ take-append-add (take at page) (piece ++ rest) k
    ∙ ap (λ (l : List ℕ). take at page ++ take k (l ++ rest)) e
    ∙ ap (λ (l : List ℕ). take at page ++ l) (take-append-le k (take n from) rest few ∙ take-take k n from le)

-- a piece was written from a place up to the end, and nothing behind the end
pub piece_is : (start end : ℕ) (old new text : List ℕ) → start ≤ end → end ≤ length old → length new ≡ length old → drop start new ≡ text ++ drop end old → take (end - start) (drop start new) ≡ text
piece_is start end old new text le within same e =
    let size : length text ≡ end - start = omega (arith, le, within, same, sym (length-drop start new), ap length e, length-append text (drop end old), length-drop end old) in
    ap (take (end - start)) e ∙ take_at text (drop end old) (end - start) size

-- a piece was written last, over what stood in front of a text
pub overwritten : (at end : ℕ) (old mid new piece text : List ℕ) → at + length piece ≤ end → at + length piece ≤ length old → length mid ≡ length old → take end mid ≡ take (at + length piece) old ++ text → new ≡ take at mid ++ piece ++ drop (at + length piece) mid → take end new ≡ take at old ++ piece ++ text
overwritten at end old mid new piece text le within same e is =
    let behind : ℕ = at + length piece in
    let size : length (take behind old) ≡ behind = length-take-le behind old within in
    let front : take at mid ≡ take at old = sym (take-take at end mid (omega (arith, le))) ∙ ap (take at) e ∙ take-append-le at (take behind old) text (omega (arith, size)) ∙ take-take at behind old (omega arith) in
    let rest : take (end - behind) (drop behind mid) ≡ text = sym (drop-take behind (end - behind) mid) ∙ ap (λ (k : ℕ). drop behind (take k mid)) (omega (arith, le)) ∙ ap (drop behind) e ∙ drop_at (take behind old) text behind size in
    let on : end ≡ length (take at mid ++ piece) + (end - behind) = omega (arith, le, length-take-le at mid (omega (arith, within, same)), length-append (take at mid) piece) in
    ap (take end) is
    ∙ ap (λ (k : ℕ). take k (take at mid ++ piece ++ drop behind mid)) on
    ∙ take-append-add (take at mid ++ piece) (drop behind mid) (end - behind)
    ∙ ap (λ (l : List ℕ). l ++ piece ++ take (end - behind) (drop behind mid)) front
    ∙ ap (λ (l : List ℕ). take at old ++ piece ++ l) rest
