-- Bytes that are being written.
use Rattle.std.proofs.Common.{◌≡◌, ℕ, List, [], ◌++◌, Option, Some, None, refl, sym, ◌∙◌, ap, length, take, drop, arith, ◌-◌, take_all, length-drop, append_assoc, append-nil}
use Rattle.std.proofs.Math.Seq.{take-append_seam}
use Rattle.std.proofs.lemmas.List.{take-append-drop}
use Rattle.std.specs.Io.KnownBytes.{Keeps}
use Rattle.std.proofs.KnownBytes.{Appends-kept}
use Rattle.vsw_host.specs.Outside.{Grows}

-- a front of the bytes was written since, and the rest stands behind it
pub record Written (old now : Option (List ℕ)) (bytes rest : List ℕ) : Type 0 where
  pub front : List ℕ
  pub joined : front ++ rest ≡ bytes
  pub grown : Grows old now front

nothing : (known : Option (List ℕ)) → Grows known known []
nothing None = tt
nothing (Some xs) = sym (append-nil xs)

pub start : (known : Option (List ℕ)) (bytes : List ℕ) → Written known known bytes bytes
start known bytes = record { front = []; joined = refl; grown = nothing known }

both : (a b c : Option (List ℕ)) (xs ys : List ℕ) → Grows a b xs → Grows b c ys → Grows a c (xs ++ ys)
both None b c xs ys p q = tt
both (Some x) None c xs ys p q = absurd p
both (Some x) (Some y) None xs ys p q = absurd q
both (Some x) (Some y) (Some z) xs ys p q = q ∙ ap (λ (l : List ℕ). l ++ ys) p ∙ append_assoc x xs ys

pub more : (old now next : Option (List ℕ)) (bytes rest : List ℕ) (n : ℕ) → Written old now bytes rest → Grows now next (take n rest) → Written old next bytes (drop n rest)
more old now next bytes rest n w grown = record {
  front = w.front ++ take n rest;
  joined = append_assoc w.front (take n rest) (drop n rest) ∙ ap (λ (l : List ℕ). w.front ++ l) (take-append-drop n rest) ∙ w.joined;
  grown = both old now next w.front (take n rest) w.grown grown;
}

-- the rest as the code cuts it
pub cut : (rest : List ℕ) (n : ℕ) → take (length rest - n) (drop n rest) ≡ drop n rest
cut rest n = take_all (length rest - n) (drop n rest) (omega (arith, length-drop n rest))

pub kept : (old now next : Option (List ℕ)) (bytes rest : List ℕ) → Written old now bytes rest → Keeps now next → Written old next bytes rest
kept old now next bytes rest w same = record { front = w.front; joined = w.joined; grown = Appends-kept old now next w.front w.grown same }

pub prefix : (old now : Option (List ℕ)) (bytes rest : List ℕ) → Written old now bytes rest → (n : ℕ) × Grows old now (take n bytes)
prefix old now bytes rest w = (length w.front, rw (← w.joined, take-append_seam) w.grown)

pub whole : (old now : Option (List ℕ)) (bytes rest : List ℕ) → rest ≡ [] → Written old now bytes rest → Grows old now bytes
whole old now bytes rest e w = let all : w.front ≡ bytes = sym (append-nil w.front) ∙ ap (λ (l : List ℕ). w.front ++ l) (sym e) ∙ w.joined in rw (← all) w.grown
