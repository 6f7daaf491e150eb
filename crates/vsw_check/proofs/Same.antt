-- A text that is a line with its line feed.
use Rattle.std.proofs.Common.{◌≡◌, ℕ, ◌≤◌, ◌&&◌, Bool, true, false, List, [], ◌∷◌, ◌++◌, length, take, drop, nat_eq, refl, sym, ap, ◌∙◌, arith}
use Rattle.std.specs.Prelude.{bytes_eq}

and_joined : (a b c : Bool) → a && (b && c) ≡ (a && b) && c
and_joined true b c = refl
and_joined false b c = refl

and_false : (a : Bool) → a && false ≡ false
and_false true = refl
and_false false = refl

-- a text compared with a front and a rest
both_parts : (front text rest : List ℕ) → length front ≤ length text → bytes_eq text (front ++ rest) ≡ bytes_eq (take (length front) text) front && bytes_eq (drop (length front) text) rest
both_parts [] text rest le = refl
both_parts (x ∷ front) [] rest le = absurd (omega (arith, le))
both_parts (x ∷ front) (y ∷ text) rest le =
    ap (λ b. nat_eq y x && b) (both_parts front text rest (omega (arith, le)))
    ∙ and_joined (nat_eq y x) (bytes_eq (take (length front) text) front) (bytes_eq (drop (length front) text) rest)

pub same_line : (text line : List ℕ) → length line ≤ length text → bytes_eq (take (length line) text) line ≡ true → bytes_eq (drop (length line) text) (10 ∷ []) ≡ bytes_eq text (line ++ 10 ∷ [])
same_line text line le e = sym (both_parts line text (10 ∷ []) le ∙ ap (λ b. b && bytes_eq (drop (length line) text) (10 ∷ [])) e)

pub other_line : (text line : List ℕ) → length line ≤ length text → bytes_eq (take (length line) text) line ≡ false → false ≡ bytes_eq text (line ++ 10 ∷ [])
other_line text line le e = sym (both_parts line text (10 ∷ []) le ∙ ap (λ b. b && bytes_eq (drop (length line) text) (10 ∷ [])) e)

pub short_line : (text line : List ℕ) → length text ≤ length line → false ≡ bytes_eq text (line ++ 10 ∷ [])
short_line text line le = sym (by text line le) where
  by : (text line : List ℕ) → length text ≤ length line → bytes_eq text (line ++ 10 ∷ []) ≡ false
  by [] [] le = refl
  by [] (x ∷ line) le = refl
  by (y ∷ text) [] le = absurd (omega (arith, le))
  by (y ∷ text) (x ∷ line) le = ap (λ b. nat_eq y x && b) (by text line (omega (arith, le))) ∙ and_false (nat_eq y x)
