-- Acts done one after another.
use Rattle.std.proofs.Common.{◌≡◌, ℕ, ◌+◌, ◌-◌, ◌%◌, ◌<◌, ◌≤◌, ◌==◌, ◌&&◌, List, [], ◌∷◌, ◌++◌, refl, sym, ◌∙◌, ap, arith, length, length-append, drop, Bool, true, false, Option, Some, None, is_some}
use Rattle.std.proofs.lemmas.Grind.{common_steps}
use Rattle.vsw_base.specs.declared.header.Header.{Header}
use Rattle.vsw_words.specs.Private.Acts.{push_at, stay_at}
use Rattle.vsw_words.proofs.OfKind.{Words, needs_at, pops_at, pushes_at, stays_at, taken}
use Rattle.vsw_transpose.specs.declared.act.Change.TheVariants as of
use Rattle.vsw_transpose.specs.declared.act.Act.{Act}
use Rattle.vsw_transpose.specs.declared.act.Act.TheVariants.{Pop, Modify}
use Rattle.vsw_transpose.specs.Apply.{apply, changed}
use Rattle.vsw_words.specs.Reading.{both_of, dst_ahead, ip6, or_none, read_act, read_acts, read_joined, src_of}
use Rattle.vsw_words.proofs.Pairs.{pair_none, pair_some}
use Rattle.vsw_words.proofs.Taken.{TakesOne, one_taken, two_taken}

-- the acts that so many acts of a row tell
abbrev pub told : ℕ → List ℕ → List Act
told count ws = or_none (read_joined count ws)

-- these words put headers in front of what the others make of headers
pub record Step (count fewer : ℕ) (ws rest : List ℕ) (hs others gs : List Header) : Type 0 where
  pub left : is_some (read_acts fewer rest) ≡ true
  pub made : apply (told count ws) hs ≡ gs ++ apply (told fewer rest) others

no_pair : (kind : ℕ) (s d : Option ℕ) (h a b : ℕ) → s ≡ src_of h a b → h % 16 ≡ kind → (kind == 9) ≡ false → both_of s d ≡ None
no_pair kind s d h a b e k n =
    let none : s ≡ None = e ∙ (rw (k, n) refl) in
    ap (λ (o : Option ℕ). both_of o d) none

-- an act that is no source of IPv6 is taken alone
alone : (count : ℕ) (ws rest : List ℕ) (w : ℕ × ℕ × ℕ) (x : Act) → Words count ws rest w → both_of (src_of w.0 w.1 w.2) (dst_ahead (count - 1) rest) ≡ None → read_act w.0 w.1 w.2 ≡ Some x → TakesOne count (count - 1) ws rest x
alone count ws rest w x k none read = one_taken count ws rest w (both_of (src_of w.0 w.1 w.2) (dst_ahead (count - 1) rest)) x k.0 k.1 k.2 k.3 k.4 refl none (λ t. read)

below_nine : (count : ℕ) (rest : List ℕ) (w : ℕ × ℕ × ℕ) → w.0 % 16 ≤ 4 → both_of (src_of w.0 w.1 w.2) (dst_ahead (count - 1) rest) ≡ None
below_nine count rest w l = let n : (w.0 % 16 == 9) ≡ false = grind (arith, common_steps) in no_pair (w.0 % 16) (src_of w.0 w.1 w.2) (dst_ahead (count - 1) rest) w.0 w.1 w.2 refl refl n

pub pushed_step : (count : ℕ) (ws rest : List ℕ) (w : ℕ × ℕ × ℕ) (hs : List Header) → Words count ws rest w → w.0 % 16 < 4 → Step count (count - 1) ws rest hs hs (push_at (w.0 % 16) w.0 w.1 w.2 ∷ [])
pushed_step count ws rest w hs k l =
    let (x, read, others, all) = taken count ws rest w k in
    let one = alone count ws rest w x k (below_nine count rest w (omega (arith, l))) read in
    record { left = one.0; made = ap (λ (xs : List Act). apply xs hs) (one.1 ∙ ap (λ (y : Act). y ∷ told (count - 1) rest) (pushes_at w.0 w.1 w.2 x l read)) }

pub popped_step : (count : ℕ) (ws rest : List ℕ) (w : ℕ × ℕ × ℕ) (hs : List Header) (h : Header) (others : List Header) → Words count ws rest w → w.0 % 16 ≡ 4 → hs ≡ h ∷ others → Step count (count - 1) ws rest hs others []
popped_step count ws rest w hs h others k e cut =
    let (x, read, rests, all) = taken count ws rest w k in
    let one = alone count ws rest w x k (below_nine count rest w (omega (arith, e))) read in
    let pop : x ≡ Pop = pops_at w.0 w.1 w.2 x e read in
    record { left = one.0; made = ap (apply (told count ws)) cut ∙ ap (λ (xs : List Act). apply xs (h ∷ others)) (one.1 ∙ ap (λ (y : Act). y ∷ told (count - 1) rest) pop) }

-- a header is pushed
pub one_more : (old new : List Header) (h : Header) → new ≡ old ++ h ∷ [] → length new ≡ length old + 1
one_more old new h e = omega (arith, ap length e, length-append old (h ∷ []))

-- whether two acts of a row change both addresses of IPv6
abbrev pub IsPair : ℕ → List ℕ → ℕ × ℕ × ℕ → Bool → Type 0
IsPair count rest w p = p ≡ ((w.0 % 16 == 9) && is_some (dst_ahead (count - 1) rest))

pub stayed_step : (count : ℕ) (ws rest : List ℕ) (w : ℕ × ℕ × ℕ) (hs : List Header) (h : Header) (others : List Header) (p : Bool) → Words count ws rest w → 4 < w.0 % 16 → hs ≡ h ∷ others
    → IsPair count rest w p → p ≡ false → Step count (count - 1) ws rest hs others (stay_at (w.0 % 16) w.0 w.1 w.2 h ∷ [])
stayed_step count ws rest w hs h others p k l cut pair none =
    let (x, read, rests, all) = taken count ws rest w k in
    let one = alone count ws rest w x k (pair_none w.0 w.1 w.2 (dst_ahead (count - 1) rest) (sym pair ∙ none)) read in
    record { left = one.0; made = ap (apply (told count ws)) cut ∙ ap (λ (xs : List Act). apply xs (h ∷ others)) one.1 ∙ stays_at w.0 w.1 w.2 x l read h (told (count - 1) rest) others }

-- both addresses of IPv6 are changed at one header
pub both_step : (count : ℕ) (ws rest behind : List ℕ) (w : ℕ × ℕ × ℕ) (hs : List Header) (h : Header) (others : List Header) (p : Bool) → Words count ws rest w → behind ≡ drop 3 rest → hs ≡ h ∷ others
    → IsPair count rest w p → p ≡ true → (2 ≤ count) × Step count (count - 2) ws behind hs others (changed (of.Six (Some (ip6 w.1 w.2)) (dst_ahead (count - 1) rest)) h ∷ [])
both_step count ws rest behind w hs h others p k e cut pair some =
    let joins = pair_some w.0 w.1 w.2 (dst_ahead (count - 1) rest) (sym pair ∙ some) in
    let two = two_taken count ws rest behind w (both_of (src_of w.0 w.1 w.2) (dst_ahead (count - 1) rest)) _ k.0 k.1 k.2 k.3 e k.4 refl joins in
    (two.0, record { left = two.1.0; made = ap (apply (told count ws)) cut ∙ ap (λ (xs : List Act). apply xs (h ∷ others)) two.1.1 })

both_modify : (s d : Option ℕ) (z : Act) → both_of s d ≡ Some z → (xs : List Act) → apply (z ∷ xs) [] ≡ []
both_modify None d z e xs = absurd (grind (arith, common_steps))
both_modify (Some s) None z e xs = absurd (grind (arith, common_steps))
both_modify (Some s) (Some d) z e xs = let m : z ≡ Modify (of.Six (Some s) (Some d)) = grind (arith, common_steps) in ap (λ (y : Act). apply (y ∷ xs) []) m

-- where no header is left, an act that pushes nothing is the last that does something
nothing_left : (count : ℕ) (ws rest : List ℕ) (w : ℕ × ℕ × ℕ) → Words count ws rest w → 4 ≤ w.0 % 16 → apply (told count ws) [] ≡ []
nothing_left count ws rest w k l = by (both_of (src_of w.0 w.1 w.2) (dst_ahead (count - 1) rest)) refl
  where
    by : (o : Option Act) → both_of (src_of w.0 w.1 w.2) (dst_ahead (count - 1) rest) ≡ o → apply (told count ws) [] ≡ []
    by None e =
        let (x, read, others, all) = taken count ws rest w k in
        let one = alone count ws rest w x k e read in
        ap (λ (xs : List Act). apply xs []) one.1 ∙ needs_at w.0 w.1 w.2 x l read (told (count - 1) rest)
    by (Some z) e =
        let two = two_taken count ws rest (drop 3 rest) w (both_of (src_of w.0 w.1 w.2) (dst_ahead (count - 1) rest)) z k.0 k.1 k.2 k.3 refl k.4 refl e in
        ap (λ (xs : List Act). apply xs []) two.1.1 ∙ both_modify (src_of w.0 w.1 w.2) (dst_ahead (count - 1) rest) z e (told (count - 2) (drop 3 rest))

-- nothing was appended
append_none : (old xs : List Header) → xs ≡ [] → old ≡ old ++ xs
append_none old xs e = sym (ap (λ (l : List Header). old ++ l) e ∙ none old)
  where
    none : (hs : List Header) → hs ++ [] ≡ hs
    none [] = refl
    none (h ∷ hs) = ap (λ (l : List Header). h ∷ l) (none hs)

-- where no header is left, nothing is appended
pub none_appended : (count : ℕ) (ws rest : List ℕ) (w : ℕ × ℕ × ℕ) (old hs : List Header) → Words count ws rest w → 4 ≤ w.0 % 16 → length hs ≡ 0 → old ≡ old ++ apply (told count ws) hs
none_appended count ws rest w old [] k l e = append_none old (apply (told count ws) []) (nothing_left count ws rest w k l)
none_appended count ws rest w old (h ∷ hs) k l e = absurd (omega (arith, e))
