-- Ports end their rounds, one after the other.
use Rattle.std.proofs.Common.{◌≡◌, ◌<◌, ◌≤◌, ℕ, zero, suc, ◌+◌, ◌||◌, Bool, true, false, List, [], ◌∷◌, ◌++◌, length, map, take, get_or, refl, ap, ap₂, sym, ◌∙◌, subst, arith, append_assoc, append-nil}
use Rattle.std.specs.List.{concat, flat_map, list_any, slice_set}
use Rattle.vsw_policy.specs.Sound.{Each}
use Rattle.vsw_switch.specs.Close.{IsCounted, begun, is_short_now, text_now}
use Rattle.vsw_switch.specs.Switch.{PortNow}
use Rattle.vsw_switch.proofs.Places.{each_at}

-- the rounds of the first so many ports ended, and the next began
abbrev pub begun_to : ℕ → List PortNow → List PortNow
begun_to zero ps = ps
begun_to (suc n) [] = []
begun_to (suc n) (p ∷ ps) = begun p ∷ begun_to n ps

-- so did those of the first so many: what was appended, and whether want of memory is told
pub record ClosedTo (n : ℕ) (ps qs : List PortNow) (old new : List ℕ) (short : Bool) : Type 0 where
  pub text : new ≡ old ++ flat_map text_now (take n ps)
  pub short_is : short ≡ list_any is_short_now (take n ps)
  pub begun_are : qs ≡ begun_to n ps

-- the port at the place is still as it was
still : (n : ℕ) (ps : List PortNow) (x : PortNow) → n < length ps → x ≡ get_or (begun_to n ps) n x → x ≡ get_or ps n x
still n [] x lt here = absurd (omega (arith, lt))
still zero (p ∷ ps) x lt here = here
still (suc n) (p ∷ ps) x lt here = still n ps x (omega (arith, lt)) here

begun_next : (n : ℕ) (ps : List PortNow) (y : PortNow) (x : PortNow) → n < length ps → x ≡ get_or ps n x → y ≡ begun x → slice_set (begun_to n ps) n y ≡ begun_to (suc n) ps
begun_next n [] y x lt here e = absurd (omega (arith, lt))
begun_next zero (p ∷ ps) y x lt here e = ap (λ w. w ∷ ps) (e ∙ ap begun here)
begun_next (suc n) (p ∷ ps) y x lt here e = ap (λ w. begun p ∷ w) (begun_next n ps y x (omega (arith, lt)) here e)

pub begun_all : (n : ℕ) (ps : List PortNow) → length ps ≤ n → begun_to n ps ≡ map begun ps
begun_all zero [] le = refl
begun_all zero (p ∷ ps) le = absurd (omega (arith, le))
begun_all (suc n) [] le = refl
begun_all (suc n) (p ∷ ps) le = ap (λ w. begun p ∷ w) (begun_all n ps (omega (arith, le)))

text_next : (n : ℕ) (ps : List PortNow) (x : PortNow) → n < length ps → x ≡ get_or ps n x → flat_map text_now (take (suc n) ps) ≡ flat_map text_now (take n ps) ++ text_now x
text_next n [] x lt here = absurd (omega (arith, lt))
text_next zero (p ∷ ps) x lt here = append-nil (text_now p) ∙ ap text_now (sym here)
text_next (suc n) (p ∷ ps) x lt here = ap (λ w. text_now p ++ w) (text_next n ps x (omega (arith, lt)) here) ∙ sym (append_assoc (text_now p) (flat_map text_now (take n ps)) (text_now x))

or_end : (a b : Bool) → a ≡ b → (a || false) ≡ (false || b)
or_end true b e = e
or_end false b e = e

or_assoc : (a b c : Bool) → (a || (b || c)) ≡ ((a || b) || c)
or_assoc true b c = refl
or_assoc false b c = refl

short_next : (n : ℕ) (ps : List PortNow) (x : PortNow) → n < length ps → x ≡ get_or ps n x → list_any is_short_now (take (suc n) ps) ≡ (list_any is_short_now (take n ps) || is_short_now x)
short_next n [] x lt here = absurd (omega (arith, lt))
short_next zero (p ∷ ps) x lt here = or_end (is_short_now p) (is_short_now x) (ap is_short_now (sym here))
short_next (suc n) (p ∷ ps) x lt here = ap (λ b. is_short_now p || b) (short_next n ps x (omega (arith, lt)) here) ∙ or_assoc (is_short_now p) (list_any is_short_now (take n ps)) (is_short_now x)

more : (n : ℕ) → n + 1 ≡ suc n
more n = omega arith

-- one more port
pub closed_next : (n : ℕ) (ps qs : List PortNow) (x y : PortNow) (old mid new : List ℕ) (short told both : Bool) → n < length ps → x ≡ get_or qs n x → (short || told) ≡ both
    → (IsCounted x → new ≡ mid ++ text_now x) → (IsCounted x → told ≡ is_short_now x) → (IsCounted x → y ≡ begun x)
    → Each IsCounted ps → ClosedTo n ps qs old mid short → ClosedTo (n + 1) ps (slice_set qs n y) old new both
closed_next n ps qs x y old mid new short told both lt here or_is text_is told_is begun_is counted s =
    let there : x ≡ get_or ps n x = still n ps x lt (here ∙ ap (λ w. get_or w n x) s.begun_are) in
    let c : IsCounted x = each_at IsCounted ps n x lt there counted in
    subst (λ k. ClosedTo k ps (slice_set qs n y) old new both) (sym (more n)) (record {
      text = text_is c ∙ (ap (λ w. w ++ text_now x) s.text ∙ (append_assoc old (flat_map text_now (take n ps)) (text_now x) ∙ ap (λ w. old ++ w) (sym (text_next n ps x lt there))));
      short_is = sym or_is ∙ (ap₂ (λ a b. a || b) s.short_is (told_is c) ∙ sym (short_next n ps x lt there));
      begun_are = ap (λ w. slice_set w n y) s.begun_are ∙ begun_next n ps y x lt there (begun_is c);
    })

take_more : (n : ℕ) (ps : List PortNow) → length ps ≤ n → take n ps ≡ ps
take_more zero [] le = refl
take_more zero (p ∷ ps) le = absurd (omega (arith, le))
take_more (suc n) [] le = refl
take_more (suc n) (p ∷ ps) le = ap (λ w. p ∷ w) (take_more n ps (omega (arith, le)))

-- all of them
pub record AllClosed (ps qs : List PortNow) (old new : List ℕ) (short : Bool) : Type 0 where
  pub text : new ≡ old ++ flat_map text_now ps
  pub short_is : short ≡ list_any is_short_now ps
  pub begun_are : qs ≡ map begun ps

pub closed_all : (n : ℕ) (ps qs : List PortNow) (old new : List ℕ) (short : Bool) → length ps ≤ n → ClosedTo n ps qs old new short → AllClosed ps qs old new short
closed_all n ps qs old new short le s =
    let whole = take_more n ps le in
    record {
      text = s.text ∙ ap (λ w. old ++ flat_map text_now w) whole;
      short_is = s.short_is ∙ ap (list_any is_short_now) whole;
      begun_are = s.begun_are ∙ begun_all n ps le;
    }

-- ---- the whole text of a round

-- the round's line and then that of `loose` stand in the end, and the ports' texts between them
pub round_closed : (s t : List (List ℕ)) (end first closed last a b c ports l loose : List ℕ) → first ≡ end ++ a ++ b ++ c → concat t ++ closed ≡ (concat s ++ first) ++ ports → last ≡ closed ++ l ++ loose
    → concat t ++ last ≡ (concat s ++ end) ++ (a ++ b ++ c ++ ports ++ l ++ loose)
round_closed s t end first closed last a b c ports l loose one mid more =
    ap (λ (x : List ℕ). concat t ++ x) more
    ∙ (behind (concat t) closed l loose
    ∙ (ap (λ (x : List ℕ). x ++ l ++ loose) (mid ∙ ap (λ (x : List ℕ). (concat s ++ x) ++ ports) one)
    ∙ grouped (concat s) end a b c ports l loose)) where
      behind : (x y z w : List ℕ) → x ++ (y ++ z ++ w) ≡ (x ++ y) ++ z ++ w
      behind x y z w = simp append_assoc

      grouped : (x e a b c p l w : List ℕ) → ((x ++ (e ++ a ++ b ++ c)) ++ p) ++ l ++ w ≡ (x ++ e) ++ (a ++ b ++ c ++ p ++ l ++ w)
      grouped x e a b c p l w = simp append_assoc
