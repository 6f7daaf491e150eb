-- Texts put one after the other.
use Rattle.std.proofs.Common.{◌≡◌, ◌<◌, ◌≤◌, ℕ, zero, suc, ◌+◌, List, [], ◌∷◌, ◌++◌, Result, Ok, Err, length, take, drop, get_or, min, refl, sym, ◌∙◌, ap, subst, arith, append_assoc, append-nil}
use Rattle.std.specs.Bool.{⊤}
use Rattle.std.specs.List.{concat}
use Rattle.std.proofs.lemmas.List.Folds.{concat-append}
use Rattle.std.proofs.lemmas.List.{take_all, take-append-drop}
use Rattle.vsw_host.specs.Outside.{DoesPut, Outside, Rose, SameInputs}
use Rattle.vsw_host.specs.declared.host.Failed.{Failed}
use Rattle.vsw_replay.proofs.Growing.{front_more, front_then, grows_none, grows_then}

inputs_then : (a b c : Outside) → SameInputs a b → SameInputs b c → SameInputs a c
inputs_then a b c p q = record { inputs = q.inputs ∙ p.inputs; opens = q.opens ∙ p.opens; input_faults = q.input_faults ∙ p.input_faults }

-- nothing was put
pub puts_none : (a : Outside) (u : ⊤) → DoesPut a a [] (Ok u)
puts_none a u = record { told = grows_none a.put; cause = record { later = omega arith; failed = tt }; inputs = record { inputs = refl; opens = refl; input_faults = refl }; complained = refl; complain_faults = refl }

-- one text was put, and the next, or a front of it
pub puts_then : (a b c : Outside) (xs ys : List ℕ) (u : ⊤) (r : Result ⊤ Failed) → DoesPut a b xs (Ok u) → DoesPut b c ys r → DoesPut a c (xs ++ ys) r
puts_then a b c xs ys u (Ok v) p q = record {
  told = grows_then a.put b.put c.put xs ys p.told q.told;
  cause = record { later = omega (arith, p.cause.later, q.cause.later); failed = tt };
  inputs = inputs_then a b c p.inputs q.inputs;
  complained = q.complained ∙ p.complained;
  complain_faults = q.complain_faults ∙ p.complain_faults;
}
puts_then a b c xs ys u (Err e) p q = record {
  told = (length xs + q.told.0, front_then a.put b.put c.put xs ys q.told.0 p.told q.told.1);
  cause = record { later = omega (arith, p.cause.later, q.cause.later); failed = rose_from a.put_faults b.put_faults c.put_faults p.cause.later q.cause.failed };
  inputs = inputs_then a b c p.inputs q.inputs;
  complained = q.complained ∙ p.complained;
  complain_faults = q.complain_faults ∙ p.complain_faults;
}
  where
    rose_from : (x y z : ℕ) → x ≤ y → Rose y z → Rose x z
    rose_from x y z h r = omega (arith, h, r)

-- a front of one text is a front of more
pub puts_front : (a b : Outside) (xs ys : List ℕ) (e : Failed) → DoesPut a b xs (Err e) → DoesPut a b (xs ++ ys) (Err e)
puts_front a b xs ys e p = record {
  told = (min p.told.0 (length xs), front_more a.put b.put xs ys p.told.0 p.told.1);
  cause = p.cause;
  inputs = p.inputs;
  complained = p.complained;
  complain_faults = p.complain_faults;
}

puts_is : (a b : Outside) (xs ys : List ℕ) (r : Result ⊤ Failed) → xs ≡ ys → DoesPut a b xs r → DoesPut a b ys r
puts_is a b xs ys r e p = subst (λ (t : List ℕ). DoesPut a b t r) e p

-- the text up to a sheet, and that of the sheet
one_more : (n : ℕ) (sheets : List (List ℕ)) → n < length sheets → concat (take n sheets) ++ get_or sheets n [] ≡ concat (take (n + 1) sheets)
one_more n [] lt = absurd (omega (arith, lt))
one_more zero (x ∷ xs) lt = sym (append-nil x)
one_more (suc n) (x ∷ xs) lt =
    let next : suc n + 1 ≡ suc (n + 1) = omega arith in
    append_assoc x (concat (take n xs)) (get_or xs n []) ∙ (ap (λ (t : List ℕ). x ++ t) (one_more n xs (omega (arith, lt))) ∙ ap (λ (k : ℕ). concat (take k (x ∷ xs))) (sym next))

pub sheet_put : (a b c : Outside) (n : ℕ) (sheets : List (List ℕ)) (piece : List ℕ) (u v : ⊤) → n < length sheets → piece ≡ get_or sheets n [] → DoesPut a b (concat (take n sheets)) (Ok u) → DoesPut b c piece (Ok v) → DoesPut a c (concat (take (n + 1) sheets)) (Ok v)
sheet_put a b c n sheets piece u v lt is p q =
    puts_is a c (concat (take n sheets) ++ piece) (concat (take (n + 1) sheets)) (Ok v) (ap (λ (t : List ℕ). concat (take n sheets) ++ t) is ∙ one_more n sheets lt) (puts_then a b c (concat (take n sheets)) piece u (Ok v) p q)

pub sheet_unput : (a b c : Outside) (n : ℕ) (sheets : List (List ℕ)) (piece : List ℕ) (u : ⊤) (e : Failed) → n < length sheets → piece ≡ get_or sheets n [] → DoesPut a b (concat (take n sheets)) (Ok u) → DoesPut b c piece (Err e) → DoesPut a c (concat sheets) (Err e)
sheet_unput a b c n sheets piece u e lt is p q =
    let front : concat (take n sheets) ++ piece ≡ concat (take (n + 1) sheets) = ap (λ (t : List ℕ). concat (take n sheets) ++ t) is ∙ one_more n sheets lt in
    let whole : (concat (take n sheets) ++ piece) ++ concat (drop (n + 1) sheets) ≡ concat sheets =
    ap (λ (t : List ℕ). t ++ concat (drop (n + 1) sheets)) front ∙ (sym (concat-append (take (n + 1) sheets) (drop (n + 1) sheets)) ∙ ap concat (take-append-drop (n + 1) sheets)) in
    puts_is a c ((concat (take n sheets) ++ piece) ++ concat (drop (n + 1) sheets)) (concat sheets) (Err e) whole
    (puts_front a c (concat (take n sheets) ++ piece) (concat (drop (n + 1) sheets)) e (puts_then a b c (concat (take n sheets)) piece u (Err e) p q))

pub sheets_put : (a b : Outside) (n : ℕ) (sheets : List (List ℕ)) (u : ⊤) → length sheets ≤ n → DoesPut a b (concat (take n sheets)) (Ok u) → DoesPut a b (concat sheets) (Ok u)
sheets_put a b n sheets u le p = puts_is a b (concat (take n sheets)) (concat sheets) (Ok u) (ap concat (take_all n sheets le)) p

-- the sheets were put, and the end behind them
pub whole_put : (a b c : Outside) (sheets : List (List ℕ)) (end piece : List ℕ) (u : ⊤) (r : Result ⊤ Failed) → piece ≡ end → DoesPut a b (concat sheets) (Ok u) → DoesPut b c piece r → DoesPut a c (concat sheets ++ end) r
whole_put a b c sheets end piece u r is p q = puts_is a c (concat sheets ++ piece) (concat sheets ++ end) r (ap (λ (t : List ℕ). concat sheets ++ t) is) (puts_then a b c (concat sheets) piece u r p q)

pub whole_unput : (a b : Outside) (sheets : List (List ℕ)) (end : List ℕ) (e : Failed) → DoesPut a b (concat sheets) (Err e) → DoesPut a b (concat sheets ++ end) (Err e)
whole_unput a b sheets end e p = puts_front a b (concat sheets) end e p
