-- The order, the pops and the pushes of joined acts.
use Rattle.std.proofs.Common.{◌≡◌, ℕ, ◌+◌, ◌-◌, List, [], ◌∷◌, ◌++◌, refl, sym, ◌∙◌, ap, arith, true, length, drop}
use Rattle.std.proofs.lemmas.Grind.{common_steps}
use Rattle.vsw_base.specs.declared.header.Header.{Header}
use Rattle.vsw_transpose.specs.declared.act.Change.{Change}
use Rattle.vsw_transpose.specs.declared.act.Act.{Act}
use Rattle.vsw_transpose.specs.declared.act.Act.TheVariants.{Push, Pop, Modify, Ignore}
use Rattle.vsw_transpose.specs.Apply.{apply}
use Rattle.vsw_transpose.specs.Private.Suits.{suits}
use Rattle.vsw_rule.specs.Joined.{joined}
use Rattle.vsw_transpose.specs.Form.{are_stays, are_late, are_ordered, pops, pushed}
use Rattle.vsw_transpose.proofs.Parts.{left, stays_pops, stays_pushed}
use Rattle.vsw_rule.proofs.Suits.{late_ordered, stays_ordered}
use Rattle.vsw_base.proofs.Dropped.{drop_more, drop_none}

pub late_pops : (xs : List Act) → are_late xs ≡ true → pops xs ≡ 0
late_pops [] h = refl
late_pops (Push g ∷ xs) h = late_pops xs h
late_pops (Pop ∷ xs) h = grind arith
late_pops (Modify c ∷ xs) h = stays_pops xs h
late_pops (Ignore ∷ xs) h = stays_pops xs h

pub ordered_late : (xs : List Act) → are_ordered xs ≡ true → pops xs ≡ 0 → are_late xs ≡ true
ordered_late [] h z = refl
ordered_late (Push g ∷ xs) h z = h
ordered_late (Pop ∷ xs) h z = absurd (omega (arith, z))
ordered_late (Modify c ∷ xs) h z = h
ordered_late (Ignore ∷ xs) h z = h

late_stays : (xs : List Act) → are_late xs ≡ true → pushed xs ≡ [] → are_stays xs ≡ true
late_stays [] h z = refl
late_stays (Push g ∷ xs) h z = grind arith
late_stays (Pop ∷ xs) h z = grind arith
late_stays (Modify c ∷ xs) h z = h
late_stays (Ignore ∷ xs) h z = h

-- the order, the pops and the pushes of two lists in one
abbrev pub Shaped : List Act → List Act → Type 0
Shaped xs bs = (are_ordered (joined xs bs) ≡ true) × (pops (joined xs bs) ≡ pops xs + (pops bs - length (pushed xs))) × (pushed (joined xs bs) ≡ pushed bs ++ drop (pops bs) (pushed xs))

abbrev pub Shapes : List Act → Type 0
Shapes xs = (n m : ℕ) (bs : List Act) (hs : List Header) → are_ordered xs ≡ true → are_ordered bs ≡ true → m ≡ left n xs → suits n xs hs ≡ true → suits m bs (apply xs hs) ≡ true → Shaped xs bs

joined_nil : (xs : List Act) → joined xs [] ≡ xs
joined_nil [] = refl
joined_nil (Push h ∷ xs) = ap (λ (l : List Act). Push h ∷ l) (joined_nil xs)
joined_nil (Pop ∷ xs) = ap (λ (l : List Act). Pop ∷ l) (joined_nil xs)
joined_nil (Modify c ∷ xs) = ap (λ (l : List Act). Modify c ∷ l) (joined_nil xs)
joined_nil (Ignore ∷ xs) = ap (λ (l : List Act). Ignore ∷ l) (joined_nil xs)

before_nil : (xs : List Act) → are_ordered xs ≡ true → Shaped xs []
before_nil xs o = let e : joined xs [] ≡ xs = joined_nil xs in (ap are_ordered e ∙ o, omega (arith, ap pops e), ap pushed e)

nil_shapes : Shapes []
nil_shapes n m bs hs o p e t u = (p, omega arith, grind (arith, common_steps, drop_none (pops bs) [] refl))

pop_shapes : (xs : List Act) → Shapes xs → Shapes (Pop ∷ xs)
pop_shapes xs ih n m bs [] o p e t u = grind arith
pop_shapes xs ih n m bs (h ∷ hs) o p e t u = let r = ih (n - 1) m bs hs o p (grind (arith, common_steps)) (grind (arith, common_steps)) u in (r.0, omega (arith, r.1), r.2)

push_shapes : (g : Header) (xs : List Act) → Shapes xs → Shapes (Push g ∷ xs)
push_shapes g xs ih n m [] hs o p e t u = before_nil (Push g ∷ xs) o
push_shapes g xs ih n m (Push q ∷ bs) hs o p e t u = let r = push_shapes g xs ih n m bs hs o (late_ordered bs p) e t u in (ordered_late (joined (Push g ∷ xs) bs) r.0 (omega (arith, r.1, late_pops bs p, late_pops xs o)), omega (arith, r.1), ap (λ (l : List Header). q ∷ l) r.2)
push_shapes g xs ih n m (Pop ∷ bs) hs o p e t u = let r = ih n (m - 1) bs hs (late_ordered xs o) p (omega (arith, e)) t (grind (arith, common_steps)) in (r.0, omega (arith, r.1), r.2 ∙ ap (λ (l : List Header). pushed bs ++ l) (sym (drop_more (pops bs) g (pushed xs))))
push_shapes g xs ih n m (Modify c ∷ bs) hs o p e t u = grind (arith, common_steps)
push_shapes g xs ih n m (Ignore ∷ bs) hs o p e t u =
    let r = ih n (m - 1) bs hs (late_ordered xs o) (stays_ordered bs p) (omega (arith, e)) t u in
    (ordered_late (joined xs bs) r.0 (omega (arith, r.1, stays_pops bs p, late_pops xs o)), omega (arith, r.1, stays_pops bs p), grind (arith, common_steps, r.2, stays_pops bs p, stays_pushed bs p))

-- what an act that keeps does
joined_stays : (x : Act) (xs : List Act) → are_stays xs ≡ true → (bs : List Act) → Shaped xs bs → are_ordered bs ≡ true → (pops bs ≡ 0) × (pushed bs ≡ []) → are_stays (joined xs bs) ≡ true
joined_stays x xs k bs r p z = late_stays (joined xs bs) (ordered_late (joined xs bs) r.0 (omega (arith, r.1, z.0, stays_pops xs k))) (grind (arith, common_steps, r.2, z.0, z.1, stays_pushed xs k))

modify_shapes : (c : Change) (xs : List Act) → Shapes xs → Shapes (Modify c ∷ xs)
modify_shapes c xs ih n m bs [] o p e t u = grind arith
modify_shapes c xs ih n m [] (h ∷ hs) o p e t u = before_nil (Modify c ∷ xs) o
modify_shapes c xs ih n m (Push q ∷ bs) (h ∷ hs) o p e t u = let r = modify_shapes c xs ih n m bs (h ∷ hs) o (late_ordered bs p) e t u in (ordered_late (joined (Modify c ∷ xs) bs) r.0 (omega (arith, r.1, late_pops bs p, stays_pops xs o)), omega (arith, r.1), ap (λ (l : List Header). q ∷ l) r.2)
modify_shapes c xs ih n m (Pop ∷ bs) (h ∷ hs) o p e t u = grind (arith, common_steps, stays_pushed xs o)
modify_shapes c xs ih n m (Modify d ∷ bs) (h ∷ hs) o p e t u =
    let r = ih n m bs hs (stays_ordered xs o) (stays_ordered bs p) e (grind (arith, common_steps)) (grind (arith, common_steps)) in
    (joined_stays Ignore xs o bs r (stays_ordered bs p) (stays_pops bs p, stays_pushed bs p), r.1, r.2)
modify_shapes c xs ih n m (Ignore ∷ bs) (h ∷ hs) o p e t u =
    let r = ih n (m - 1) bs hs (stays_ordered xs o) (stays_ordered bs p) (grind (arith, common_steps, stays_pushed xs o)) (grind (arith, common_steps)) u in
    (joined_stays Ignore xs o bs r (stays_ordered bs p) (stays_pops bs p, stays_pushed bs p), r.1, r.2)

ignore_shapes : (xs : List Act) → Shapes xs → Shapes (Ignore ∷ xs)
ignore_shapes xs ih n m bs [] o p e t u = grind arith
ignore_shapes xs ih n m [] (h ∷ hs) o p e t u = before_nil (Ignore ∷ xs) o
ignore_shapes xs ih n m (Push q ∷ bs) (h ∷ hs) o p e t u = let r = ignore_shapes xs ih n m bs (h ∷ hs) o (late_ordered bs p) e t u in (ordered_late (joined (Ignore ∷ xs) bs) r.0 (omega (arith, r.1, late_pops bs p, stays_pops xs o)), omega (arith, r.1), ap (λ (l : List Header). q ∷ l) r.2)
ignore_shapes xs ih n m (Pop ∷ bs) (h ∷ hs) o p e t u =
    let r = ih (n - 1) (m - 1) bs hs (stays_ordered xs o) p (grind (arith, common_steps, stays_pushed xs o, stays_pops xs o)) t (grind (arith, common_steps)) in
    (r.0, grind (arith, r.1, stays_pushed xs o), grind (arith, r.2, drop_none (pops bs) (pushed xs) (stays_pushed xs o), drop_none (pops bs + 1) (pushed xs) (stays_pushed xs o)))
ignore_shapes xs ih n m (Modify d ∷ bs) (h ∷ hs) o p e t u =
    let r = ih (n - 1) (m - 1) bs hs (stays_ordered xs o) (stays_ordered bs p) (grind (arith, common_steps, stays_pushed xs o, stays_pops xs o)) t (grind (arith, common_steps)) in
    (joined_stays Ignore xs o bs r (stays_ordered bs p) (stays_pops bs p, stays_pushed bs p), r.1, r.2)
ignore_shapes xs ih n m (Ignore ∷ bs) (h ∷ hs) o p e t u =
    let r = ih (n - 1) (m - 1) bs hs (stays_ordered xs o) (stays_ordered bs p) (grind (arith, common_steps, stays_pushed xs o, stays_pops xs o)) t u in
    (joined_stays Ignore xs o bs r (stays_ordered bs p) (stays_pops bs p, stays_pushed bs p), r.1, r.2)

pub joined_shapes : (xs : List Act) → Shapes xs
joined_shapes [] = nil_shapes
joined_shapes (Push h ∷ xs) = push_shapes h xs (joined_shapes xs)
joined_shapes (Pop ∷ xs) = pop_shapes xs (joined_shapes xs)
joined_shapes (Modify c ∷ xs) = modify_shapes c xs (joined_shapes xs)
joined_shapes (Ignore ∷ xs) = ignore_shapes xs (joined_shapes xs)
