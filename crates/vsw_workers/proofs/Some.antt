-- One more job of an actor.
use Rattle.std.proofs.Common.{◌≡◌, ◌+◌, ◌<◌, ℕ, zero, suc, List, [], ◌∷◌, ◌++◌, length, take, drop, Bool, true, false, ap, sym, ◌∙◌, arith, append_assoc}
use Rattle.std.specs.Prelude.{MatchBool}
use Rattle.vsw_workers.specs.Rounds.{Does, DoesSome, Rests}

-- behind the first n of a list x is the next, and these are the others
record Cut {J : Type 0} (n : ℕ) (xs : List J) (x : J) (rest : List J) : Type 0 where
  pub taken : take (suc n) xs ≡ take n xs ++ x ∷ []
  pub dropped : drop (suc n) xs ≡ rest

cut : {J : Type 0} (n : ℕ) (xs : List J) (x : J) (rest : List J) → drop n xs ≡ x ∷ rest → Cut n xs x rest
cut zero [] x rest e = absurd (cc e)
cut (suc n) [] x rest e = absurd (cc e)
cut zero (y ∷ ys) x rest e = let same : y ≡ x = cc e in let others : ys ≡ rest = cc e in record { taken = ap (λ w. w ∷ []) same; dropped = others }
cut (suc n) (y ∷ ys) x rest e = let c = cut n ys x rest e in record { taken = ap (λ w. y ∷ w) c.taken; dropped = c.dropped }

left_of : {J : Type 0} (n : ℕ) (xs : List J) → n < length xs → drop n xs ≡ [] → ⊥
left_of n [] lt e = omega (arith, lt)
left_of zero (x ∷ xs) lt e = cc e
left_of (suc n) (x ∷ xs) lt e = left_of n xs (omega (arith, lt)) e

module _ {A W J : Type 0} (what : A → W) (done todo : A → List J) where
  -- another job is done
  pub one_more : (n m : ℕ) (a b c : A) (did : Bool) → n < length (todo a) → m ≡ n + 1 → DoesSome what done todo n a b → MatchBool did (Does what done todo b c) (Rests what done todo b c) → DoesSome what done todo m a c
  one_more n m a b c true lt is s d =
      let one = cut n (todo a) d.1.0 (todo c) (sym s.2 ∙ d.1.1) in
      let next : suc n ≡ m = omega (arith, is) in (
        d.0 ∙ s.0,
        d.1.2 ∙ (ap (λ w. w ++ d.1.0 ∷ []) s.1 ∙ (append_assoc (done a) (take n (todo a)) (d.1.0 ∷ []) ∙ (ap (λ w. done a ++ w) (sym one.taken) ∙ ap (λ k. done a ++ take k (todo a)) next))),
        sym one.dropped ∙ ap (λ k. drop k (todo a)) next,
      )
  one_more n m a b c false lt is s d = absurd (left_of n (todo a) lt (sym s.2 ∙ d.0))
