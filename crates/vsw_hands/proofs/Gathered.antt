-- What was told of shares, one after the other.
use Rattle.std.proofs.Common.{◌≡◌, ◌+◌, ◌<◌, ℕ, List, [], ◌∷◌, ◌++◌, All, add-one, ap, length, map, slice_index_or, subst, sym, take, ◌∙◌}
use Rattle.std.proofs.Math.Seq.{take-suc}
use Rattle.std.proofs.lemmas.List.{map-append}
use Rattle.std.proofs.lemmas.List.Elements.{All-append, All-cons, All-nil}
use Rattle.vsw_hands.specs.Hands.{AllDone}

module _ {S T : Type 0} (does : S → T → Type 0) where
  more_done : (shares : List S) (tolds : List T) (s : S) (t : T) → AllDone does shares tolds → does s t → AllDone does (shares ++ s ∷ []) (tolds ++ t ∷ [])
  more_done [] [] s t all one = (one, tt)
  more_done (x ∷ shares) (y ∷ tolds) s t all one = (all.0, more_done shares tolds s t all.1 one)
  more_done [] (y ∷ tolds) s t all one = absurd all
  more_done (x ∷ shares) [] s t all one = absurd all

module _ {A S T : Type 0} (does : S → T → Type 0) (share : A → S) where
  -- of one share more this was told
  pub next_done : (all : List A) (place : ℕ) (tolds more : List T) (a : A) (t : T) → place < length all → slice_index_or all place a ≡ a
      → AllDone does (map share (take place all)) tolds → does (share a) t → more ≡ tolds ++ t ∷ [] → AllDone does (map share (take (place + 1) all)) more
  next_done all place tolds more a t less is before one e =
      let front : take (place + 1) all ≡ take place all ++ a ∷ [] = rw add-one (take-suc all place a less ∙ ap (λ x. take place all ++ x ∷ []) is) in
      let shares : map share (take (place + 1) all) ≡ map share (take place all) ++ share a ∷ [] = ap (map share) front ∙ map-append share (take place all) (a ∷ []) in
      subst (λ ts. AllDone does (map share (take (place + 1) all)) ts) (sym e)
      (subst (λ ss. AllDone does ss (tolds ++ t ∷ [])) (sym shares) (more_done does (map share (take place all)) tolds (share a) t before one))

-- one brief more is of the roll
pub shown_more : {A : Type 0} (P : A → Type 0) (all more : List A) (a : A) → All P all → P a → more ≡ all ++ a ∷ [] → All P more
shown_more P all more a each one e = subst (All P) (sym e) (All-append P all (a ∷ []) each (All-cons P a [] one (All-nil P)))
