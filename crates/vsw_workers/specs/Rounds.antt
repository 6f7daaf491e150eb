-- Rounds of actors: what one job does, and what a whole round has done.
use Rattle.std.specs.Prelude.{◌≡◌, ℕ, List, [], ◌∷◌, ◌++◌, take, drop}

-- an actor A is told by three views: what it is, the jobs that it has done and those that are left to do
module _ {A W J : Type 0} (what : A → W) (done todo : A → List J) where
  -- one job: the first that was left is now the last that was done, and the actor is what it was
  abbrev pub Does : A → A → Type 0
  Does before after = (what after ≡ what before) × ((job : J) × (todo before ≡ job ∷ todo after) × (done after ≡ done before ++ job ∷ []))

  -- no job was left, and nothing has changed
  abbrev pub Rests : A → A → Type 0
  Rests before after = (todo before ≡ []) × (after ≡ before)

  -- some jobs later: done and left are together the same jobs in the same order
  abbrev pub GoesOn : A → A → Type 0
  GoesOn before after = (what after ≡ what before) × (done after ++ todo after ≡ done before ++ todo before)

  -- the first jobs that were left, at most so many, are done in their order, and no other; the actor is what it was
  abbrev pub DoesSome : ℕ → A → A → Type 0
  DoesSome most before after = (what after ≡ what before) × (done after ≡ done before ++ take most (todo before)) × (todo after ≡ drop most (todo before))

  -- a round later: each job that was left is done, once and in order, and the actor is what it was
  abbrev pub Finishes : A → A → Type 0
  Finishes before after = (what after ≡ what before) × (todo after ≡ []) × (done after ≡ done before ++ todo before)

  -- each actor, with the one at its place before the round, has finished
  abbrev pub AllFinish : List A → List A → Type 0
  AllFinish [] [] = Unit {0}
  AllFinish [] (b ∷ bs) = ⊥
  AllFinish (a ∷ befores) [] = ⊥
  AllFinish (a ∷ befores) (b ∷ bs) = Finishes a b × AllFinish befores bs
