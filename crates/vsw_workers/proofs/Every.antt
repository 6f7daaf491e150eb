-- From each place to the whole list.
use Rattle.std.proofs.Common.{◌≡◌, ℕ, suc, ◌<◌, List, [], ◌∷◌, length, arith}
use lib.ListN.{get_or}
use Rattle.vsw_workers.specs.Rounds.{Finishes, AllFinish}

module _ {A W J : Type 0} (what : A → W) (done todo : A → List J) where
  -- if each place of two lists of one length has finished, all have
  pub all_from_each : (xs ys : List A) → length xs ≡ length ys → ((i : ℕ) (d : A) → i < length xs → Finishes what done todo (get_or xs i d) (get_or ys i d)) → AllFinish what done todo xs ys
  all_from_each [] [] same each = tt
  all_from_each [] (y ∷ ys) same each = absurd (omega (arith, same))
  all_from_each (x ∷ xs) [] same each = absurd (omega (arith, same))
  all_from_each (x ∷ xs) (y ∷ ys) same each = (each 0 x (omega arith), all_from_each xs ys (omega (arith, same)) (λ i d below. each (suc i) d (omega (arith, below))))
