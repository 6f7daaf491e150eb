use Rattle.std.proofs.Common.{◌≡◌, ◌++◌, List, [], ◌∷◌, length, map, ℕ, sym, arith}
use Rattle.std.proofs.lemmas.List.{append-nil}
use Rattle.vsw_dock.proofs.meeting.+hold_more.Goals as goal

-- no dock adds a port
none_more : {X Y : Type 0} (f : X → Y) (xs : List X) (ys : List Y) → length xs ≡ 0 → ys ≡ ys ++ map f xs
none_more f [] ys e = sym (append-nil ys)
none_more f (x ∷ xs) ys e = absurd (omega (arith, e))

pub returns-in-None : goal.returns-in-None
returns-in-None g t c = none_more _ c.args.docks.now _ c.in-None.ensures.cases
