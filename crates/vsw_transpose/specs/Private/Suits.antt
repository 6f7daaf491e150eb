-- Fitting, as it is found on the way: with a count of the outer headers that are left.
use Rattle.std.specs.Prelude.{ℕ, ◌-◌, ◌==◌, ◌&&◌, List, [], ◌∷◌, Bool, true, false, nat_lt}
use Rattle.vsw_base.specs.declared.header.Header.{Header}
use Rattle.vsw_transpose.specs.declared.act.Act.{Act}
use Rattle.vsw_transpose.specs.declared.act.Act.TheVariants.{Push, Pop, Modify, Ignore}
use Rattle.vsw_transpose.specs.Apply.{is_of}

-- each header has its act, and each act but a push its header. A pop stands at one of the outer headers, which are so many, and a
-- modify at an inner header of its kind
abbrev pub suits : ℕ → List Act → List Header → Bool
suits outer [] [] = true
suits outer (Push h ∷ xs) hs = suits outer xs hs
suits outer (Pop ∷ xs) (h ∷ hs) = nat_lt 0 outer && suits (outer - 1) xs hs
suits outer (Modify c ∷ xs) (h ∷ hs) = (outer == 0) && is_of c h && suits outer xs hs
suits outer (Ignore ∷ xs) (h ∷ hs) = suits (outer - 1) xs hs
suits outer xs hs = false
