-- Each change of joined acts writes what it must.
use Rattle.std.proofs.Common.{◌≡◌, ℕ, ◌||◌, List, [], ◌∷◌, refl, arith, true}
use Rattle.std.specs.Prelude.{Option, Some, None, is_some}
use Rattle.std.proofs.lemmas.Grind.{common_steps}
use Rattle.vsw_base.specs.declared.header.Header.{Header}
use Rattle.vsw_base.proofs.Truths.{both}
use Rattle.vsw_transpose.specs.declared.act.Change.{Change}
use Rattle.vsw_transpose.specs.declared.act.Change.TheVariants as of
use Rattle.vsw_transpose.specs.declared.act.Act.{Act}
use Rattle.vsw_transpose.specs.declared.act.Act.TheVariants.{Push, Pop, Modify, Ignore}
use Rattle.vsw_transpose.specs.Form.{all_write, writes}
use Rattle.vsw_rule.specs.Joined.{later, merged, joined}

some_later : (a b c d : Option ℕ) → (is_some a || is_some b) ≡ true → (is_some (later a c) || is_some (later b d)) ≡ true
some_later (Some a) b (Some c) d h = refl
some_later (Some a) b None d h = refl
some_later None (Some b) (Some c) d h = refl
some_later None (Some b) None (Some d) h = refl
some_later None (Some b) None None h = refl
some_later None None c d h = absurd (grind arith)

merged_writes : (c d : Change) → writes c ≡ true → writes (merged c d) ≡ true
merged_writes (of.Six a b) (of.Six c d) h = some_later a b c d h
merged_writes (of.Ether a b) (of.Ether c d) h = refl
merged_writes (of.Ip a b) (of.Ip c d) h = refl
merged_writes (of.Ports a b) (of.Ports c d) h = refl
merged_writes c d h = h

with_one : (c : Change) (xs : List Act) → writes c ≡ true → all_write xs ≡ true → all_write (Modify c ∷ xs) ≡ true
with_one c xs h g = grind (arith, common_steps, h, g)

abbrev pub Write : List Act → Type 0
Write xs = (bs : List Act) → all_write xs ≡ true → all_write bs ≡ true → all_write (joined xs bs) ≡ true

push_write : (g : Header) (xs : List Act) → Write xs → Write (Push g ∷ xs)
push_write g xs ih [] h k = ih [] h k
push_write g xs ih (Push p ∷ bs) h k = push_write g xs ih bs h k
push_write g xs ih (Pop ∷ bs) h k = ih bs h k
push_write g xs ih (Modify c ∷ bs) h k = ih bs h (both (writes c) (all_write bs) k).1
push_write g xs ih (Ignore ∷ bs) h k = ih bs h k

modify_write : (c : Change) (xs : List Act) → Write xs → Write (Modify c ∷ xs)
modify_write c xs ih [] h k = let w = both (writes c) (all_write xs) h in with_one c (joined xs []) w.0 (ih [] w.1 k)
modify_write c xs ih (Push p ∷ bs) h k = modify_write c xs ih bs h k
modify_write c xs ih (Pop ∷ bs) h k = ih bs (both (writes c) (all_write xs) h).1 k
modify_write c xs ih (Modify d ∷ bs) h k =
    let w = both (writes c) (all_write xs) h in
    with_one (merged c d) (joined xs bs) (merged_writes c d w.0) (ih bs w.1 (both (writes d) (all_write bs) k).1)
modify_write c xs ih (Ignore ∷ bs) h k = let w = both (writes c) (all_write xs) h in with_one c (joined xs bs) w.0 (ih bs w.1 k)

ignore_write : (xs : List Act) → Write xs → Write (Ignore ∷ xs)
ignore_write xs ih [] h k = ih [] h k
ignore_write xs ih (Push p ∷ bs) h k = ignore_write xs ih bs h k
ignore_write xs ih (Pop ∷ bs) h k = ih bs h k
ignore_write xs ih (Modify d ∷ bs) h k = let w = both (writes d) (all_write bs) k in with_one d (joined xs bs) w.0 (ih bs h w.1)
ignore_write xs ih (Ignore ∷ bs) h k = ih bs h k

pub joined_write : (xs : List Act) → Write xs
joined_write [] bs h k = k
joined_write (Push g ∷ xs) bs h k = push_write g xs (joined_write xs) bs h k
joined_write (Pop ∷ xs) bs h k = joined_write xs bs h k
joined_write (Modify c ∷ xs) bs h k = modify_write c xs (joined_write xs) bs h k
joined_write (Ignore ∷ xs) bs h k = ignore_write xs (joined_write xs) bs h k
