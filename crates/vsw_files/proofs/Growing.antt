-- Texts that grow at their ends.
use Rattle.std.proofs.Common.{◌≡◌, ℕ, ◌+◌, ◌≤◌, List, [], ◌++◌, Option, Some, None, length, take, min, sym, ◌∙◌, ap, subst, arith, append_assoc, append-nil}
use Rattle.std.proofs.Math.Seq.{take-append-add}
use Rattle.std.proofs.lemmas.List.{take-append-le, take_min}
use Rattle.vsw_host.specs.Outside.{Grows, Rose}

pub grows_none : (a : Option (List ℕ)) → Grows a a []
grows_none None = tt
grows_none (Some xs) = sym (append-nil xs)

-- nothing was appended
pub grows_same : (a b : Option (List ℕ)) → b ≡ a → Grows a b []
grows_same a b e = let P : Option (List ℕ) → Type 0 = λ o. Grows a o [] in subst P (sym e) (grows_none a)

pub grows_then : (a b c : Option (List ℕ)) (xs ys : List ℕ) → Grows a b xs → Grows b c ys → Grows a c (xs ++ ys)
grows_then None b c xs ys g h = tt
grows_then (Some u) None c xs ys g h = absurd g
grows_then (Some u) (Some v) None xs ys g h = absurd h
grows_then (Some u) (Some v) (Some w) xs ys g h = h ∙ ap (λ (t : List ℕ). t ++ ys) g ∙ append_assoc u xs ys

pub grows_is : (a b : Option (List ℕ)) (xs ys : List ℕ) → xs ≡ ys → Grows a b xs → Grows a b ys
grows_is a b xs ys e g = let P : List ℕ → Type 0 = Grows a b in subst P e g

-- the same between other values
pub grows_as : (a b c d : Option (List ℕ)) (xs : List ℕ) → c ≡ a → d ≡ b → Grows a b xs → Grows c d xs
grows_as a b c d xs e f g =
    let P : Option (List ℕ) → Type 0 = λ o. Grows o b xs in
    let Q : Option (List ℕ) → Type 0 = λ o. Grows c o xs in
    subst Q (sym f) (subst P (sym e) g)

-- a front of what comes after is a front of the whole
pub front_then : (a b c : Option (List ℕ)) (xs ys : List ℕ) (n : ℕ) → Grows a b xs → Grows b c (take n ys) → Grows a c (take (length xs + n) (xs ++ ys))
front_then a b c xs ys n g h = grows_is a c (xs ++ take n ys) (take (length xs + n) (xs ++ ys)) (sym (take-append-add xs ys n)) (grows_then a b c xs (take n ys) g h)

-- a front of a text is a front of a longer one
pub front_more : (a b : Option (List ℕ)) (xs ys : List ℕ) (n : ℕ) → Grows a b (take n xs) → Grows a b (take (min n (length xs)) (xs ++ ys))
front_more a b xs ys n g = grows_is a b (take n xs) (take (min n (length xs)) (xs ++ ys)) (sym (take-append-le (min n (length xs)) xs ys (omega arith) ∙ take_min n xs)) g

-- a count that rose later, or from a lower count on
pub rose_from : (a b c : ℕ) → a ≤ b → Rose b c → Rose a c
rose_from a b c h r = omega (arith, h, r)

pub rose_as : (a b c d : ℕ) → c ≡ a → d ≡ b → Rose a b → Rose c d
rose_as a b c d e f r = omega (arith, e, f, r)
