-- Acts of a transposition as acts of a row, and back.
use Rattle.std.proofs.Common.{◌≡◌, ℕ, ◌+◌, ◌≤◌, List, [], ◌∷◌, ◌++◌, refl, ◌∙◌, ap, arith, length, true, Option, Some, None, is_some, nat_le, suc, if◌then◌else◌}
use Rattle.std.proofs.lemmas.Grind.{common_steps}
use Rattle.vsw_base.specs.declared.header.Header.{Header}
use Rattle.vsw_base.specs.declared.header.Header.TheVariants.{Ether, Ip, Vxlan, Ports, Six}
use Rattle.vsw_base.specs.declared.fate.Verdict.{Verdict}
use Rattle.vsw_base.specs.declared.fate.Verdict.TheVariants.{Pass, Rule, Default}
use Rattle.vsw_base.specs.Shape.{is_stack, is_plain}
use Rattle.vsw_base.proofs.Stacks.{plain_cases, stack_cases, stack_short}
use Rattle.vsw_base.proofs.Truths.{both}
use Rattle.vsw_transpose.specs.declared.act.Change.TheVariants as of
use Rattle.vsw_transpose.specs.declared.act.Act.{Act}
use Rattle.vsw_transpose.specs.declared.act.Act.TheVariants.{Push, Pop, Modify, Ignore}
use Rattle.vsw_transpose.specs.Apply.{apply, is_of}
use Rattle.vsw_transpose.specs.Fits.{all_may, at_headers, fits, may, outer, stays}
use Rattle.vsw_transpose.specs.Form.{all_write, pops, pushed}
use Rattle.vsw_transpose.proofs.Kept.{counts, few, fits_parts}
use Rattle.vsw_words.specs.declared.stage.Stage.{Stage}
use Rattle.vsw_words.specs.declared.stage.Stage.TheVariants.{Pops, OnePop, TwoPops, Pushes, BehindEther, BehindIp, Stays, Wrong}
use Rattle.vsw_words.specs.Stage.{is_rest, next, stayed}
use Rattle.vsw_words.specs.Row.{all_halves, halves, second_half, IsBare}
use Rattle.vsw_words.specs.Reading.{lone_src, joined_acts}
use Rattle.vsw_words.proofs.Acts.{IsSingle, AreSingle}

-- the halves of a change of both addresses of IPv6, and the change
abbrev pub src_half : ℕ → Act
src_half a = Modify (of.Six (Some a) None)

abbrev pub dst_half : ℕ → Act
dst_half b = Modify (of.Six None (Some b))

abbrev pub whole : ℕ → ℕ → Act
whole a b = Modify (of.Six (Some a) (Some b))

-- the number of acts of a row that tell an act
pub number_of : (x : Act) (o : Option ℕ) → o ≡ second_half x → length (halves x) ≡ (if is_some o then 2 else 1)
number_of (Push h) o e = rw e refl
number_of Pop o e = rw e refl
number_of (Modify (of.Ether d s)) o e = rw e refl
number_of (Modify (of.Ip a b)) o e = rw e refl
number_of (Modify (of.Ports a b)) o e = rw e refl
number_of (Modify (of.Six None b)) o e = rw e refl
number_of (Modify (of.Six (Some a) None)) o e = rw e refl
number_of (Modify (of.Six (Some a) (Some b))) o e = rw e refl
number_of Ignore o e = rw e refl

-- acts of a row before and behind they are joined: a fact of both lists, step by step
abbrev pub Relation : Type 1
Relation = List Act → List Act → Type 0

joined_front : (x : Act) (xs : List Act) → lone_src x ≡ None → joined_acts (x ∷ xs) ≡ x ∷ joined_acts xs
joined_front x [] e = refl
joined_front x (y ∷ ys) e = rw e refl

pub joined_cases : (P : Relation) → P [] [] → ((x : Act) (xs ys : List Act) → P xs ys → P (x ∷ xs) (x ∷ ys))
    → ((a b : ℕ) (xs ys : List Act) → P xs ys → P (src_half a ∷ dst_half b ∷ xs) (whole a b ∷ ys)) → (xs : List Act) → P xs (joined_acts xs)
joined_cases P z one two [] = z
joined_cases P z one two (x ∷ []) = one x [] [] z
joined_cases P z one two (Modify (of.Six (Some a) None) ∷ Modify (of.Six None (Some b)) ∷ ys) = two a b ys _ (joined_cases P z one two ys)
joined_cases P z one two (Modify (of.Six (Some a) None) ∷ Modify (of.Six None None) ∷ ys) = one _ _ _ (joined_cases P z one two (Modify (of.Six None None) ∷ ys))
joined_cases P z one two (Modify (of.Six (Some a) None) ∷ Modify (of.Six (Some c) d) ∷ ys) = one _ _ _ (joined_cases P z one two (Modify (of.Six (Some c) d) ∷ ys))
joined_cases P z one two (Modify (of.Six (Some a) None) ∷ Modify (of.Ether d s) ∷ ys) = one _ _ _ (joined_cases P z one two (Modify (of.Ether d s) ∷ ys))
joined_cases P z one two (Modify (of.Six (Some a) None) ∷ Modify (of.Ip c d) ∷ ys) = one _ _ _ (joined_cases P z one two (Modify (of.Ip c d) ∷ ys))
joined_cases P z one two (Modify (of.Six (Some a) None) ∷ Modify (of.Ports c d) ∷ ys) = one _ _ _ (joined_cases P z one two (Modify (of.Ports c d) ∷ ys))
joined_cases P z one two (Modify (of.Six (Some a) None) ∷ Push h ∷ ys) = one _ _ _ (joined_cases P z one two (Push h ∷ ys))
joined_cases P z one two (Modify (of.Six (Some a) None) ∷ Pop ∷ ys) = one _ _ _ (joined_cases P z one two (Pop ∷ ys))
joined_cases P z one two (Modify (of.Six (Some a) None) ∷ Ignore ∷ ys) = one _ _ _ (joined_cases P z one two (Ignore ∷ ys))
joined_cases P z one two (Modify (of.Six (Some a) (Some b)) ∷ y ∷ ys) = one _ _ _ (joined_cases P z one two (y ∷ ys))
joined_cases P z one two (Modify (of.Six None None) ∷ y ∷ ys) = one _ _ _ (joined_cases P z one two (y ∷ ys))
joined_cases P z one two (Modify (of.Six None (Some b)) ∷ y ∷ ys) = one _ _ _ (joined_cases P z one two (y ∷ ys))
joined_cases P z one two (Modify (of.Ether d s) ∷ y ∷ ys) = one _ _ _ (joined_cases P z one two (y ∷ ys))
joined_cases P z one two (Modify (of.Ip a b) ∷ y ∷ ys) = one _ _ _ (joined_cases P z one two (y ∷ ys))
joined_cases P z one two (Modify (of.Ports a b) ∷ y ∷ ys) = one _ _ _ (joined_cases P z one two (y ∷ ys))
joined_cases P z one two (Push h ∷ y ∷ ys) = one _ _ _ (joined_cases P z one two (y ∷ ys))
joined_cases P z one two (Pop ∷ y ∷ ys) = one _ _ _ (joined_cases P z one two (y ∷ ys))
joined_cases P z one two (Ignore ∷ y ∷ ys) = one _ _ _ (joined_cases P z one two (y ∷ ys))

-- the form is the same, joined or not
stayed_twice : (s : Stage) → stayed (stayed s) ≡ stayed s
stayed_twice Pops = refl
stayed_twice OnePop = refl
stayed_twice TwoPops = refl
stayed_twice Pushes = refl
stayed_twice BehindEther = refl
stayed_twice BehindIp = refl
stayed_twice Stays = refl
stayed_twice Wrong = refl

abbrev pub RestsAlike : Relation
RestsAlike xs ys = (s : Stage) → is_rest s xs ≡ is_rest s ys

two_rest : (a b : ℕ) (xs ys : List Act) → RestsAlike xs ys → RestsAlike (src_half a ∷ dst_half b ∷ xs) (whole a b ∷ ys)
two_rest a b xs ys e s = ap (λ (t : Stage). is_rest t xs) (stayed_twice s) ∙ e (stayed s)

pub rest_joined : (xs : List Act) → RestsAlike xs (joined_acts xs)
rest_joined = joined_cases RestsAlike (λ s. refl) (λ x xs ys e s. e (next s x)) two_rest

-- joined acts are no more, and change what they must
pub joined_fewer : (xs : List Act) → length (joined_acts xs) ≤ length xs
joined_fewer = joined_cases (λ xs ys. length ys ≤ length xs) (omega arith) (λ x xs ys e. omega (arith, e)) (λ a b xs ys e. omega (arith, e))

abbrev pub Writes : Relation
Writes xs ys = AreSingle xs → all_write ys ≡ true

one_writes : (x : Act) (xs ys : List Act) → Writes xs ys → Writes (x ∷ xs) (x ∷ ys)
one_writes (Push h) xs ys f s = f s.1
one_writes Pop xs ys f s = f s.1
one_writes (Modify (of.Ether d s)) xs ys f k = f k.1
one_writes (Modify (of.Ip a b)) xs ys f k = f k.1
one_writes (Modify (of.Ports a b)) xs ys f k = f k.1
one_writes (Modify (of.Six None None)) xs ys f k = absurd k.0
one_writes (Modify (of.Six None (Some b))) xs ys f k = f k.1
one_writes (Modify (of.Six (Some a) None)) xs ys f k = f k.1
one_writes (Modify (of.Six (Some a) (Some b))) xs ys f k = absurd k.0
one_writes Ignore xs ys f s = f s.1

pub joined_write : (xs : List Act) → AreSingle xs → all_write (joined_acts xs) ≡ true
joined_write = joined_cases Writes (λ s. refl) one_writes (λ a b xs ys f s. f s.1.1)

-- acts of a row that were joined are told by these acts again
single_halves : (x : Act) → IsSingle x → halves x ≡ x ∷ []
single_halves (Push h) s = refl
single_halves Pop s = refl
single_halves (Modify (of.Ether d e)) s = refl
single_halves (Modify (of.Ip a b)) s = refl
single_halves (Modify (of.Ports a b)) s = refl
single_halves (Modify (of.Six None None)) s = refl
single_halves (Modify (of.Six None (Some b))) s = refl
single_halves (Modify (of.Six (Some a) None)) s = refl
single_halves (Modify (of.Six (Some a) (Some b))) s = absurd s
single_halves Ignore s = refl

abbrev pub HasHalves : Relation
HasHalves xs ys = AreSingle xs → all_halves ys ≡ xs

pub halves_joined : (xs : List Act) → AreSingle xs → all_halves (joined_acts xs) ≡ xs
halves_joined = joined_cases HasHalves (λ s. refl)
    (λ x xs ys f s. ap (λ (l : List Act). l ++ all_halves ys) (single_halves x s.0) ∙ ap (λ (l : List Act). x ∷ l) (f s.1))
    (λ a b xs ys f s. ap (λ (l : List Act). src_half a ∷ dst_half b ∷ l) (f s.1.1))

-- changes of IPv6, and headers of IPv6
abbrev pub six_acts : List Act → ℕ
six_acts [] = 0
six_acts (Push h ∷ xs) = six_acts xs
six_acts (Pop ∷ xs) = six_acts xs
six_acts (Modify (of.Ether d s) ∷ xs) = six_acts xs
six_acts (Modify (of.Ip a b) ∷ xs) = six_acts xs
six_acts (Modify (of.Ports a b) ∷ xs) = six_acts xs
six_acts (Modify (of.Six a b) ∷ xs) = suc (six_acts xs)
six_acts (Ignore ∷ xs) = six_acts xs

abbrev pub six_headers : List Header → ℕ
six_headers [] = 0
six_headers (Ether d s k ∷ hs) = six_headers hs
six_headers (Ip a b p q ∷ hs) = six_headers hs
six_headers (Vxlan v ∷ hs) = six_headers hs
six_headers (Ports p x y ∷ hs) = six_headers hs
six_headers (Six a b p ∷ hs) = suc (six_headers hs)

-- a stack has at most one header of IPv6
abbrev pub OneSix : List Header → Type 0
OneSix hs = six_headers hs ≤ 1

plain_six : (hs : List Header) → is_plain hs ≡ true → OneSix hs
plain_six = plain_cases OneSix (λ d s k t. omega arith) (λ d s k a b p q t. omega arith) (λ d s k a b p q x y t. omega arith) (λ d s k a b p t. omega arith) (λ d s k a b p x y t. omega arith)

stack_six : (hs : List Header) → is_stack hs ≡ true → OneSix hs
stack_six = stack_cases OneSix plain_six (λ hs t d s a b v n. plain_six hs t) (λ hs t e f g h w m d s a b v n. plain_six hs t)

-- each change of IPv6 has a header of IPv6
more_headers : (h : Header) (hs : List Header) → six_headers hs ≤ six_headers (h ∷ hs)
more_headers (Ether d s k) hs = omega arith
more_headers (Ip a b p q) hs = omega arith
more_headers (Vxlan v) hs = omega arith
more_headers (Ports p x y) hs = omega arith
more_headers (Six a b p) hs = omega arith

of_six : (a b : Option ℕ) (h : Header) (hs : List Header) → is_of (of.Six a b) h ≡ true → six_headers (h ∷ hs) ≡ suc (six_headers hs)
of_six a b (Ether d s k) hs t = absurd (grind (arith, common_steps))
of_six a b (Ip c d p q) hs t = absurd (grind (arith, common_steps))
of_six a b (Vxlan v) hs t = absurd (grind (arith, common_steps))
of_six a b (Ports p x y) hs t = absurd (grind (arith, common_steps))
of_six a b (Six c d p) hs t = refl

-- the first act may be done at the first header, and the others at the others
may_first : (n i : ℕ) (x : Act) (xs : List Act) (h : Header) (hs : List Header) → all_may n i (x ∷ xs) (h ∷ hs) ≡ true → (may n i x h ≡ true) × (all_may n (i + 1) xs hs ≡ true)
may_first n i x xs h hs t = both (may n i x h) (all_may n (i + 1) xs hs) t

sixes_fit : (n i : ℕ) (xs : List Act) (hs : List Header) → all_may n i (at_headers xs) hs ≡ true → six_acts xs ≤ six_headers hs
sixes_fit n i [] hs t = omega arith
sixes_fit n i (Push g ∷ xs) hs t = sixes_fit n i xs hs t
sixes_fit n i (Pop ∷ xs) [] t = absurd (grind (arith, common_steps))
sixes_fit n i (Modify c ∷ xs) [] t = absurd (grind (arith, common_steps))
sixes_fit n i (Ignore ∷ xs) [] t = absurd (grind (arith, common_steps))
sixes_fit n i (Pop ∷ xs) (h ∷ hs) t = omega (arith, more_headers h hs, sixes_fit n (i + 1) xs hs (may_first n i Pop (at_headers xs) h hs t).1)
sixes_fit n i (Ignore ∷ xs) (h ∷ hs) t = omega (arith, more_headers h hs, sixes_fit n (i + 1) xs hs (may_first n i Ignore (at_headers xs) h hs t).1)
sixes_fit n i (Modify (of.Ether d s) ∷ xs) (h ∷ hs) t = omega (arith, more_headers h hs, sixes_fit n (i + 1) xs hs (may_first n i (Modify (of.Ether d s)) (at_headers xs) h hs t).1)
sixes_fit n i (Modify (of.Ip a b) ∷ xs) (h ∷ hs) t = omega (arith, more_headers h hs, sixes_fit n (i + 1) xs hs (may_first n i (Modify (of.Ip a b)) (at_headers xs) h hs t).1)
sixes_fit n i (Modify (of.Ports a b) ∷ xs) (h ∷ hs) t = omega (arith, more_headers h hs, sixes_fit n (i + 1) xs hs (may_first n i (Modify (of.Ports a b)) (at_headers xs) h hs t).1)
sixes_fit n i (Modify (of.Six a b) ∷ xs) (h ∷ hs) t =
    let m = may_first n i (Modify (of.Six a b)) (at_headers xs) h hs t in
    omega (arith, of_six a b h hs (both (nat_le n i) (is_of (of.Six a b) h) m.0).1, sixes_fit n (i + 1) xs hs m.1)

-- one change of IPv6 is alone with its halves
none_behind : (a : ℕ) (xs : List Act) → six_acts xs ≡ 0 → joined_acts (src_half a ∷ all_halves xs) ≡ src_half a ∷ joined_acts (all_halves xs)
none_behind a [] e = refl
none_behind a (Push h ∷ xs) e = refl
none_behind a (Pop ∷ xs) e = refl
none_behind a (Modify (of.Ether d s) ∷ xs) e = refl
none_behind a (Modify (of.Ip c d) ∷ xs) e = refl
none_behind a (Modify (of.Ports c d) ∷ xs) e = refl
none_behind a (Modify (of.Six c d) ∷ xs) e = absurd (omega (arith, e))
none_behind a (Ignore ∷ xs) e = refl

pub one_apart : (xs : List Act) → six_acts xs ≤ 1 → joined_acts (all_halves xs) ≡ xs
one_apart [] l = refl
one_apart (Push h ∷ xs) l = joined_front (Push h) (all_halves xs) refl ∙ ap (λ (k : List Act). Push h ∷ k) (one_apart xs l)
one_apart (Pop ∷ xs) l = joined_front Pop (all_halves xs) refl ∙ ap (λ (k : List Act). Pop ∷ k) (one_apart xs l)
one_apart (Modify (of.Ether d s) ∷ xs) l = joined_front (Modify (of.Ether d s)) (all_halves xs) refl ∙ ap (λ (k : List Act). Modify (of.Ether d s) ∷ k) (one_apart xs l)
one_apart (Modify (of.Ip a b) ∷ xs) l = joined_front (Modify (of.Ip a b)) (all_halves xs) refl ∙ ap (λ (k : List Act). Modify (of.Ip a b) ∷ k) (one_apart xs l)
one_apart (Modify (of.Ports a b) ∷ xs) l = joined_front (Modify (of.Ports a b)) (all_halves xs) refl ∙ ap (λ (k : List Act). Modify (of.Ports a b) ∷ k) (one_apart xs l)
one_apart (Modify (of.Six None b) ∷ xs) l = joined_front (Modify (of.Six None b)) (all_halves xs) (no_src b) ∙ ap (λ (k : List Act). Modify (of.Six None b) ∷ k) (one_apart xs (omega (arith, l)))
  where
    no_src : (b : Option ℕ) → lone_src (Modify (of.Six None b)) ≡ None
    no_src None = refl
    no_src (Some b) = refl
one_apart (Modify (of.Six (Some a) None) ∷ xs) l = none_behind a xs (omega (arith, l)) ∙ ap (λ (k : List Act). src_half a ∷ k) (one_apart xs (omega (arith, l)))
one_apart (Modify (of.Six (Some a) (Some b)) ∷ xs) l = ap (λ (k : List Act). whole a b ∷ k) (one_apart xs (omega (arith, l)))
one_apart (Ignore ∷ xs) l = joined_front Ignore (all_halves xs) refl ∙ ap (λ (k : List Act). Ignore ∷ k) (one_apart xs l)

halves_few : (xs : List Act) → length (all_halves xs) ≤ length xs + six_acts xs
halves_few [] = omega arith
halves_few (Push h ∷ xs) = omega (arith, halves_few xs)
halves_few (Pop ∷ xs) = omega (arith, halves_few xs)
halves_few (Modify (of.Ether d s) ∷ xs) = omega (arith, halves_few xs)
halves_few (Modify (of.Ip a b) ∷ xs) = omega (arith, halves_few xs)
halves_few (Modify (of.Ports a b) ∷ xs) = omega (arith, halves_few xs)
halves_few (Modify (of.Six None b) ∷ xs) = omega (arith, halves_few xs)
halves_few (Modify (of.Six (Some a) None) ∷ xs) = omega (arith, halves_few xs)
halves_few (Modify (of.Six (Some a) (Some b)) ∷ xs) = omega (arith, halves_few xs)
halves_few (Ignore ∷ xs) = omega (arith, halves_few xs)

-- the acts by their kinds
by_kind : (xs : List Act) → length xs ≡ pops xs + stays xs + length (pushed xs)
by_kind [] = refl
by_kind (Push h ∷ xs) = omega (arith, by_kind xs)
by_kind (Pop ∷ xs) = omega (arith, by_kind xs)
by_kind (Modify c ∷ xs) = omega (arith, by_kind xs)
by_kind (Ignore ∷ xs) = omega (arith, by_kind xs)

-- acts that fit a stack have room in a row, which tells them
pub fitting : (xs : List Act) (hs : List Header) → is_stack hs ≡ true → fits xs hs ≡ true → (length (all_halves xs) ≤ 18) × (joined_acts (all_halves xs) ≡ xs)
fitting xs hs s t =
    let one : six_acts xs ≤ 1 = omega (arith, stack_six hs s, sixes_fit (outer hs) 0 xs hs (both (all_may (outer hs) 0 (at_headers xs) hs) (is_stack (apply xs hs)) t).0) in
    let p = fits_parts xs hs t in
    let c = counts (outer hs) xs hs p.0 in
    (omega (arith, one, halves_few xs, by_kind xs, c.0, c.1, c.2, few hs s, stack_short hs s, stack_short (apply xs hs) p.1), one_apart xs one)

-- and so do the acts of any body
pub body_fits : (v : Verdict) (xs : List Act) (hs : List Header) → is_stack hs ≡ true → IsBare v xs → (v ≡ Pass → fits xs hs ≡ true) → (length (all_halves xs) ≤ 18) × (joined_acts (all_halves xs) ≡ xs)
body_fits Pass xs hs s bare f = fitting xs hs s (f refl)
body_fits (Rule c l g r) xs hs s bare f = rw bare (omega arith, refl)
body_fits (Default c l d) xs hs s bare f = rw bare (omega arith, refl)
