-- Which rounds go to threads that stay.
use Rattle.std.proofs.Common.{slice_index_or, ◌≡◌, ◌<◌, ◌≤◌, ◌+◌, ◌==◌, ◌&&◌, ℕ, zero, suc, Bool, true, false, if◌then◌else◌, Some, List, [], ◌∷◌, filter, get_or, length, map, slice_get, take, take_all, refl, sym, ◌∙◌, ap, subst, arith}
use Rattle.vsw_commandfile.specs.declared.line.Line.{Line}
use Rattle.vsw_promise.specs.Schedule.{commands_at}

there_within : (xs : List Line) (n : ℕ) (x : Line) → slice_get xs n ≡ Some x → n < length xs
there_within [] n x e = absurd (cc e)
there_within (y ∷ ys) zero x e = omega arith
there_within (y ∷ ys) (suc n) x e = omega (arith, there_within ys n x e)

-- the command of a round stands in the file
pub line_within : (lines cs : List Line) (places : List ℕ) (i x : ℕ) → map (λ place. slice_get lines place) places ≡ map Some cs → i < length places → x ≡ get_or places i x → x < length lines
line_within lines cs [] i x e lt here = absurd (omega (arith, lt))
line_within lines [] (p ∷ ps) i x e lt here = absurd (cc e)
line_within lines (c ∷ cs) (p ∷ ps) zero x e lt here = let first : slice_get lines p ≡ Some c = cc e in there_within lines x c (ap (slice_get lines) here ∙ first)
line_within lines (c ∷ cs) (p ∷ ps) (suc i) x e lt here = line_within lines cs ps i x (cc e) (omega (arith, lt)) here

-- the place that was read
pub read_there : (places : List ℕ) (i : ℕ) → i < length places → slice_index_or places i 0 ≡ get_or places i (slice_index_or places i 0)
read_there [] i lt = absurd (omega (arith, lt))
read_there (p ∷ ps) zero lt = refl
read_there (p ∷ ps) (suc i) lt = read_there ps i (omega (arith, lt))

skipped : (b : Bool) (l : Line) (ls : List Line) → b ≡ false → ls ≡ [] → (if b then l ∷ ls else ls) ≡ []
skipped true l ls e h = absurd (cc e)
skipped false l ls e h = h

none_of : (b : Bool) (l : Line) (ls : List Line) → (if b then l ∷ ls else ls) ≡ [] → (b ≡ false) × (ls ≡ [])
none_of true l ls e = absurd (cc e)
none_of false l ls e = (refl, e)

quiet_more : (lines cs : List Line) (places : List ℕ) (i x : ℕ) (l : Line) → map (λ place. slice_get lines place) places ≡ map Some cs → i < length places → x ≡ get_or places i x → slice_get lines x ≡ Some l → l.during ≡ false → filter (λ l. l.during) (take i cs) ≡ [] → filter (λ l. l.during) (take (suc i) cs) ≡ []
quiet_more lines cs [] i x l e lt here there off so = absurd (omega (arith, lt))
quiet_more lines [] (p ∷ ps) i x l e lt here there off so = absurd (cc e)
quiet_more lines (c ∷ cs) (p ∷ ps) zero x l e lt here there off so =
    let first : slice_get lines p ≡ Some c = cc e in
    let same : c ≡ l = let found : Some c ≡ Some l = sym first ∙ (ap (slice_get lines) (sym here) ∙ there) in cc found in
    skipped c.during c [] (ap (λ (k : Line). k.during) same ∙ off) refl
quiet_more lines (c ∷ cs) (p ∷ ps) (suc i) x l e lt here there off so =
    let n = none_of c.during c (filter (λ l. l.during) (take i cs)) so in
    skipped c.during c (filter (λ l. l.during) (take (suc i) cs)) n.0 (quiet_more lines cs ps i x l (cc e) (omega (arith, lt)) here there off n.1)

-- one more of a round's commands doesn't run beside the packets
pub quiet_next : (lines cs : List Line) (places : List ℕ) (i x : ℕ) (l : Line) → map (λ place. slice_get lines place) places ≡ map Some cs → i < length places → x ≡ get_or places i x → slice_get lines x ≡ Some l → l.during ≡ false → filter (λ l. l.during) (take i cs) ≡ [] → filter (λ l. l.during) (take (i + 1) cs) ≡ []
quiet_next lines cs places i x l e lt here there off so =
    let next : suc i ≡ i + 1 = omega arith in
    subst (λ n. filter (λ l. l.during) (take n cs) ≡ []) next (quiet_more lines cs places i x l e lt here there off so)

and_step : (a b : Bool) (l : Line) (xs ys : List Line) → l.during ≡ b → filter (λ l. l.during) xs ≡ ys → filter (λ l. l.during) (if a then l ∷ xs else xs) ≡ (if a && b then l ∷ ys else ys)
and_step false b l xs ys e h = h
and_step true b l xs ys e h = subst (λ c. (if c then l ∷ filter (λ l. l.during) xs else filter (λ l. l.during) xs) ≡ (if b then l ∷ ys else ys)) (sym e) (ap (λ w. if b then l ∷ w else w) h)

both_tests : (first : ℕ) (lines : List Line) → filter (λ l. l.during) (commands_at first lines) ≡ filter (λ l. (l.at == first) && l.during) lines
both_tests first [] = refl
both_tests first (l ∷ ls) = and_step (l.at == first) l.during l (commands_at first ls) (filter (λ l. (l.at == first) && l.during) ls) refl (both_tests first ls)

map_size : {A B : Type 0} (f : A → B) (xs : List A) → length (map f xs) ≡ length xs
map_size f [] = refl
map_size f (x ∷ xs) = ap suc (map_size f xs)

-- none of them does
pub quiet_all : (lines : List Line) (places : List ℕ) (first i : ℕ) → map (λ place. slice_get lines place) places ≡ map Some (commands_at first lines) → length places ≤ i → filter (λ l. l.during) (take i (commands_at first lines)) ≡ [] → filter (λ l. (l.at == first) && l.during) lines ≡ []
quiet_all lines places first i e le so =
    let cs = commands_at first lines in
    let size : length places ≡ length cs = sym (map_size (λ place. slice_get lines place) places) ∙ (ap length e ∙ map_size Some cs) in
    sym (both_tests first lines) ∙ (ap (filter (λ l. l.during)) (sym (take_all i cs (omega (arith, le, size)))) ∙ so)
