-- The rows of all callers are the lines of each port.
use Rattle.std.proofs.Common.{◌≡◌, ◌≤◌, ◌<◌, ℕ, zero, suc, ◌+◌, ◌==◌, ◌||◌, Bool, true, false, nat_lt, if◌then◌else◌, List, [], ◌∷◌, ◌++◌, length, map, take, get_or, refl, ap, ap₂, sym, ◌∙◌, arith, eq-eqb}
use Rattle.std.specs.List.{flat_map}
use Rattle.vsw_harbour.specs.Crew.{AreTexts, crew_texts, lines_for}
use Rattle.vsw_port.specs.Calls.{Call, calls_of, controller_at}
use Rattle.vsw_port.specs.Order.{ascending, counted, put_in}
use Rattle.vsw_report.specs.Line.{TextLine}
use Rattle.vsw_harbour.proofs.Dealing.{place_within}
use Rattle.vsw_harbour.proofs.Passes.{each_weaker}
use Rattle.vsw_policy.specs.Layers.{place_of}
use Rattle.vsw_policy.specs.Sound.{Each, is_listed}
use Rattle.vsw_promise.specs.Ports.{PortSeen}
use Rattle.vsw_crew.specs.Texts.{caller_at, controller_lines, row_at, texts_at, texts_by_port}
use Rattle.vsw_crew.specs.Told.{told_row, told_rows}

-- ---- lists by places

map_same : {A B : Type 0} (f g : A → B) (xs : List A) → ((x : A) → f x ≡ g x) → map f xs ≡ map g xs
map_same f g [] e = refl
map_same f g (x ∷ xs) e = ap₂ (λ y ys. y ∷ ys) (e x) (map_same f g xs e)

counted_next : {A : Type 0} (f : ℕ → A) (k n : ℕ) → map f (counted (suc k) n) ≡ map (λ i. f (suc i)) (counted k n)
counted_next f k zero = refl
counted_next f k (suc n) = ap (λ w. f (suc k) ∷ w) (counted_next f (suc k) n)

first_ones : {A : Type 0} (f : ℕ → A) (w k n : ℕ) → w ≤ n → take w (map f (counted k n)) ≡ map f (counted k w)
first_ones f zero k zero le = refl
first_ones f zero k (suc n) le = refl
first_ones f (suc w) k zero le = absurd (omega (arith, le))
first_ones f (suc w) k (suc n) le = ap (λ xs. f k ∷ xs) (first_ones f w (suc k) n (omega (arith, le)))

row_there : {A : Type 0} (f : ℕ → List A) (k n j : ℕ) → j < n → get_or (map f (counted k n)) j [] ≡ f (k + j)
row_there f k zero j lt = absurd (omega (arith, lt))
row_there f k (suc n) zero lt = ap f (omega arith)
row_there f k (suc n) (suc j) lt = row_there f (suc k) n j (omega (arith, lt)) ∙ ap f (omega arith)

-- ---- a port's lines, in the rows of callers

told_there : (cs : List ℕ) (calls : List (List Call)) (k i : ℕ) → caller_at i (told_row cs calls k) ≡ lines_for (calls_of cs k (get_or calls i []))
told_there cs [] k i = refl
told_there cs (c ∷ calls) k zero = refl
told_there cs (c ∷ calls) k (suc i) = told_there cs calls k i

workers_there : (cs : List ℕ) (calls : List (List Call)) (i : ℕ) (ks : List ℕ) → map (caller_at i) (map (told_row cs calls) ks) ≡ map (λ k. lines_for (calls_of cs k (get_or calls i []))) ks
workers_there cs calls i [] = refl
workers_there cs calls i (k ∷ ks) = ap₂ (λ x y. x ∷ y) (told_there cs calls k i) (workers_there cs calls i ks)

controller_there : (cs : List ℕ) (firsts laters : List (List Call)) (i c : ℕ) → is_listed cs c ≡ true
    → controller_lines cs (told_rows cs laters 0 (16 + length cs)) (told_rows cs firsts 16 (length cs)) i c ≡ lines_for (calls_of cs (controller_at cs c) (get_or firsts i [])) ∷ lines_for (calls_of cs (controller_at cs c) (get_or laters i [])) ∷ []
controller_there cs firsts laters i c listed =
    let within : place_of c cs < length cs = place_within cs c listed in
    let first : row_at (place_of c cs) (told_rows cs firsts 16 (length cs)) ≡ told_row cs firsts (controller_at cs c) = row_there (told_row cs firsts) 16 (length cs) (place_of c cs) within in
    let nought : 0 + (16 + place_of c cs) ≡ 16 + place_of c cs = omega arith in
    let later : row_at (16 + place_of c cs) (told_rows cs laters 0 (16 + length cs)) ≡ told_row cs laters (controller_at cs c) =
    row_there (told_row cs laters) 0 (16 + length cs) (16 + place_of c cs) (omega (arith, within)) ∙ ap (told_row cs laters) nought in
    ap₂ (λ x y. x ∷ y ∷ []) (ap (caller_at i) first ∙ told_there cs firsts (controller_at cs c) i) (ap (caller_at i) later ∙ told_there cs laters (controller_at cs c) i)

controllers_there : (cs : List ℕ) (firsts laters : List (List Call)) (i : ℕ) (ns : List ℕ) → Each (λ n. is_listed cs n ≡ true) ns
    → flat_map (controller_lines cs (told_rows cs laters 0 (16 + length cs)) (told_rows cs firsts 16 (length cs)) i) ns
    ≡ flat_map (λ k. lines_for (calls_of cs k (get_or firsts i [])) ∷ lines_for (calls_of cs k (get_or laters i [])) ∷ []) (map (controller_at cs) ns)
controllers_there cs firsts laters i [] l = refl
controllers_there cs firsts laters i (n ∷ ns) l = ap₂ (λ x y. x ++ y) (controller_there cs firsts laters i n l.0) (controllers_there cs firsts laters i ns l.1)

-- ---- the controllers in ascending order

put_each : (P : ℕ → Type 0) (n : ℕ) (ms : List ℕ) → P n → Each P ms → Each P (put_in n ms)
put_each P n [] p a = (p, tt)
put_each P n (m ∷ ms) p a = by (nat_lt n m) (n == m) (put_each P n ms p a.1)
  where
    by : (b c : Bool) → Each P (put_in n ms) → Each P (if b then n ∷ m ∷ ms else if c then m ∷ ms else m ∷ put_in n ms)
    by true c rest = (p, a)
    by false true rest = a
    by false false rest = (a.0, rest)

ascending_each : (P : ℕ → Type 0) (ns : List ℕ) → Each P ns → Each P (ascending ns)
ascending_each P [] a = tt
ascending_each P (n ∷ ns) a = put_each P n (ascending ns) a.0 (ascending_each P ns a.1)

or_right : (b c : Bool) → c ≡ true → (b || c) ≡ true
or_right true c e = refl
or_right false c e = e

self_listed : (ns : List ℕ) → Each (λ n. is_listed ns n ≡ true) ns
self_listed [] = tt
self_listed (n ∷ ns) =
    let here : (n == n) ≡ true = eq-eqb n n refl in
    (ap (λ b. b || is_listed ns n) here, each_weaker (λ m. is_listed ns m ≡ true) (λ m. is_listed (n ∷ ns) m ≡ true) ns (λ m e. or_right (m == n) (is_listed ns m) e) (self_listed ns))

-- ---- all ports

port_there : (cs : List ℕ) (workers : ℕ) (firsts laters : List (List Call)) (i : ℕ) → workers ≤ 16 → Each (λ n. is_listed cs n ≡ true) (ascending cs)
    → texts_at workers cs (ascending cs) (told_rows cs laters 0 (16 + length cs)) (told_rows cs firsts 16 (length cs)) i ≡ crew_texts cs workers (get_or firsts i []) (get_or laters i [])
port_there cs workers firsts laters i few listed =
    ap₂ (λ x y. x ++ y) (ap (map (caller_at i)) (first_ones (told_row cs laters) workers 0 (16 + length cs) (omega (arith, few))) ∙ workers_there cs laters i (counted 0 workers)) (controllers_there cs firsts laters i (ascending cs) listed)

all_there : (cs : List ℕ) (workers : ℕ) (ps : List PortSeen) (firsts laters : List (List Call)) (texts : List (List (List TextLine))) → Each (λ p. p.controllers ≡ cs) ps → AreTexts workers ps firsts laters texts
    → map (λ i. crew_texts cs workers (get_or firsts i []) (get_or laters i [])) (counted 0 (length ps)) ≡ texts
all_there cs workers [] [] [] [] same a = refl
all_there cs workers (p ∷ ps) (c ∷ firsts) (d ∷ laters) (t ∷ texts) same a =
    ap₂ (λ x y. x ∷ y) (ap (λ v. crew_texts v workers c d) (sym same.0) ∙ sym a.0)
    (counted_next (λ i. crew_texts cs workers (get_or (c ∷ firsts) i []) (get_or (d ∷ laters) i [])) 0 (length ps) ∙ all_there cs workers ps firsts laters texts same.1 a.1)
all_there cs workers [] (c ∷ firsts) laters texts same a = absurd a
all_there cs workers [] [] (d ∷ laters) texts same a = absurd a
all_there cs workers [] [] [] (t ∷ texts) same a = absurd a
all_there cs workers (p ∷ ps) [] laters texts same a = absurd a
all_there cs workers (p ∷ ps) (c ∷ firsts) [] texts same a = absurd a
all_there cs workers (p ∷ ps) (c ∷ firsts) (d ∷ laters) [] same a = absurd a

pub texts_are : (cs : List ℕ) (workers : ℕ) (ps : List PortSeen) (firsts laters : List (List Call)) (texts : List (List (List TextLine))) → workers ≤ 16 → Each (λ p. p.controllers ≡ cs) ps → AreTexts workers ps firsts laters texts
    → texts_by_port workers cs (ascending cs) (told_rows cs laters 0 (16 + length cs)) (told_rows cs firsts 16 (length cs)) (length ps) ≡ texts
texts_are cs workers ps firsts laters texts few same a =
    let listed : Each (λ n. is_listed cs n ≡ true) (ascending cs) = ascending_each (λ n. is_listed cs n ≡ true) cs (self_listed cs) in
    map_same (texts_at workers cs (ascending cs) (told_rows cs laters 0 (16 + length cs)) (told_rows cs firsts 16 (length cs))) (λ i. crew_texts cs workers (get_or firsts i []) (get_or laters i [])) (counted 0 (length ps)) (λ i. port_there cs workers firsts laters i few listed)
    ∙ all_there cs workers ps firsts laters texts same a
