-- A step of a loop over callers, and a slice of rows that was changed in part.
use Rattle.std.proofs.Common.{◌≡◌, ◌≢◌, ◌≤◌, ◌<◌, ◌+◌, ◌-◌, ℕ, zero, suc, List, [], ◌∷◌, ◌++◌, drop, get_or, length, map, set, take, refl, ap, ap₂, sym, ◌∙◌, subst, arith, append_assoc, append-nil, take_all}
use Rattle.std.specs.List.{flat_map}
use Rattle.std.proofs.lemmas.List.{drop-drop, drop_all, drop_at, get_or_default, length-map, map-append, take-append-drop}
use borrow.Rule.Slice.PartMut.{put_mid}
use Rattle.vsw_report.specs.Line.{TextLine}
use Rattle.vsw_policy.specs.Sound.{Each}
use Rattle.vsw_crew.specs.Texts.{caller_at, row_at}
use Rattle.vsw_crew.specs.Private.Port.{AreOnce, all_gone, gone, pair_at, quiet}
use Rattle.vsw_crew.proofs.GoneAtPort.{length_quiet, others_stay, taken_one}

-- the next element is made of the one at the same place
made_suc : {A B : Type 0} (f : A → B) (made : List B) (xs : List A) (k : ℕ) (d x : A) (y : B) → k < length xs → length made ≡ length xs → y ≡ f (get_or xs k d)
    → take (suc k) (set made k y) ++ map f (drop (suc k) (set xs k x)) ≡ take k made ++ map f (drop k xs)
made_suc f made [] k d x y lt same e = absurd (omega (arith, lt))
made_suc f [] (a ∷ xs) k d x y lt same e = absurd (omega (arith, same))
made_suc f (b ∷ made) (a ∷ xs) zero d x y lt same e = ap (λ z. z ∷ map f xs) e
made_suc f (b ∷ made) (a ∷ xs) (suc k) d x y lt same e = ap (λ zs. b ∷ zs) (made_suc f made xs k d x y (omega (arith, lt)) (omega (arith, same)) e)

pub made_next : {A B : Type 0} (f : A → B) (made : List B) (xs : List A) (k : ℕ) (d x : A) (y : B) → k < length xs → length made ≡ length xs → y ≡ f (get_or xs k d)
    → take (k + 1) (set made k y) ++ map f (drop (k + 1) (set xs k x)) ≡ take k made ++ map f (drop k xs)
made_next f made xs k d x y lt same e =
    let one : suc k ≡ k + 1 = omega arith in
    subst (λ m. take m (set made k y) ++ map f (drop m (set xs k x)) ≡ take k made ++ map f (drop k xs)) one (made_suc f made xs k d x y lt same e)

-- all are made
pub made_all : {A B : Type 0} (f : A → B) (made : List B) (xs : List A) (k : ℕ) → length xs ≤ k → length made ≤ k → take k made ++ map f (drop k xs) ≡ made
made_all f made xs k le few = ap₂ (λ a b. a ++ map f b) (take_all k made few) (drop_all k xs le) ∙ append-nil made

-- a controller's lines go over, from its two rows
pub pair_taken : (place k : ℕ) (firsts laters : List (List (List TextLine))) (x y : List (List TextLine)) (ks : List ℕ) (out : List (List TextLine)) (a b : List TextLine) → Each (λ j. j ≢ k) ks
    → a ≡ caller_at place (row_at k firsts) → b ≡ caller_at place (row_at k laters)
    → out ++ a ∷ [] ++ b ∷ [] ++ flat_map (pair_at place (set firsts k x) (set laters k y)) ks ≡ out ++ flat_map (pair_at place firsts laters) (k ∷ ks)
pair_taken place k firsts laters x y ks out a b e p q =
    let rest : List (List TextLine) = flat_map (pair_at place (set firsts k x) (set laters k y)) ks in
    let one = append_assoc (out ++ a ∷ []) (b ∷ []) rest in
    let two = append_assoc out (a ∷ []) (b ∷ rest) in
    let three = ap₂ (λ (c d : List TextLine). out ++ (c ∷ d ∷ rest)) p q in
    let four = ap (λ (r : List (List TextLine)). out ++ (caller_at place (row_at k firsts) ∷ caller_at place (row_at k laters) ∷ r)) (others_stay place k firsts laters x y ks e) in
    one ∙ (two ∙ (three ∙ four))

-- the next controller's lines
pub record Next (place at : ℕ) (places : List ℕ) (firsts laters firsts1 laters1 : List (List (List TextLine))) (out out2 : List (List TextLine)) : Type 0 where
  pub once : AreOnce (drop (at + 1) places)
  pub told : out2 ++ flat_map (pair_at place firsts1 laters1) (drop (at + 1) places) ≡ out ++ flat_map (pair_at place firsts laters) (drop at places)
  pub firsts_are : all_gone place firsts1 ≡ all_gone place firsts
  pub laters_are : all_gone place laters1 ≡ all_gone place laters

pub next_taken : (place at k : ℕ) (places : List ℕ) (firsts laters firsts1 laters1 : List (List (List TextLine))) (out out1 out2 : List (List TextLine)) (a b : List TextLine) → drop at places ≡ k ∷ drop (at + 1) places → AreOnce (drop at places)
    → a ≡ caller_at place (row_at k firsts) → firsts1 ≡ set firsts k (gone place (row_at k firsts)) → b ≡ caller_at place (row_at k laters) → laters1 ≡ set laters k (gone place (row_at k laters))
    → out1 ≡ out ++ a ∷ [] → out2 ≡ out1 ++ b ∷ [] → Next place at places firsts laters firsts1 laters1 out out2
next_taken place at k places firsts laters firsts1 laters1 out out1 out2 a b here once p f q l one two =
    let x : List (List TextLine) = gone place (row_at k firsts) in
    let y : List (List TextLine) = gone place (row_at k laters) in
    let rest : List ℕ = drop (at + 1) places in
    let apart : Each (λ j. j ≢ k) rest × AreOnce rest = subst AreOnce here once in
    let all : out2 ≡ out ++ a ∷ [] ++ b ∷ [] = two ∙ ap (λ (o : List (List TextLine)). o ++ b ∷ []) one in
    let pair = pair_taken place k firsts laters x y rest out a b apart.0 p q in
    let same : flat_map (pair_at place firsts1 laters1) rest ≡ flat_map (pair_at place (set firsts k x) (set laters k y)) rest = ap₂ (λ (u v : List (List (List TextLine))). flat_map (pair_at place u v) rest) f l in
    let now = ap₂ (λ (o r : List (List TextLine)). o ++ r) all same in
    let before : flat_map (pair_at place firsts laters) (k ∷ rest) ≡ flat_map (pair_at place firsts laters) (drop at places) = ap (flat_map (pair_at place firsts laters)) (sym here) in
    record {
      once = apart.1;
      told = now ∙ (pair ∙ ap (λ (r : List (List TextLine)). out ++ r) before);
      firsts_are = ap (all_gone place) f ∙ taken_one place firsts k;
      laters_are = ap (all_gone place) l ∙ taken_one place laters k;
    }

-- the row of the next worker
pub row_taken : (place : ℕ) (rows : List (List (List TextLine))) (k : ℕ) (d new : List (List TextLine)) → k < length rows → new ≡ gone place (get_or rows k d) → all_gone place (set rows k new) ≡ all_gone place rows
row_taken place rows k d new lt e = ap (λ (w : List (List TextLine)). all_gone place (set rows k w)) (e ∙ ap (gone place) (get_or_default rows k d [] lt)) ∙ taken_one place rows k

-- what a `Vec` has after all of it was lent
pub lent : {A : Type 0} (len : ℕ) (xs items : List A) → length xs ≡ len → length items ≡ len → take len (xs ++ drop (length xs) items) ≡ xs
lent len xs items e f =
    let none : drop (length xs) items ≡ [] = drop_all (length xs) items (omega (arith, e, f)) in
    ap (λ r. take len (xs ++ r)) none ∙ (ap (take len) (append-nil xs) ∙ take_all len xs (omega (arith, e)))

-- a team that was lent twice, and has no lines since it was merged
pub merged_team : (n len : ℕ) (items merged lent2 : List (List TextLine)) → merged ≡ quiet n → length items ≡ n → len ≡ n → lent2 ≡ take len (merged ++ drop (length merged) items) → lent2 ≡ quiet n
merged_team n len items merged lent2 m i l e = e ∙ (lent len merged items (ap length m ∙ (length_quiet n ∙ sym l)) (i ∙ sym l) ∙ m)

pub team_back : (n len : ℕ) (items merged new : List (List TextLine)) → merged ≡ quiet n → length items ≡ n → len ≡ n → new ≡ quiet n
    → take len (new ++ drop (length new) (take len (merged ++ drop (length merged) items))) ≡ quiet n
team_back n len items merged new m i l e =
    let mid : take len (merged ++ drop (length merged) items) ≡ quiet n = merged_team n len items merged (take len (merged ++ drop (length merged) items)) m i l refl in
    lent len new (take len (merged ++ drop (length merged) items)) (ap length e ∙ (length_quiet n ∙ sym l)) (ap length mid ∙ (length_quiet n ∙ sym l)) ∙ e

-- the rows behind those of the workers
pub behind : (workers : ℕ) (rows lines : List (List (List TextLine))) → workers ≤ 16 → length rows ≡ workers → drop 16 (rows ++ drop workers lines) ≡ drop 16 lines
behind workers rows lines few e =
    let all : List (List (List TextLine)) = rows ++ drop workers lines in
    let back : workers + (16 - workers) ≡ 16 = omega (arith, few) in
    let one : drop 16 all ≡ drop (16 - workers) (drop workers all) = ap (λ n. drop n all) (sym back) ∙ sym (drop-drop (16 - workers) workers all) in
    let two : drop workers all ≡ drop workers lines = drop_at rows (drop workers lines) workers e in
    one ∙ (ap (drop (16 - workers)) two ∙ (drop-drop (16 - workers) workers lines ∙ ap (λ n. drop n lines) back))

pub length_gone : (place : ℕ) (rows others : List (List (List TextLine))) → all_gone place rows ≡ all_gone place others → length rows ≡ length others
length_gone place rows others e = sym (length-map rows (gone place)) ∙ (ap length e ∙ length-map others (gone place))

pub front_gone : (place workers : ℕ) (rows lines : List (List (List TextLine))) → all_gone place rows ≡ all_gone place (take workers lines) → all_gone place (rows ++ drop workers lines) ≡ all_gone place lines
front_gone place workers rows lines e =
    map-append (gone place) rows (drop workers lines) ∙ (ap (λ r. r ++ all_gone place (drop workers lines)) e ∙ (sym (map-append (gone place) (take workers lines) (drop workers lines)) ∙ ap (all_gone place) (take-append-drop workers lines)))

-- a part of the rows was changed
pub part_gone : (place a k : ℕ) (rows new : List (List (List TextLine))) → all_gone place new ≡ all_gone place (take k (drop a rows)) → all_gone place (put_mid a k rows new) ≡ all_gone place rows
part_gone place a k rows new e =
    let f = all_gone place in
    let mid = take k (drop a rows) in
    let end = drop k (drop a rows) in
    let apart : (xs ys : List (List (List TextLine))) → f (xs ++ ys) ≡ f xs ++ f ys = λ xs ys. map-append _ xs ys in
    let same : f (new ++ end) ≡ f (mid ++ end) = apart new end ∙ (ap (λ r. r ++ f end) e ∙ sym (apart mid end)) in
    let whole : take a rows ++ (mid ++ end) ≡ rows = ap (λ r. take a rows ++ r) (take-append-drop k (drop a rows)) ∙ take-append-drop a rows in
    apart (take a rows) (new ++ end) ∙ (ap (λ r. f (take a rows) ++ r) same ∙ (sym (apart (take a rows) (mid ++ end)) ∙ ap f whole))
