-- Lines that are gone at a port, and those that stay at the others.
use Rattle.std.proofs.Common.{◌≡◌, ◌≢◌, ◌<◌, ◌+◌, ℕ, zero, suc, List, [], ◌∷◌, ◌++◌, drop, get_or, length, map, set, take, refl, ap, ap₂, sym, ◌∙◌, arith, set-set, get_or-set_other, get_or-drop}
use Rattle.std.specs.List.{flat_map}
use Rattle.vsw_report.specs.Line.{TextLine}
use Rattle.vsw_report.specs.Order.{emptied}
use Rattle.vsw_policy.specs.Layers.{place_of}
use Rattle.vsw_policy.specs.Sound.{Each}
use Rattle.vsw_crew.specs.Texts.{all_emptied, caller_at, controller_lines, row_at, texts_at}
use Rattle.vsw_crew.specs.Private.Port.{all_gone, gone, lines_at, pair_at, quiet}
use Rattle.vsw_crew.specs.Private.Ports.{gone_to}

-- a row whose lines are taken, among others
pub taken_one : (place : ℕ) (rows : List (List (List TextLine))) (k : ℕ) → all_gone place (set rows k (gone place (row_at k rows))) ≡ all_gone place rows
taken_one place [] k = refl
taken_one place (row ∷ rows) zero = ap (λ r. r ∷ all_gone place rows) (set-set row place [] [])
taken_one place (row ∷ rows) (suc k) = ap (λ rs. gone place row ∷ rs) (taken_one place rows k)

-- the other callers keep theirs
pub others_stay : (place k : ℕ) (firsts laters : List (List (List TextLine))) (x y : List (List TextLine)) (ks : List ℕ) → Each (λ j. j ≢ k) ks
    → flat_map (pair_at place (set firsts k x) (set laters k y)) ks ≡ flat_map (pair_at place firsts laters) ks
others_stay place k firsts laters x y [] e = refl
others_stay place k firsts laters x y (j ∷ ks) e =
    ap₂ (λ (a b : List TextLine). a ∷ b ∷ flat_map (pair_at place (set firsts k x) (set laters k y)) ks) (ap (caller_at place) (get_or-set_other firsts k j x [] e.0)) (ap (caller_at place) (get_or-set_other laters k j y [] e.0))
    ∙ ap (λ (ts : List (List TextLine)). caller_at place (row_at j firsts) ∷ caller_at place (row_at j laters) ∷ ts) (others_stay place k firsts laters x y ks e.1)

-- merged callers have no lines
pub emptied_quiet : {A : Type 0} (f : A → List TextLine) (xs : List A) (n : ℕ) → length xs ≡ n → emptied (map f xs) ≡ quiet n
emptied_quiet f [] zero e = refl
emptied_quiet f [] (suc n) e = absurd (omega (arith, e))
emptied_quiet f (x ∷ xs) zero e = absurd (omega (arith, e))
emptied_quiet f (x ∷ xs) (suc n) e = ap (λ (ts : List (List TextLine)). [] ∷ ts) (emptied_quiet f xs n (omega (arith, e)))

pub quiet_at : (n k : ℕ) (d : List TextLine) → k < n → get_or (quiet n) k d ≡ []
quiet_at zero k d lt = absurd (omega (arith, lt))
quiet_at (suc n) zero d lt = refl
quiet_at (suc n) (suc k) d lt = quiet_at n k d (omega (arith, lt))

pub quiet_set : (n k : ℕ) → set (quiet n) k [] ≡ quiet n
quiet_set zero k = refl
quiet_set (suc n) zero = refl
quiet_set (suc n) (suc k) = ap (λ (ts : List (List TextLine)). [] ∷ ts) (quiet_set n k)

pub length_quiet : (n : ℕ) → length (quiet n) ≡ n
length_quiet zero = refl
length_quiet (suc n) = ap suc (length_quiet n)

pub quiet_more : (n : ℕ) → quiet n ++ [] ∷ [] ≡ quiet (suc n)
quiet_more zero = refl
quiet_more (suc n) = ap (λ (ts : List (List TextLine)). [] ∷ ts) (quiet_more n)

pub quiet_next : (n m : ℕ) (team new : List (List TextLine)) (x : List TextLine) → m ≡ suc n → team ≡ quiet n → x ≡ [] → new ≡ team ++ x ∷ [] → new ≡ quiet m
quiet_next n m team new x e q none is = is ∙ (ap₂ (λ (ts : List (List TextLine)) (t : List TextLine). ts ++ t ∷ []) q none ∙ (quiet_more n ∙ ap quiet (sym e)))

pub quiet_own : (n : ℕ) (team : List (List TextLine)) → team ≡ quiet n → team ≡ quiet (length team)
quiet_own n team e = e ∙ ap quiet (sym (ap length e ∙ length_quiet n))

pub room_none : (team : List (List TextLine)) (k : ℕ) (x d : List TextLine) → team ≡ quiet (length team) → k < length team → x ≡ get_or team k d → x ≡ []
room_none team k x d q lt is = is ∙ (ap (λ (ts : List (List TextLine)). get_or ts k d) q ∙ quiet_at (length team) k d lt)

pub room_same : (team : List (List TextLine)) (k : ℕ) (x : List TextLine) → team ≡ quiet (length team) → x ≡ [] → set team k x ≡ team
room_same team k x q e = ap₂ (λ (ts : List (List TextLine)) (y : List TextLine). set ts k y) q e ∙ (quiet_set (length team) k ∙ sym q)

-- ---- port by port

none_gone : (n : ℕ) → gone_to n [] ≡ []
none_gone zero = refl
none_gone (suc n) = refl

row_gone : (n : ℕ) (row : List (List TextLine)) → gone n (gone_to n row) ≡ gone_to (suc n) row
row_gone zero [] = refl
row_gone zero (x ∷ row) = refl
row_gone (suc n) [] = refl
row_gone (suc n) (x ∷ row) = ap (λ (r : List (List TextLine)). [] ∷ r) (row_gone n row)

next_gone : (n : ℕ) (rows : List (List (List TextLine))) → all_gone n (map (gone_to n) rows) ≡ map (gone_to (suc n)) rows
next_gone n [] = refl
next_gone n (row ∷ rows) = ap₂ (λ r rs. r ∷ rs) (row_gone n row) (next_gone n rows)

pub gone_next : (n m : ℕ) (rows now new : List (List (List TextLine))) → m ≡ suc n → now ≡ map (gone_to n) rows → new ≡ all_gone n now → new ≡ map (gone_to m) rows
gone_next n m rows now new e is f = f ∙ (ap (all_gone n) is ∙ (next_gone n rows ∙ ap (λ k. map (gone_to k) rows) (sym e)))

pub none_yet : (rows : List (List (List TextLine))) → map (gone_to 0) rows ≡ rows
none_yet [] = refl
none_yet (row ∷ rows) = ap (λ rs. row ∷ rs) (none_yet rows)

caller_there : (n : ℕ) (row : List (List TextLine)) → caller_at n (gone_to n row) ≡ caller_at n row
caller_there zero row = refl
caller_there (suc n) [] = refl
caller_there (suc n) (x ∷ row) = caller_there n row

row_there : (n k : ℕ) (rows : List (List (List TextLine))) → row_at k (map (gone_to n) rows) ≡ gone_to n (row_at k rows)
row_there n k [] = sym (none_gone n)
row_there n zero (row ∷ rows) = refl
row_there n (suc k) (row ∷ rows) = row_there n k rows

there : (n k : ℕ) (rows : List (List (List TextLine))) → caller_at n (row_at k (map (gone_to n) rows)) ≡ caller_at n (row_at k rows)
there n k rows = ap (caller_at n) (row_there n k rows) ∙ caller_there n (row_at k rows)

team_there : (n workers : ℕ) (rows : List (List (List TextLine))) → map (caller_at n) (take workers (map (gone_to n) rows)) ≡ map (caller_at n) (take workers rows)
team_there n zero rows = refl
team_there n (suc workers) [] = refl
team_there n (suc workers) (row ∷ rows) = ap₂ (λ t ts. t ∷ ts) (caller_there n row) (team_there n workers rows)

later_there : (n k : ℕ) (rows : List (List (List TextLine))) → caller_at n (row_at k (drop 16 (map (gone_to n) rows))) ≡ caller_at n (row_at k (drop 16 rows))
later_there n k rows = ap (caller_at n) (get_or-drop 16 (map (gone_to n) rows) k []) ∙ (there n (16 + k) rows ∙ sym (ap (caller_at n) (get_or-drop 16 rows k [])))

pairs_there : (n : ℕ) (lines firsts : List (List (List TextLine))) (ks : List ℕ) → flat_map (pair_at n (map (gone_to n) firsts) (drop 16 (map (gone_to n) lines))) ks ≡ flat_map (pair_at n firsts (drop 16 lines)) ks
pairs_there n lines firsts [] = refl
pairs_there n lines firsts (k ∷ ks) =
    ap₂ (λ (a b : List TextLine). a ∷ b ∷ flat_map (pair_at n (map (gone_to n) firsts) (drop 16 (map (gone_to n) lines))) ks) (there n k firsts) (later_there n k lines)
    ∙ ap (λ (ts : List (List TextLine)). caller_at n (row_at k firsts) ∷ caller_at n (row_at k (drop 16 lines)) ∷ ts) (pairs_there n lines firsts ks)

-- what is gone at the ports before a place is of no matter there
pub lines_there : (workers : ℕ) (ks : List ℕ) (lines firsts : List (List (List TextLine))) (n : ℕ) → lines_at workers ks (map (gone_to n) lines) (map (gone_to n) firsts) n ≡ lines_at workers ks lines firsts n
lines_there workers ks lines firsts n = ap₂ (λ (a b : List (List TextLine)). a ++ b) (team_there n workers lines) (pairs_there n lines firsts ks)

-- ---- all ports

all_of_row : (n : ℕ) (row : List (List TextLine)) → length row ≡ n → gone_to n row ≡ emptied row
all_of_row zero [] e = refl
all_of_row zero (x ∷ row) e = absurd (omega (arith, e))
all_of_row (suc n) [] e = refl
all_of_row (suc n) (x ∷ row) e = ap (λ (r : List (List TextLine)). [] ∷ r) (all_of_row n row (omega (arith, e)))

pub gone_all : (n : ℕ) (rows : List (List (List TextLine))) → Each (λ row. length row ≡ n) rows → map (gone_to n) rows ≡ all_emptied rows
gone_all n [] e = refl
gone_all n (row ∷ rows) e = ap₂ (λ r rs. r ∷ rs) (all_of_row n row e.0) (gone_all n rows e.1)

-- ---- the places of the listed controllers

listed_pairs : (cs : List ℕ) (lines firsts : List (List (List TextLine))) (place : ℕ) (listed : List ℕ)
    → flat_map (pair_at place firsts (drop 16 lines)) (map (λ m. place_of m cs) listed) ≡ flat_map (controller_lines cs lines firsts place) listed
listed_pairs cs lines firsts place [] = refl
listed_pairs cs lines firsts place (m ∷ listed) =
    ap₂ (λ (b : List TextLine) (ts : List (List TextLine)). caller_at place (row_at (place_of m cs) firsts) ∷ b ∷ ts) (ap (caller_at place) (get_or-drop 16 lines (place_of m cs) [])) (listed_pairs cs lines firsts place listed)

pub texts_are : (workers : ℕ) (cs listed : List ℕ) (lines firsts : List (List (List TextLine))) (place : ℕ) → lines_at workers (map (λ m. place_of m cs) listed) lines firsts place ≡ texts_at workers cs listed lines firsts place
texts_are workers cs listed lines firsts place = ap (λ (ts : List (List TextLine)). map (caller_at place) (take workers lines) ++ ts) (listed_pairs cs lines firsts place listed)
