-- A command leaves the rows that it spares.
use Rattle.std.proofs.Common.{◌≡◌, ℕ, suc, ◌&&◌, ◌||◌, Bool, true, false, not, List, [], ◌∷◌, length, map, Option, Some, None, Result, Ok, Err, refl, sym, ap, subst, ◌∙◌, true≢false}
use Rattle.std.specs.Prelude.{if◌then◌else◌, is_ok}
use Rattle.std.specs.List.{list_all, list_any, slice_get}
use Rattle.vsw_base.proofs.Truths.{both}
use Rattle.vsw_base.specs.Shape.{is_stack}
use Rattle.vsw_policy.specs.declared.command.Command.{Command}
use Rattle.vsw_policy.specs.declared.command.Command.TheVariants.{AddLayer, RemoveLayer, AddGroup, RemoveGroup, PutRules, PutMany, AddRule, RemoveRule, SetDefault, Sweep}
use Rattle.vsw_policy.specs.declared.command.Part.{Part}
use Rattle.vsw_policy.specs.declared.refusal.Refusal.{Refusal}
use Rattle.vsw_policy.specs.Groups.{changed}
use Rattle.vsw_policy.specs.Layer.{LayerSeen}
use Rattle.vsw_policy.specs.Obey.{after, answered, first_refusal, has_part_twice, put_part, put_parts, same_part, tests, within}
use Rattle.vsw_policy.specs.Sound.{Each}
use Rattle.vsw_rows.specs.Good.{IsGoodLeaning, LeaningRow}
use Rattle.vsw_walk.specs.declared.scratch.Looked.{Looked}
use Rattle.vsw_spares.proofs.Layers.{within_same}
use Rattle.vsw_spares.proofs.Parts.{part_left}
use Rattle.vsw_spares.proofs.Places.{at_changed}
use Rattle.vsw_spares.proofs.Walks.{same_told}
use Rattle.vsw_spares.specs.Law.{CommandSpares}
use Rattle.vsw_spares.specs.Spared.{as_put, is_within, leaves, leaves_in, names, spares, spares_one}
use Rattle.vsw_spares.specs.Told.{OrNone, ToldSame}

-- a command that is obeyed isn't refused, and leaves the layers of `after`
unrefused : (o : Option Refusal) (ls now : List LayerSeen) → answered o ls ≡ Ok now → o ≡ None
unrefused None ls now e = refl
unrefused (Some why) ls now e = absurd (true≢false (sym (ap (λ (r : Result (List LayerSeen) Refusal). is_ok r) e)))

obeyed : (o : Option Refusal) (ls now : List LayerSeen) → answered o ls ≡ Ok now → ls ≡ now
obeyed None ls now e = ap (λ (r : Result (List LayerSeen) Refusal). elim r [ Ok x ↦ x | Err v ↦ ls ]) e
obeyed (Some why) ls now e = absurd (true≢false (sym (ap (λ (r : Result (List LayerSeen) Refusal). is_ok r) e)))

-- none of the tests applies
none_applies : (ts : List (Bool × Refusal)) → first_refusal ts ≡ None → Each (λ t. t.0 ≡ false) ts
none_applies [] e = tt
none_applies (t ∷ ts) e = by t.0 refl e (none_applies ts)
  where
    by : (b : Bool) → t.0 ≡ b → (if b then Some t.1 else first_refusal ts) ≡ None → (first_refusal ts ≡ None → Each (λ u. u.0 ≡ false) ts) → Each (λ u. u.0 ≡ false) (t ∷ ts)
    by true i f rest = absurd (true≢false (ap (λ (o : Option Refusal). elim o [ None ↦ false | Some z ↦ true ]) f))
    by false i f rest = (i, rest f)

-- one that changes the layer that it names
keeps : (cs : List ℕ) (ls : List LayerSeen) (c : ℕ) (m : Command) → is_within m ≡ true → after cs ls c m ≡ changed (names c m) (within m) ls
keeps cs ls c (AddLayer s) h = absurd (true≢false (sym h))
keeps cs ls c (RemoveLayer n) h = absurd (true≢false (sym h))
keeps cs ls c (AddGroup n g dir when) h = refl
keeps cs ls c (RemoveGroup n g) h = refl
keeps cs ls c (PutRules n g rs) h = refl
keeps cs ls c (PutMany ps) h = absurd (true≢false (sym h))
keeps cs ls c (AddRule n g r) h = refl
keeps cs ls c (RemoveRule n g k) h = refl
keeps cs ls c (SetDefault n dir allow) h = refl
keeps cs ls c (Sweep n now) h = refl

length_changed : (p : LayerSeen → Bool) (f : LayerSeen → LayerSeen) (ls : List LayerSeen) → length (changed p f ls) ≡ length ls
length_changed p f [] = refl
length_changed p f (l ∷ ls) =
    let ih = length_changed p f ls in
    elim (p l) as (λ b. length (if b then f l ∷ ls else l ∷ changed p f ls) ≡ suc (length ls)) [ true ↦ refl | false ↦ ap suc ih ]

itself : (q : Looked) (o : Option LayerSeen) → OrNone q o o
itself q None = tt
itself q (Some l) = record { found = refl; due = refl; goes = λ hs s k. refl }

test : (a b : Bool) → (not a || b) ≡ true → a ≡ true → b ≡ true
test true b h e = h
test false b h e = absurd (true≢false (sym e))

look_told : (ls : List LayerSeen) (c : ℕ) (m : Command) (q : Looked) → leaves_in c m (slice_get ls q.layer) q ≡ true → ToldSame ls (changed (names c m) (within m) ls) q
look_told ls c m q h =
    at_changed (names c m) (within m) (OrNone q (slice_get ls q.layer)) ls q.layer (itself q (slice_get ls q.layer))
    (λ l e i. subst (λ o. OrNone q o (Some (within m l))) (sym e) (within_same m l q (test (names c m l) (leaves m l q) (sym (ap (λ o. leaves_in c m o q) e) ∙ h) i)))

looks_told : (ls : List LayerSeen) (c : ℕ) (m : Command) (qs : List Looked) → list_all (λ q. leaves_in c m (slice_get ls q.layer) q) qs ≡ true → Each (ToldSame ls (changed (names c m) (within m) ls)) qs
looks_told ls c m [] h = tt
looks_told ls c m (q ∷ qs) h =
    let t = both (leaves_in c m (slice_get ls q.layer) q) (list_all (λ q. leaves_in c m (slice_get ls q.layer) q) qs) h in
    (look_told ls c m q t.0, looks_told ls c m qs t.1)

-- the layer that it names is changed, and the row stays good
one_spares : (ls : List LayerSeen) (c : ℕ) (m : Command) (k : LeaningRow) → is_stack k.row.id.stack ≡ true → spares_one ls c m k.looks ≡ true → IsGoodLeaning ls k → IsGoodLeaning (changed (names c m) (within m) ls) k
one_spares ls c m k s h g =
    let t = both (is_within m) (list_all (λ q. leaves_in c m (slice_get ls q.layer) q) k.looks) h in
    same_told ls (changed (names c m) (within m) ls) k s (length_changed (names c m) (within m) ls) (looks_told ls c m k.looks t.1) g

within_spares : (cs : List ℕ) (ls : List LayerSeen) (c : ℕ) (m : Command) (k : LeaningRow) → is_stack k.row.id.stack ≡ true → (spares_one ls c m k.looks && true) ≡ true → IsGoodLeaning ls k → IsGoodLeaning (after cs ls c m) k
within_spares cs ls c m k s h g =
    let t = both (spares_one ls c m k.looks) true h in
    let u = both (is_within m) (list_all (λ q. leaves_in c m (slice_get ls q.layer) q) k.looks) t.0 in
    subst (λ ms. IsGoodLeaning ms k) (sym (keeps cs ls c m u.0)) (one_spares ls c m k s t.0 g)

-- ---- several groups

neither : (a b : Bool) → (a || b) ≡ false → (a ≡ false) × (b ≡ false)
neither true b h = absurd (true≢false h)
neither false b h = (refl, h)

joins : (a b : Bool) → a ≡ true → b ≡ true → (a && b) ≡ true
joins true b e f = f
joins false b e f = e

-- what another part leaves, it leaves still once this one was put
looks_left : (ls : List LayerSeen) (c : ℕ) (p o : Part) (qs : List Looked) → same_part p o ≡ false → list_all (λ q. leaves_in c (as_put p) (slice_get ls q.layer) q) qs ≡ true
    → list_all (λ q. leaves_in c (as_put o) (slice_get ls q.layer) q) qs ≡ true → list_all (λ q. leaves_in c (as_put o) (slice_get (put_part c p ls) q.layer) q) qs ≡ true
looks_left ls c p o [] n h i = refl
looks_left ls c p o (q ∷ qs) n h i =
    let t = both (leaves_in c (as_put p) (slice_get ls q.layer) q) (list_all (λ q. leaves_in c (as_put p) (slice_get ls q.layer) q) qs) h in
    let u = both (leaves_in c (as_put o) (slice_get ls q.layer) q) (list_all (λ q. leaves_in c (as_put o) (slice_get ls q.layer) q) qs) i in
    joins (leaves_in c (as_put o) (slice_get (put_part c p ls) q.layer) q) (list_all (λ q. leaves_in c (as_put o) (slice_get (put_part c p ls) q.layer) q) qs)
    (part_left ls c p o q n t.0 u.0) (looks_left ls c p o qs n t.1 u.1)

parts_left : (ls : List LayerSeen) (c : ℕ) (p : Part) (ps : List Part) (qs : List Looked) → list_any (same_part p) ps ≡ false → spares_one ls c (as_put p) qs ≡ true
    → list_all (λ m. spares_one ls c m qs) (map as_put ps) ≡ true → list_all (λ m. spares_one (put_part c p ls) c m qs) (map as_put ps) ≡ true
parts_left ls c p [] qs n h i = refl
parts_left ls c p (o ∷ os) qs n h i =
    let a = neither (same_part p o) (list_any (same_part p) os) n in
    let t = both (spares_one ls c (as_put o) qs) (list_all (λ m. spares_one ls c m qs) (map as_put os)) i in
    joins (spares_one (put_part c p ls) c (as_put o) qs) (list_all (λ m. spares_one (put_part c p ls) c m qs) (map as_put os)) (looks_left ls c p o qs a.0 h t.0) (parts_left ls c p os qs a.1 h t.1)

many_spares : (c : ℕ) (ps : List Part) (ls : List LayerSeen) (k : LeaningRow) → has_part_twice ps ≡ false → is_stack k.row.id.stack ≡ true → list_all (λ m. spares_one ls c m k.looks) (map as_put ps) ≡ true → IsGoodLeaning ls k → IsGoodLeaning (put_parts c ps ls) k
many_spares c [] ls k n s h g = g
many_spares c (p ∷ ps) ls k n s h g =
    let a = neither (list_any (same_part p) ps) (has_part_twice ps) n in
    let t = both (spares_one ls c (as_put p) k.looks) (list_all (λ m. spares_one ls c m k.looks) (map as_put ps)) h in
    many_spares c ps (put_part c p ls) k a.1 s (parts_left ls c p ps k.looks a.0 t.0 t.1) (one_spares ls c (as_put p) k s t.0 g)

-- ---- all commands

after_spares : (cs : List ℕ) (ls : List LayerSeen) (c : ℕ) (m : Command) (k : LeaningRow) → first_refusal (tests ls c m) ≡ None → is_stack k.row.id.stack ≡ true → spares ls c m k.looks ≡ true → IsGoodLeaning ls k → IsGoodLeaning (after cs ls c m) k
after_spares cs ls c (AddLayer l) k n s h g = within_spares cs ls c (AddLayer l) k s h g
after_spares cs ls c (RemoveLayer o) k n s h g = within_spares cs ls c (RemoveLayer o) k s h g
after_spares cs ls c (AddGroup o b dir when) k n s h g = within_spares cs ls c (AddGroup o b dir when) k s h g
after_spares cs ls c (RemoveGroup o b) k n s h g = within_spares cs ls c (RemoveGroup o b) k s h g
after_spares cs ls c (PutRules o b rs) k n s h g = within_spares cs ls c (PutRules o b rs) k s h g
after_spares cs ls c (PutMany ps) k n s h g = many_spares c ps ls k (none_applies (tests ls c (PutMany ps)) n).1.1.1.1.1.0 s h g
after_spares cs ls c (AddRule o b r) k n s h g = within_spares cs ls c (AddRule o b r) k s h g
after_spares cs ls c (RemoveRule o b r) k n s h g = within_spares cs ls c (RemoveRule o b r) k s h g
after_spares cs ls c (SetDefault o dir allow) k n s h g = within_spares cs ls c (SetDefault o dir allow) k s h g
after_spares cs ls c (Sweep o now) k n s h g = within_spares cs ls c (Sweep o now) k s h g

pub command_spares : CommandSpares
command_spares cs ls now c m k e s h g =
    subst (λ ms. IsGoodLeaning ms k) (obeyed (first_refusal (tests ls c m)) (after cs ls c m) now e)
    (after_spares cs ls c m k (unrefused (first_refusal (tests ls c m)) (after cs ls c m) now e) s h g)
