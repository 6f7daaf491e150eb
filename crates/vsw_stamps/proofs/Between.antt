-- Each finished lookup is what its actor loaded, in this order: the stamp, the words and the count after it, and the stamp again.
use Rattle.std.proofs.Common.{◌≡◌, ℕ, Bool, true, false, ◌==◌, ◌&&◌, if◌then◌else◌, List, [], ◌∷◌, ◌++◌, refl, ap, sym, subst, eq-eqb, ne_eqb, Option, None, Some}
use mathlib.Core.Logic.{dite}
use native.Mathlib.Decide.{ℕ_discrete}
use Rattle.vsw_base.proofs.Truths.{both}
use Rattle.vsw_stamps.specs.declared.step.Load.{Load}
use Rattle.vsw_stamps.specs.declared.step.Load.TheVariants.{Stamp, Word, Count, Again}
use Rattle.vsw_stamps.specs.declared.step.Loaded.{Loaded}
use Rattle.vsw_stamps.specs.Machine.{Lookup, with_word, recorded, record_of, held, finished_by}
use Rattle.vsw_stamps.specs.declared.shown.Seen.{Seen}
use Rattle.vsw_stamps.specs.declared.shown.Record.{Record}
use Rattle.vsw_stamps.specs.Sound.{Was, WereLoaded, WasCounted, IsBetween, AllBetween, AreBetween}
use Rattle.vsw_stamps.proofs.Keeps.{is_equal}

was_later : (x : Loaded) (before log : List Loaded) (y : Loaded) → Was x before log → Was x before (y ∷ log)
was_later x before log y w = (y ∷ w.0, ap (λ (l : List Loaded). y ∷ l) w.1)

were_later : (a r s : ℕ) (ws : List (ℕ × ℕ)) (log : List Loaded) (y : Loaded) → WereLoaded a r s ws log → WereLoaded a r s ws (y ∷ log)
were_later a r s [] log y w = (w.0, w.1, was_later (record { actor = a; load = Stamp r s w.0 }) w.1 log y w.2)
were_later a r s (x ∷ ws) log y w = (w.0, was_later (record { actor = a; load = Word r x.0 x.1 }) w.0 log y w.1, w.2)

counted_later : (a r s n : ℕ) (log : List Loaded) (y : Loaded) → WasCounted a r s n log → WasCounted a r s n (y ∷ log)
counted_later a r s n log y w = (w.0, was_later (record { actor = a; load = Count n }) w.0 log y w.1, w.2)

were_after : (a r s : ℕ) (later before : List Loaded) → WereLoaded a r s [] before → WereLoaded a r s [] (later ++ before)
were_after a r s [] before w = w
were_after a r s (y ∷ later) before w = were_later a r s [] (later ++ before) y (were_after a r s later before w)

-- the stamp was loaded before the words
stamp_of : (a r s : ℕ) (ws : List (ℕ × ℕ)) (log : List Loaded) → WereLoaded a r s ws log → WereLoaded a r s [] log
stamp_of a r s [] log w = w
stamp_of a r s (x ∷ ws) log w =
    let one : Loaded = record { actor = a; load = Word r x.0 x.1 } in
    let before = were_later a r s [] w.0 one (stamp_of a r s ws w.0 w.2) in
    subst (λ (l : List Loaded). WereLoaded a r s [] l) (sym w.1.1) (were_after a r s w.1.0 (one ∷ w.0) before)

-- the count of a record was loaded after the stamp that it shows
abbrev IfCounted : ℕ → List Loaded → Option ℕ → ℕ → ℕ → Type 0
IfCounted a log None r s = Unit {0}
IfCounted a log (Some n) r s = WasCounted a r s n log

abbrev AllLoaded : ℕ → List Loaded → Option ℕ → List Seen → Type 0
AllLoaded a log count [] = Unit {0}
AllLoaded a log count (x ∷ xs) = WereLoaded a x.row x.stamp x.words log × IfCounted a log count x.row x.stamp × AllLoaded a log count xs

if_later : (a : ℕ) (log : List Loaded) (y : Loaded) (count : Option ℕ) (r s : ℕ) → IfCounted a log count r s → IfCounted a (y ∷ log) count r s
if_later a log y None r s t = tt
if_later a log y (Some n) r s t = counted_later a r s n log y t

all_later : (a : ℕ) (log : List Loaded) (y : Loaded) (count : Option ℕ) (xs : List Seen) → AllLoaded a log count xs → AllLoaded a (y ∷ log) count xs
all_later a log y count [] t = tt
all_later a log y count (x ∷ xs) t = (were_later a x.row x.stamp x.words log y t.0, if_later a log y count x.row x.stamp t.1, all_later a log y count xs t.2)

all_open : (a : ℕ) (log : List Loaded) (count : Option ℕ) (xs : List Seen) → AllLoaded a log count xs → AllLoaded a log None xs
all_open a log count [] t = tt
all_open a log count (x ∷ xs) t = (t.0, tt, all_open a log count xs t.2)

if_afresh : (a : ℕ) (log : List Loaded) (afresh : Bool) (xs : List Seen) → AllLoaded a log None xs → AllLoaded a log None (if afresh then [] else xs)
if_afresh a log true xs t = tt
if_afresh a log false xs t = t

all_word : (a : ℕ) (log : List Loaded) (r k value : ℕ) (count : Option ℕ) (xs : List Seen) → AllLoaded a log count xs → AllLoaded a (record { actor = a; load = Word r k value } ∷ log) count (with_word r k value xs)
all_word a log r k value count [] t = tt
all_word a log r k value count (x ∷ xs) t =
    let y : Loaded = record { actor = a; load = Word r k value } in
    dite (ℕ_discrete x.row r)
    (λ e. rw (eq-eqb x.row r e) (
      (log, subst (λ (q : ℕ). Was (record { actor = a; load = Word q k value }) log (y ∷ log)) (sym e) ([], refl), t.0),
      if_later a log y count x.row x.stamp t.1,
      all_later a log y count xs t.2,
    ))
    (λ ne. rw (ne_eqb x.row r ne) (were_later a x.row x.stamp x.words log y t.0, if_later a log y count x.row x.stamp t.1, all_word a log r k value count xs t.2))

all_count : (a : ℕ) (log : List Loaded) (n : ℕ) (count : Option ℕ) (xs : List Seen) → AllLoaded a log count xs → AllLoaded a (record { actor = a; load = Count n } ∷ log) (Some n) xs
all_count a log n count [] t = tt
all_count a log n count (x ∷ xs) t =
    let y : Loaded = record { actor = a; load = Count n } in
    (were_later a x.row x.stamp x.words log y t.0, (log, ([], refl), stamp_of a x.row x.stamp x.words log t.0), all_count a log n count xs t.2)

abbrev IsLoaded : ℕ → List Loaded → Record → Type 0
IsLoaded a log x = AllLoaded a log x.count x.rows

one_more : (a : ℕ) (log : List Loaded) (load : Load) (x : Record) → IsLoaded a log x → IsLoaded a (record { actor = a; load = load } ∷ log) (recorded load x)
one_more a log (Stamp r s afresh) x t =
    let y : Loaded = record { actor = a; load = Stamp r s afresh } in
    ((afresh, log, ([], refl)), tt, if_afresh a (y ∷ log) afresh x.rows (all_later a log y None x.rows (all_open a log x.count x.rows t)))
one_more a log (Word r k value) x t = all_word a log r k value x.count x.rows t
one_more a log (Count n) x t = all_count a log n x.count x.rows t
one_more a log (Again r s) x t = all_later a log (record { actor = a; load = Again r s }) x.count x.rows t

-- a record shows what its actor loaded
shows : (a : ℕ) (log : List Loaded) → IsLoaded a log (record_of a log)
shows a [] = tt
shows a (x ∷ xs) = dite (ℕ_discrete x.actor a)
    (λ e. rw (eq-eqb x.actor a e) (subst (λ (b : ℕ). IsLoaded a (record { actor = b; load = x.load } ∷ xs) (recorded x.load (record_of a xs))) (sym e) (one_more a xs x.load (record_of a xs) (shows a xs))))
    (λ ne. rw (ne_eqb x.actor a ne) (all_later a xs x (record_of a xs).count (record_of a xs).rows (shows a xs)))

all_if : (a : ℕ) (log : List Loaded) (b : Bool) (l : Lookup) (ls : List Lookup) → (b ≡ true → IsBetween a log l) → AllBetween a log ls → AllBetween a log (if b then l ∷ ls else ls)
all_if a log true l ls one ih = (one refl, ih)
all_if a log false l ls one ih = ih

held_between : (a : ℕ) (log : List Loaded) (r s n : ℕ) (xs : List Seen) → AllLoaded a log (Some n) xs → AllBetween a log (held r s n xs)
held_between a log r s n [] t = tt
held_between a log r s n (x ∷ xs) t = all_if a log ((x.row == r) && (x.stamp == s)) (record { row = r; stamp = s; count = n; words = x.words }) (held r s n xs)
    (λ is.
    let parts = both (x.row == r) (x.stamp == s) is in
    subst (λ (q : ℕ). IsBetween a log (record { row = q; stamp = s; count = n; words = x.words })) (is_equal x.row r parts.0)
    (subst (λ (p : ℕ). IsBetween a log (record { row = x.row; stamp = p; count = n; words = x.words })) (is_equal x.stamp s parts.1) (t.0, t.1)))
    (held_between a log r s n xs t.2)

if_zero : (a : ℕ) (log : List Loaded) (b : Bool) (ls : List Lookup) → AllBetween a log ls → AllBetween a log (if b then [] else ls)
if_zero a log true ls t = tt
if_zero a log false ls t = t

by_between : (a : ℕ) (log : List Loaded) (load : Load) (count : Option ℕ) (xs : List Seen) → AllLoaded a log count xs → AllBetween a log (finished_by load count xs)
by_between a log (Stamp r s afresh) count xs t = tt
by_between a log (Word r k value) count xs t = tt
by_between a log (Count n) count xs t = tt
by_between a log (Again r s) None xs t = tt
by_between a log (Again r s) (Some n) xs t = if_zero a log (s == 0) (held r s n xs) (held_between a log r s n xs t)

-- whatever was loaded
pub all_between : (log : List Loaded) → AreBetween log
all_between [] = tt
all_between (x ∷ xs) = (by_between x.actor xs x.load (record_of x.actor xs).count (record_of x.actor xs).rows (shows x.actor xs), all_between xs)
