-- What a search finds among the places at which a row may stand.
use Rattle.std.proofs.Common.{◌≡◌, ◌⊎◌, ◌≤◌, ◌<◌, ◌+◌, ◌%◌, ℕ, List, get_or, take, inl, inr, refl, sym, ap, subst, ◌∙◌, arith}
use Rattle.std.proofs.lemmas.List.{get_or-take}
use native.Mathlib.Decide.{ℕ_discrete}
use mathlib.Core.Logic.{dite}
use Rattle.vsw_rows.specs.Rows.{IsProbed}
use Rattle.vsw_table.specs.Rules.{stamp_at}
use Rattle.vsw_words.specs.Slot.{slot}
use Rattle.vsw_flows.specs.declared.places.Found.TheVariants as free
use Rattle.vsw_flows.specs.declared.places.Sought.{Sought}
use Rattle.vsw_flows.specs.declared.places.Sought.TheVariants.{Own, Unused, Used}
use Rattle.vsw_flows.specs.Finding.{Adds, Hit, Other, First, Later, HasKey, IsFound, IsSought}
use Rattle.vsw_flows.specs.Flows.{IsCurrent, Writing}

-- the place is one of the first n
pub record IsProbedTo (n rows : ℕ) (key : List ℕ) (place : ℕ) : Type 0 where
  pub step : ℕ
  pub few : step < n
  pub is : place ≡ (slot key rows + step) % rows

abbrev pub NoneTo : ℕ → ℕ → List ℕ → Writing → Type 0
NoneTo n rows key v = (place : ℕ) → IsProbedTo n rows key place → IsCurrent v place → HasKey v key place → ⊥

-- what stands at the first n places
abbrev pub IsSoughtTo : ℕ → ℕ → List ℕ → Writing → Sought → Type 0
IsSoughtTo n rows key v (Own place) = IsProbedTo n rows key place × IsCurrent v place × HasKey v key place
IsSoughtTo n rows key v (Unused place) = IsProbedTo n rows key place × (stamp_at v.view.stamps place ≡ 0) × NoneTo n rows key v
IsSoughtTo n rows key v Used = ((place : ℕ) → IsProbedTo n rows key place → IsCurrent v place) × NoneTo n rows key v

pub none_yet : (rows : ℕ) (key : List ℕ) (v : Writing) → IsSoughtTo 0 rows key v Used
none_yet rows key v = (λ place p. absurd (omega (arith, p.few)), λ place p c h. absurd (omega (arith, p.few)))

further : (n rows : ℕ) (key : List ℕ) (place : ℕ) → IsProbedTo n rows key place → IsProbedTo (n + 1) rows key place
further n rows key place p = record { step = p.step; few = omega (arith, p.few); is = p.is }

-- one of the first n + 1 is the last of them, or one of the first n
parted : (n rows : ℕ) (key : List ℕ) (at place : ℕ) → at ≡ (slot key rows + n) % rows → IsProbedTo (n + 1) rows key place → (place ≡ at) ⊎ IsProbedTo n rows key place
parted n rows key at place is p = dite (ℕ_discrete p.step n)
    (λ e. inl (p.is ∙ (ap (λ m. (slot key rows + m) % rows) e ∙ sym is)))
    (λ ne. inr (record { step = p.step; few = grind (arith, p.few, ne); is = p.is }))

none_more : (n rows : ℕ) (key : List ℕ) (v : Writing) (at : ℕ) → at ≡ (slot key rows + n) % rows → NoneTo n rows key v → (IsCurrent v at → HasKey v key at → ⊥) → NoneTo (n + 1) rows key v
none_more n rows key v at is none here place p c h = by (parted n rows key at place is p)
  where
    by : (place ≡ at) ⊎ IsProbedTo n rows key place → ⊥
    by (inl e) = here (subst (IsCurrent v) e c) (subst (HasKey v key) e h)
    by (inr q) = none place q c h

-- what was found stays so over a place that adds nothing
kept_on : (n rows : ℕ) (key : List ℕ) (v : Writing) (at : ℕ) (before : Sought) → at ≡ (slot key rows + n) % rows → IsSoughtTo n rows key v before → (before ≡ Used → IsCurrent v at) → (IsCurrent v at → HasKey v key at → ⊥) → IsSoughtTo (n + 1) rows key v before
kept_on n rows key v at (Own place) is f full here = (further n rows key place f.0, f.1, f.2)
kept_on n rows key v at (Unused place) is f full here = (further n rows key place f.0, f.1, none_more n rows key v at is f.2 here)
kept_on n rows key v at Used is f full here = (all, none_more n rows key v at is f.1 here)
  where
    by : (place : ℕ) → (place ≡ at) ⊎ IsProbedTo n rows key place → IsCurrent v place
    by place (inl e) = subst (IsCurrent v) (sym e) (full refl)
    by place (inr q) = f.0 place q

    all : (place : ℕ) → IsProbedTo (n + 1) rows key place → IsCurrent v place
    all place p = by place (parted n rows key at place is p)

old_isn't : (v : Writing) (place : ℕ) → stamp_at v.view.stamps place ≡ 0 → IsCurrent v place → ⊥
old_isn't v place old is = is old

pub added : (n rows : ℕ) (key : List ℕ) (v : Writing) (at : ℕ) (before after : Sought) → at ≡ (slot key rows + n) % rows → IsSoughtTo n rows key v before → Adds v key at before after → IsSoughtTo (n + 1) rows key v after
added n rows key v at before after is f (Hit current has e) = subst (IsSoughtTo (n + 1) rows key v) (sym e) (record { step = n; few = omega arith; is = is }, current, has)
added n rows key v at before after is f (Other current other e) = subst (IsSoughtTo (n + 1) rows key v) (sym e) (kept_on n rows key v at before is f (λ q. current) (λ q. other))
added n rows key v at before after is f (First old full e) =
    let g : IsSoughtTo n rows key v Used = subst (IsSoughtTo n rows key v) full f in
    subst (IsSoughtTo (n + 1) rows key v) (sym e) (record { step = n; few = omega arith; is = is }, old, none_more n rows key v at is g.1 (λ c h. old_isn't v at old c))
added n rows key v at before after is f (Later old full e) = subst (IsSoughtTo (n + 1) rows key v) (sym e) (kept_on n rows key v at before is f (λ q. absurd (full q)) (λ c h. old_isn't v at old c))

-- eight places are all
probed : (n rows : ℕ) (key : List ℕ) (place : ℕ) → n ≤ 8 → IsProbedTo n rows key place → IsProbed rows key place
probed n rows key place le p = record { step = p.step; few = omega (arith, p.few, le); is = p.is }

one_of : (rows : ℕ) (key : List ℕ) (place : ℕ) → IsProbed rows key place → IsProbedTo 8 rows key place
one_of rows key place p = record { step = p.step; few = p.few; is = p.is }

pub found_own : (n rows : ℕ) (key : List ℕ) (v : Writing) (after : Sought) (place : ℕ) → n ≤ 8 → after ≡ Own place → IsSoughtTo n rows key v after → IsSought rows key v after
found_own n rows key v after place le e f =
    let g : IsSoughtTo n rows key v (Own place) = subst (IsSoughtTo n rows key v) e f in
    subst (IsSought rows key v) (sym e) (probed n rows key place le g.0, g.1, g.2)

pub found_all : (rows : ℕ) (key : List ℕ) (v : Writing) (after : Sought) → IsSoughtTo 8 rows key v after → IsSought rows key v after
found_all rows key v (Own place) f = (probed 8 rows key place (omega arith) f.0, f.1, f.2)
found_all rows key v (Unused place) f = (probed 8 rows key place (omega arith) f.0, f.1, λ at p. f.2 at (one_of rows key at p))
found_all rows key v Used f = (λ at p. f.0 at (one_of rows key at p), λ at p. f.1 at (one_of rows key at p))

-- rows with the same key words have each of them in common
pub word_of_key : (row key : List ℕ) (i : ℕ) → i < 16 → take 16 row ≡ key → get_or row i 0 ≡ get_or key i 0
word_of_key row key i lt e = sym (get_or-take 16 row i 0 lt) ∙ ap (λ ws. get_or ws i 0) e

-- where all are current one of them gives way
few : (n : ℕ) → n % 8 < 8
few n = grind arith

pub found_free : (rows m n given : ℕ) (key : List ℕ) (v : Writing) (s place : ℕ) (a : Sought) → a ≡ Used → IsSought rows key v a → s ≡ slot key n → n ≡ rows → m ≡ n → place ≡ (s + given % 8) % m → IsFound rows key v (free.Free place)
found_free rows m n given key v s place a used is slot_is n_is m_is place_is =
    let f : IsSought rows key v Used = subst (IsSought rows key v) used is in
    (record { step = given % 8; few = few given; is = place_is ∙ (ap (λ k. (s + given % 8) % k) (m_is ∙ n_is) ∙ (ap (λ k. (k + given % 8) % rows) slot_is ∙ ap (λ k. (slot key k + given % 8) % rows) n_is)) }, f.1, λ c. f.0)
