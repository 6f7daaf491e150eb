-- What falls leave: those that don't fall stand as they did.
use Rattle.std.proofs.Common.{◌≡◌, ◌≢◌, ◌+◌, ◌-◌, ◌<◌, ℕ, zero, suc, true, List, [], ◌∷◌, set, get_or, get_or-set_other, inl, inr, refl, sym, ap, subst, ◌∙◌, arith}
use native.Mathlib.Decide.{ℕ_discrete}
use mathlib.Core.Logic.{dite}
use Rattle.vsw_policy.specs.Layer.{LayerSeen}
use Rattle.vsw_policy.specs.Sound.{Each}
use Rattle.vsw_rows.specs.Good.{IsGoodLeaning}
use Rattle.vsw_rows.specs.Rows.{Says}
use Rattle.vsw_table.specs.Rules.{row_at, stamp_at}
use Rattle.vsw_table.specs.Steps.{shaken}
use Rattle.vsw_flows.specs.declared.spot.Spot.{Spot}
use Rattle.vsw_flows.specs.Flows.{Falls, IsCurrent, OrFell, Writing}
use Rattle.vsw_flows.specs.Leant.{Leant, kept_at}
use Rattle.vsw_flows.specs.Spots.{spot_of, stands}
use Rattle.vsw_flows.specs.Standing.{Fell, Stand, StandBut, StandsAll, StandsAt, Thins}

pub map_each : {A : Type 0} (P Q : A → Type 0) (xs : List A) → ((x : A) → P x → Q x) → Each P xs → Each Q xs
map_each P Q [] f h = tt
map_each P Q (x ∷ xs) f h = (f x h.0, map_each P Q xs f h.1)

-- a stamp that is taken away
pub cleared : (ns : List ℕ) (k : ℕ) → get_or (set ns k 0) k 0 ≡ 0
cleared [] k = refl
cleared (n ∷ ns) zero = refl
cleared (n ∷ ns) (suc k) = cleared ns k

-- no stamp was taken away
pub falls_none : (P : ℕ → Type 0) (v : Writing) → Falls P v v
falls_none P v = record { same = refl; each = λ place. inl refl }

-- a row that is current afterwards was so before
pub was_current : (P : ℕ → Type 0) (v w : Writing) (place : ℕ) → OrFell P v w place → IsCurrent w place → IsCurrent v place
was_current P v w place (inl e) c z = c (e ∙ z)
was_current P v w place (inr h) c z = c h.0

then_fell : (P : ℕ → Type 0) (v w x : Writing) (place : ℕ) → OrFell P v w place → OrFell P w x place → OrFell P v x place
then_fell P v w x place (inl e) (inl f) = inl (f ∙ e)
then_fell P v w x place (inr h) (inl f) = inr (f ∙ h.0, h.1)
then_fell P v w x place g (inr h) = inr h

-- falls one after the other
pub falls_then : (P : ℕ → Type 0) (v w x : Writing) → Falls P v w → Falls P w x → Falls P v x
falls_then P v w x f g = record {
  same = g.same ∙ ap (λ (u : Writing). record u { view = record u.view { stamps = x.view.stamps } }) f.same;
  each = λ place. then_fell P v w x place (f.each place) (g.each place);
}

weak_fell : (P Q : ℕ → Type 0) (v w : Writing) (place : ℕ) → (P place → Q place) → OrFell P v w place → OrFell Q v w place
weak_fell P Q v w place f (inl e) = inl e
weak_fell P Q v w place f (inr h) = inr (h.0, f h.1)

pub falls_weaker : (P Q : ℕ → Type 0) (v w : Writing) → ((place : ℕ) → P place → Q place) → Falls P v w → Falls Q v w
falls_weaker P Q v w f h = record { same = h.same; each = λ place. weak_fell P Q v w place (f place) (h.each place) }

-- who stands goes on standing, where its words and looks stay and it stays at its spots
pub stays_at : (ls : List LayerSeen) (v w : Writing) (l m : Leant) (place : ℕ) → w.view.rows ≡ v.view.rows → kept_at m.kept place ≡ kept_at l.kept place → ((s : Spot) → stands l.spots s place ≡ true → stands m.spots s place ≡ true) → StandsAt ls v l place → StandsAt ls w m place
stays_at ls v w l m place rows kept spots s = record {
  row = s.row;
  says = subst (λ rs. Says (row_at rs place) s.row) (sym rows) s.says;
  good = subst (λ qs. IsGoodLeaning ls (record { row = s.row; looks = qs })) (sym kept) s.good;
  there = subst (StandsAll m place) (sym kept) (map_each (λ q. stands l.spots (spot_of q) place ≡ true) (λ q. stands m.spots (spot_of q) place ≡ true) (kept_at l.kept place) (λ q. spots (spot_of q)) s.there);
}

-- the row with a mark falls, and the others stand
pub fell_but : (mark : ℕ) (v w : Writing) (l m : Leant) → Fell mark v w l m → (ls : List LayerSeen) → StandBut mark ls v l → Stand ls w m
fell_but mark v w l m f ls s place c = dite (ℕ_discrete (place + 1) mark)
    (λ e. absurd (f.gone place e c))
    (λ ne. stays_at ls v w l m place (ap (λ (u : Writing). u.view.rows) f.falls.same) (ap (λ ks. kept_at ks place) f.kept) (λ t h. f.others t place ne h) (s place ne (was_current (λ p. p + 1 ≡ mark) v w place (f.falls.each place) c)))

pub fell_thins : (mark : ℕ) (v w : Writing) (l m : Leant) → Fell mark v w l m → Thins (λ place. place + 1 ≡ mark) v w l m
fell_thins mark v w l m f = record { falls = f.falls; kept = f.kept; stands = λ ls s. fell_but mark v w l m f ls (λ place ne c. s place c) }

pub thins_none : (P : ℕ → Type 0) (v : Writing) (l : Leant) → Thins P v v l l
thins_none P v l = record { falls = falls_none P v; kept = refl; stands = λ ls s. s }

pub thins_then : (P : ℕ → Type 0) (v w x : Writing) (l m n : Leant) → Thins P v w l m → Thins P w x m n → Thins P v x l n
thins_then P v w x l m n f g = record { falls = falls_then P v w x f.falls g.falls; kept = g.kept ∙ f.kept; stands = λ ls s. g.stands ls (f.stands ls s) }

pub thins_weaker : (P Q : ℕ → Type 0) (v w : Writing) (l m : Leant) → ((place : ℕ) → P place → Q place) → Thins P v w l m → Thins Q v w l m
thins_weaker P Q v w l m f h = record { falls = falls_weaker P Q v w f h.falls; kept = h.kept; stands = h.stands }

-- the row with a mark was shaken, and left its spots
mark_row : (mark place : ℕ) → 0 < mark → place + 1 ≡ mark → place ≡ mark - 1
mark_row mark place pos e = omega (arith, pos, e)

row_mark : (mark place : ℕ) → 0 < mark → place ≡ mark - 1 → place + 1 ≡ mark
row_mark mark place pos e = omega (arith, pos, e)

pub shook : (mark : ℕ) (v w : Writing) (l m : Leant) → 0 < mark → w ≡ record v { view = shaken v.view (mark - 1) } → m.kept ≡ l.kept → ((s : Spot) (r : ℕ) → r ≢ mark - 1 → stands l.spots s r ≡ true → stands m.spots s r ≡ true) → Fell mark v w l m
shook mark v w l m pos is kept others = record {
  falls = record { same = is ∙ ap (λ ns. record v { view = record v.view { stamps = ns } }) (sym stamps); each = each };
  gone = λ place e c. c (ap (λ ns. stamp_at ns place) stamps ∙ (ap (λ k. get_or (set v.view.stamps (mark - 1) 0) k 0) (mark_row mark place pos e) ∙ cleared v.view.stamps (mark - 1)));
  kept = kept;
  others = λ s place ne h. others s place (λ e. ne (row_mark mark place pos e)) h;
}
  where
    stamps : w.view.stamps ≡ set v.view.stamps (mark - 1) 0
    stamps = ap (λ (u : Writing). u.view.stamps) is

    each : (place : ℕ) → OrFell (λ p. p + 1 ≡ mark) v w place
    each place = dite (ℕ_discrete place (mark - 1))
        (λ e. inr (ap (λ ns. stamp_at ns place) stamps ∙ (ap (λ k. get_or (set v.view.stamps (mark - 1) 0) k 0) e ∙ cleared v.view.stamps (mark - 1)), row_mark mark place pos e))
        (λ ne. inl (ap (λ ns. stamp_at ns place) stamps ∙ get_or-set_other v.view.stamps (mark - 1) place 0 0 ne))

-- no current row has the mark
pub none_fell : (mark : ℕ) (v : Writing) (l : Leant) → ((place : ℕ) → place + 1 ≡ mark → IsCurrent v place → ⊥) → Fell mark v v l l
none_fell mark v l none = record { falls = falls_none (λ p. p + 1 ≡ mark) v; gone = none; kept = refl; others = λ s place ne h. h }
