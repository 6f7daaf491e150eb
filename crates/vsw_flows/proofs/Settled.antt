-- A row comes to stand: who gives way falls, and the others stand as they did.
use Rattle.std.proofs.Common.{◌≡◌, ◌≢◌, ◌+◌, ℕ, Bool, true, List, [], ◌∷◌, refl, sym, ap, subst, ◌∙◌}
use native.Mathlib.Decide.{ℕ_discrete}
use mathlib.Core.Logic.{dite}
use Rattle.vsw_policy.specs.Layer.{LayerSeen}
use Rattle.vsw_walk.specs.declared.scratch.Looked.{Looked}
use Rattle.vsw_flows.specs.declared.spot.Spot.{Spot}
use Rattle.vsw_flows.specs.Flows.{Any, IsCurrent, Writing}
use Rattle.vsw_flows.specs.Leant.{Leant, kept_at}
use Rattle.vsw_flows.specs.Spots.{spot_of, stands}
use Rattle.vsw_flows.specs.Standing.{Enters, Fell, Settles, Stand, StandBut, StandsAll}
use Rattle.vsw_flows.proofs.Thinned.{falls_then, falls_weaker, fell_but, fell_thins, stays_at, thins_none, thins_then, was_current}

-- a row stands at one spot more: all but the one that gives way stand as they did, and then that one falls
entered_but : (v : Writing) (l m : Leant) (way : ℕ) → m.kept ≡ l.kept → ((s : Spot) (r : ℕ) → stands l.spots s r ≡ true → r + 1 ≢ way → stands m.spots s r ≡ true) → (ls : List LayerSeen) → Stand ls v l → StandBut way ls v m
entered_but v l m way kept others ls s place ne c = stays_at ls v v l m place refl (ap (λ ks. kept_at ks place) kept) (λ t h. others t place h ne) (s place c)

pub entered_one : (row way : ℕ) (v w : Writing) (l m n : Leant) → m.kept ≡ l.kept → way ≢ row + 1 → ((s : Spot) (r : ℕ) → stands l.spots s r ≡ true → r + 1 ≢ way → stands m.spots s r ≡ true) → Fell way v w m n → Enters row v w l n
entered_one row way v w l m n kept other others f = record {
  thins = record {
    falls = falls_weaker (λ place. place + 1 ≡ way) Any v w (λ place h. tt) f.falls;
    kept = f.kept ∙ kept;
    stands = λ ls s. fell_but way v w m n f ls (entered_but v l m way kept others ls s);
  };
  keeps = λ s h. f.others s row (λ e. other (sym e)) (others s row h (λ e. other (sym e)));
}

pub entered_there : (row way : ℕ) (v w : Writing) (m n : Leant) (s : Spot) (done : Bool) → way ≢ row + 1 → Fell way v w m n → (done ≡ true → stands m.spots s row ≡ true) → done ≡ true → stands n.spots s row ≡ true
entered_there row way v w m n s done other f there e = f.others s row (λ i. other (sym i)) (there e)

-- and at those of more looks
pub enters_none : (row : ℕ) (v : Writing) (l : Leant) → Enters row v v l l
enters_none row v l = record { thins = thins_none Any v l; keeps = λ s h. h }

pub enters_then : (row : ℕ) (v w x : Writing) (l m n : Leant) → Enters row v w l m → Enters row w x m n → Enters row v x l n
enters_then row v w x l m n f g = record { thins = thins_then Any v w x l m n f.thins g.thins; keeps = λ s h. g.keeps s (f.keeps s h) }

pub stands_more : (row : ℕ) (w x : Writing) (m n : Leant) (qs : List Looked) (q : Looked) (rest : List Looked) → qs ≡ q ∷ rest → stands m.spots (spot_of q) row ≡ true → Enters row w x m n → StandsAll n row rest → StandsAll n row qs
stands_more row w x m n qs q rest is here g there = subst (StandsAll n row) (sym is) (g.keeps (spot_of q) here, there)

pub stands_none : (m : Leant) (row : ℕ) (qs : List Looked) → qs ≡ [] → StandsAll m row qs
stands_none m row qs is = subst (StandsAll m row) (sym is) tt

-- the looks of a row that isn't current are others, and so are its spots
pub kept_stands : (row : ℕ) (v : Writing) (l m : Leant) → (IsCurrent v row → ⊥) → ((place : ℕ) → place ≢ row → kept_at m.kept place ≡ kept_at l.kept place) → ((s : Spot) (place : ℕ) → place ≢ row → stands l.spots s place ≡ true → stands m.spots s place ≡ true) → (ls : List LayerSeen) → Stand ls v l → Stand ls v m
kept_stands row v l m gone kept spots ls s place c = dite (ℕ_discrete place row)
    (λ e. absurd (gone (subst (IsCurrent v) e c)))
    (λ ne. stays_at ls v v l m place refl (kept place ne) (λ t h. spots t place ne h) (s place c))

fell_gone : (row : ℕ) (v w : Writing) (l m : Leant) → Fell (row + 1) v w l m → IsCurrent w row → ⊥
fell_gone row v w l m f = f.gone row refl

-- a row fell, and memory was wanting for its looks
pub settled_short : (row : ℕ) (v w : Writing) (l m n : Leant) → Fell (row + 1) v w l m → ((place : ℕ) → place ≢ row → kept_at n.kept place ≡ kept_at m.kept place) → n.spots ≡ m.spots → Settles row v w l n
settled_short row v w l m n f kept spots = record {
  falls = falls_weaker (λ place. place + 1 ≡ row + 1) Any v w (λ place h. tt) f.falls;
  gone = fell_gone row v w l m f;
  stands = λ ls s. kept_stands row w m n (fell_gone row v w l m f) kept (λ t place ne h. ap (λ es. stands es t place) spots ∙ h) ls ((fell_thins (row + 1) v w l m f).stands ls s);
}

-- it fell, its looks are others, and others gave way
pub settled : (row : ℕ) (v w x : Writing) (l m n k : Leant) → Fell (row + 1) v w l m → ((place : ℕ) → place ≢ row → kept_at n.kept place ≡ kept_at m.kept place) → n.spots ≡ m.spots → Enters row w x n k → Settles row v x l k
settled row v w x l m n k f kept spots g =
    let first = settled_short row v w l m n f kept spots in
    record {
      falls = falls_then Any v w x first.falls g.thins.falls;
      gone = λ c. first.gone (was_current Any w x row (g.thins.falls.each row) c);
      stands = λ ls s. g.thins.stands ls (first.stands ls s);
    }

-- and it left them again
pub settled_left : (row : ℕ) (v x : Writing) (l k j : Leant) → Settles row v x l k → j.kept ≡ k.kept → ((s : Spot) (place : ℕ) → place ≢ row → stands k.spots s place ≡ true → stands j.spots s place ≡ true) → Settles row v x l j
settled_left row v x l k j g kept others = record {
  falls = g.falls;
  gone = g.gone;
  stands = λ ls s. kept_stands row x k j g.gone (λ place ne. ap (λ ks. kept_at ks place) kept) others ls (g.stands ls s);
}
