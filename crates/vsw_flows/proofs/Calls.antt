-- What the calls of the rows owe and leave, over the writer that they see.
use Rattle.std.proofs.Common.{◌≡◌, ◌<◌, ◌∙◌, ◌||◌, ℕ, true, true≢false, List, [], ◌∷◌, ◌++◌, ap, length, refl, sym, subst}
use Rattle.std.specs.Prelude.{Some}
use Rattle.vsw_policy.specs.declared.command.Command.{Command}
use Rattle.vsw_policy.specs.Layer.{LayerSeen}
use Rattle.vsw_policy.specs.Layers.{PolicySeen}
use Rattle.vsw_port.specs.declared.event.Event.{Event}
use Rattle.vsw_port.specs.History as history
use Rattle.vsw_rows.specs.GoodRows.{IsGoodRow, opening_of}
use Rattle.vsw_rows.specs.Rows.{IsFormed, IsFresh, layers_after}
use Rattle.vsw_spares.specs.Spared.{spares}
use Rattle.vsw_spares.proofs.Entries.{entry_spares}
use Rattle.vsw_table.specs.Held.{put_in}
use Rattle.vsw_table.specs.Rules.{row_at}
use Rattle.vsw_walk.specs.declared.scratch.Looked.{Looked}
use Rattle.vsw_walk.specs.declared.scratch.Wanted.{Wanted}
use Rattle.vsw_walk.specs.declared.scratch.Wanted.TheVariants.{Make, Touch, Leave}
use Rattle.vsw_rows.specs.Shaken.{shake, shakes, shakes_one}
use Rattle.vsw_flows.proofs.Thinned.{thins_weaker}
use Rattle.vsw_flows.specs.declared.places.Found.{Found}
use Rattle.vsw_flows.specs.declared.places.Found.TheVariants.{Own}
use Rattle.vsw_flows.specs.Finding.{IsFound}
use Rattle.vsw_flows.specs.Flows.{AllSpared, Any, IsCurrent, NoneShaken, OthersStay, Spares, Writing}
use Rattle.vsw_flows.specs.Leant.{Leant, kept_at}
use Rattle.vsw_flows.specs.Shaking.{IsShaken, NoneLeft, moves_none}
use Rattle.vsw_flows.specs.Standing.{AreStanding, Lessens, Settles, Stand, StandsAll, Thins}
use Rattle.vsw_flows.proofs.Placed.{fresh_good, put_stand}
use Rattle.vsw_flows.proofs.Standings.{all_spared, current_good, enters, fallen, none_shaken, others_stay, stays_good}

-- an entry that may be added
pub record Grows (p : PolicySeen) (e : Event) (v : Writing) : Type 0 where
  pub opens : v.view.opening ≡ Some p
  pub right : history.IsRight p.controllers (layers_after p v.view.history) e
  pub spares : Spares (layers_after p v.view.history) e v

pub grown_good : (p : PolicySeen) (e : Event) (v : Writing) (l : Leant) → Grows p e v → AreStanding v l → (place : ℕ) → IsCurrent v place → IsGoodRow (opening_of p) (v.view.history ++ e ∷ []) (row_at v.view.rows place)
grown_good p e v l g s = stays_good entry_spares p e v l g.right g.spares g.opens s

pub grown_stand : (p : PolicySeen) (e : Event) (v w : Writing) (l : Leant) → Grows p e v → w.view.opening ≡ v.view.opening → w.view.history ≡ v.view.history ++ e ∷ [] → w.view.stamps ≡ v.view.stamps → w.view.rows ≡ v.view.rows → AreStanding v l → AreStanding w l
grown_stand p e v w l g opened more stamps rows s = enters entry_spares p e v w l l g.right g.spares g.opens opened more stamps rows refl s

-- changes at the layers that the history leaves
pub shaken_none : (p : PolicySeen) (ls : List LayerSeen) (ws : List Wanted) (v w : Writing) (l m : Leant) → Thins (IsShaken ls ws l.kept) v w l m → ((as_of : List LayerSeen) → Stand as_of v l → NoneLeft ls ws l.kept w) → AreStanding v l → v.view.opening ≡ Some p → ls ≡ layers_after p v.view.history → NoneShaken ls ws w
shaken_none p ls ws v w l m t none s opens same =
    subst (λ ks. Thins (IsShaken ks ws l.kept) v w l m → ((as_of : List LayerSeen) → Stand as_of v l → NoneLeft ks ws l.kept w) → NoneShaken ks ws w) (sym same)
    (λ u left. none_shaken p ws v w l m u left opens s) t none

pub shaken_others : (p : PolicySeen) (ls : List LayerSeen) (ws : List Wanted) (v w : Writing) (l m : Leant) → Thins (IsShaken ls ws l.kept) v w l m → AreStanding v l → v.view.opening ≡ Some p → ls ≡ layers_after p v.view.history → OthersStay ls ws v w
shaken_others p ls ws v w l m t s opens same =
    subst (λ ks. Thins (IsShaken ks ws l.kept) v w l m → OthersStay ks ws v w) (sym same) (λ u. others_stay p ws v w l m u opens s) t

pub command_spares : (p : PolicySeen) (ls : List LayerSeen) (c : ℕ) (command : Command) (v w : Writing) (l m : Leant) → Lessens v w l m → (Stand ls v l → (place : ℕ) → IsCurrent w place → spares ls c command (kept_at l.kept place) ≡ true) → AreStanding v l → v.view.opening ≡ Some p → ls ≡ layers_after p v.view.history → AllSpared ls c command w
command_spares p ls c command v w l m t spared s opens same =
    subst (λ ks. (Stand ks v l → (place : ℕ) → IsCurrent w place → spares ks c command (kept_at l.kept place) ≡ true) → AllSpared ks c command w) (sym same) (λ h. all_spared p c command v w l m t (h (s p opens).0) opens s) spared

-- changes that move no pair shake the same rows at all layers
made_alike : (ls ms : List LayerSeen) (w : Wanted) (ws : List Wanted) (qs : List Looked) → moves_none (w ∷ ws) ≡ true → shakes_one ls w qs ≡ shakes_one ms w qs
made_alike ls ms w ws [] h = refl
made_alike ls ms (Make place p) ws (q ∷ qs) h = ap (λ b. shakes ms (Make place p) q || b) (made_alike ls ms (Make place p) ws qs h)
made_alike ls ms (Touch place number state last) ws (q ∷ qs) h = absurd (true≢false (sym h))
made_alike ls ms (Leave place number) ws (q ∷ qs) h = ap (λ b. shakes ms (Leave place number) q || b) (made_alike ls ms (Leave place number) ws qs h)

made_rest : (w : Wanted) (ws : List Wanted) → moves_none (w ∷ ws) ≡ true → moves_none ws ≡ true
made_rest (Make place p) ws h = h
made_rest (Touch place number state last) ws h = absurd (true≢false (sym h))
made_rest (Leave place number) ws h = h

pub all_alike : (ls ms : List LayerSeen) (ws : List Wanted) (qs : List Looked) → moves_none ws ≡ true → shake ls ws qs ≡ shake ms ws qs
all_alike ls ms [] qs h = refl
all_alike ls ms (w ∷ ws) qs h = (λ i. made_alike ls ms w ws qs h i || all_alike ls ms ws qs (made_rest w ws h) i)

made_thins : (ls ms : List LayerSeen) (ws : List Wanted) (v w : Writing) (l m : Leant) → moves_none ws ≡ true → Thins (IsShaken ls ws l.kept) v w l m → Thins (IsShaken ms ws l.kept) v w l m
made_thins ls ms ws v w l m h t = thins_weaker (IsShaken ls ws l.kept) (IsShaken ms ws l.kept) v w l m (λ place e. all_alike ms ls ws (kept_at l.kept place) h ∙ e) t

pub made_none : (p : PolicySeen) (ls : List LayerSeen) (ws : List Wanted) (v w : Writing) (l m : Leant) → moves_none ws ≡ true → Thins (IsShaken ls ws l.kept) v w l m → ((as_of : List LayerSeen) → Stand as_of v l → NoneLeft ls ws l.kept w) → AreStanding v l → v.view.opening ≡ Some p → NoneShaken (layers_after p v.view.history) ws w
made_none p ls ws v w l m h t none s opens =
    none_shaken p ws v w l m (made_thins ls (layers_after p v.view.history) ws v w l m h t) (λ as_of stand place c. all_alike (layers_after p v.view.history) ls ws (kept_at l.kept place) h ∙ none as_of stand place c) opens s

pub made_others : (p : PolicySeen) (ls : List LayerSeen) (ws : List Wanted) (v w : Writing) (l m : Leant) → moves_none ws ≡ true → Thins (IsShaken ls ws l.kept) v w l m → AreStanding v l → v.view.opening ≡ Some p → OthersStay (layers_after p v.view.history) ws v w
made_others p ls ws v w l m h t s opens = others_stay p ws v w l m (made_thins ls (layers_after p v.view.history) ws v w l m h t) opens s

-- a fresh row
pub record Fresh (p : PolicySeen) (words : List ℕ) (qs : List Looked) (v : Writing) : Type 0 where
  pub opens : v.view.opening ≡ Some p
  pub fresh : IsFresh (layers_after p v.view.history) words qs

pub settled_good : (p : PolicySeen) (row : ℕ) (words : List ℕ) (qs : List Looked) (v x : Writing) (l k : Leant) → Fresh p words qs v → Settles row v x l k → IsGoodRow (opening_of p) x.view.history words
settled_good p row words qs v x l k f s = fresh_good p v x words qs s.falls f.fresh

pub settled_stand : (row : ℕ) (v x : Writing) (l k : Leant) → Settles row v x l k → AreStanding v l → AreStanding x k
settled_stand row v x l k g s = fallen Any v x l k g.falls g.stands s

pub put_stands : (p : PolicySeen) (row : ℕ) (words : List ℕ) (qs : List Looked) (v x w : Writing) (l k : Leant) → Fresh p words qs v → row < length x.view.rows → Settles row v x l k → (kept_at k.kept row ≡ qs) × StandsAll k row qs → w ≡ record x { view = put_in x.view row words } → AreStanding v l → AreStanding w k
put_stands p row words qs v x w l k f lt g there is s = put_stand p row words qs v x w l k f.opens lt f.fresh g there.0 there.1 is s

-- a current row that is found is good
pub found_good : (p : PolicySeen) (v : Writing) (l : Leant) (rows : ℕ) (key : List ℕ) (after : Found) → v.view.opening ≡ Some p → AreStanding v l → IsFound rows key v after → (place : ℕ) → after ≡ Own place → IsGoodRow (opening_of p) v.view.history (row_at v.view.rows place)
found_good p v l rows key after opens s is place e =
    let own : IsFound rows key v (Own place) = subst (IsFound rows key v) e is in
    current_good p v l opens s place own.1

pub row_formed : (p : PolicySeen) (v : Writing) (l : Leant) → v.view.opening ≡ Some p → AreStanding v l → (place : ℕ) → IsFormed (row_at v.view.rows place)
row_formed p v l opens s = (s p opens).1
