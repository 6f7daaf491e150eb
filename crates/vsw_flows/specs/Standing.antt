-- What the rows of a port keep: each current row is good, its looks are kept, and it stands at the spot of each.
use Rattle.std.specs.Prelude.{◌≡◌, ◌≢◌, ◌+◌, ℕ, List, true, Some}
use Rattle.vsw_policy.specs.Layer.{LayerSeen}
use Rattle.vsw_policy.specs.Layers.{PolicySeen}
use Rattle.vsw_policy.specs.Sound.{Each}
use Rattle.vsw_rows.specs.Good.{IsGoodLeaning, Row}
use Rattle.vsw_rows.specs.Rows.{IsFormed, Says, layers_after}
use Rattle.vsw_table.specs.Rules.{row_at}
use Rattle.vsw_walk.specs.declared.scratch.Looked.{Looked}
use Rattle.vsw_flows.specs.declared.spot.Spot.{Spot}
use Rattle.vsw_flows.specs.Flows.{Any, Falls, IsCurrent, Writing}
use Rattle.vsw_flows.specs.Leant.{Leant, kept_at}
use Rattle.vsw_flows.specs.Spots.{spot_of, stands}

-- the row stands at the spot of each of these looks
abbrev pub StandsAll : Leant → ℕ → List Looked → Type 0
StandsAll l place qs = Each (λ q. stands l.spots (spot_of q) place ≡ true) qs

-- the row at a place says a good row, leans on the looks that are kept of it, and stands at their spots
pub record StandsAt (ls : List LayerSeen) (v : Writing) (l : Leant) (place : ℕ) : Type 0 where
  pub row : Row
  pub says : Says (row_at v.view.rows place) row
  pub good : IsGoodLeaning ls (record { row = row; looks = kept_at l.kept place })
  pub there : StandsAll l place (kept_at l.kept place)

-- each current row does. That one may also stand where it leans no more is harmless: it falls without need
abbrev pub Stand : List LayerSeen → Writing → Leant → Type 0
Stand ls v l = (place : ℕ) → IsCurrent v place → StandsAt ls v l place

-- but for the one with this mark
abbrev pub StandBut : ℕ → List LayerSeen → Writing → Leant → Type 0
StandBut mark ls v l = (place : ℕ) → place + 1 ≢ mark → IsCurrent v place → StandsAt ls v l place

-- each row's words are empty or say a row
abbrev pub AreFormed : Writing → Type 0
AreFormed v = (place : ℕ) → IsFormed (row_at v.view.rows place)

-- current rows stand so at the layers that the writer's history leaves
abbrev pub AreStanding : Writing → Leant → Type 0
AreStanding v l = (p : PolicySeen) → v.view.opening ≡ Some p → Stand (layers_after p v.view.history) v l × AreFormed v

-- the row with a mark fell
pub record Fell (mark : ℕ) (v w : Writing) (l m : Leant) : Type 0 where
  pub falls : Falls (λ place. place + 1 ≡ mark) v w
  pub gone : (place : ℕ) → place + 1 ≡ mark → IsCurrent w place → ⊥
  pub kept : m.kept ≡ l.kept
  pub others : (s : Spot) (place : ℕ) → place + 1 ≢ mark → stands l.spots s place ≡ true → stands m.spots s place ≡ true

-- rows fell, for this reason, and those that are left stand as they did
pub record Thins (P : ℕ → Type 0) (v w : Writing) (l m : Leant) : Type 0 where
  pub falls : Falls P v w
  pub kept : m.kept ≡ l.kept
  pub stands : (ls : List LayerSeen) → Stand ls v l → Stand ls w m

-- rows fell; those that are left stand as they did, and have their looks
pub record Lessens (v w : Writing) (l m : Leant) : Type 0 where
  pub falls : Falls Any v w
  pub kept : (place : ℕ) → IsCurrent w place → kept_at m.kept place ≡ kept_at l.kept place
  pub stands : (ls : List LayerSeen) → Stand ls v l → Stand ls w m

-- others may have given way to a row, which stands where it did
pub record Enters (row : ℕ) (v w : Writing) (l m : Leant) : Type 0 where
  pub thins : Thins Any v w l m
  pub keeps : (s : Spot) → stands l.spots s row ≡ true → stands m.spots s row ≡ true

-- a row fell, and perhaps others; those that are left stand
pub record Settles (row : ℕ) (v w : Writing) (l m : Leant) : Type 0 where
  pub falls : Falls Any v w
  pub gone : IsCurrent w row → ⊥
  pub stands : (ls : List LayerSeen) → Stand ls v l → Stand ls w m
