-- What reconciling makes of a row: it is compared with the way of its packets through the layers of now.
use Rattle.std.specs.Prelude.{◌≡◌, ◌≢◌, ◌⊎◌, ℕ, List, true}
use Rattle.vsw_base.specs.declared.fate.Verdict.TheVariants.{Pass}
use Rattle.vsw_core.specs.declared.owner.Reconciled.{Reconciled}
use Rattle.vsw_core.specs.declared.owner.Reconciled.TheVariants.{Fresh, Kept, Changed, Cleared, Short}
use Rattle.vsw_policy.specs.Layer.{LayerSeen}
use Rattle.vsw_rows.specs.Good.{Good, Row}
use Rattle.vsw_rows.specs.Way.{way_of}
use Rattle.vsw_rows.specs.Rows.{IsEmpty, Says}
use Rattle.vsw_transpose.specs.Apply.{apply}
use Rattle.vsw_transpose.specs.Fits as fit
use Rattle.vsw_table.specs.Held.{has_stamps}
use Rattle.vsw_table.specs.Rules.{row_at, stamp_at}
use Rattle.vsw_flows.specs.Flows.{Any, IsCurrent, OrFell, Writing}

-- the row says nothing
abbrev pub IsOld : Writing → ℕ → Type 0
IsOld v place = stamp_at v.view.stamps place ≡ 0

-- packets of the row's identity would pass and make a pair
pub record WantsPair (ls : List LayerSeen) (r : Row) : Type 0 where
  pub passes : (way_of ls r.id).verdict ≡ Pass
  pub makes : (way_of ls r.id).makes ≡ true

-- what the row says is still so, but for its until: the verdict, and for a pass what the acts make of the headers
pub record Agrees (ls : List LayerSeen) (r : Row) : Type 0 where
  pub verdict : r.verdict ≡ (way_of ls r.id).verdict
  pub fits : r.verdict ≡ Pass → fit.fits r.acts r.id.stack ≡ true
  pub stack : r.verdict ≡ Pass → apply r.acts r.id.stack ≡ (way_of ls r.id).stack
  pub kept : r.verdict ≡ Pass → fit.kept r.acts ≡ (way_of ls r.id).kept

-- the row is current already
abbrev pub IsFreshAt : Writing → Writing → ℕ → Type 0
IsFreshAt v w place = IsCurrent v place × (w ≡ v)

-- the row is empty, or its packets would make a pair: it isn't written
pub record IsCleared (ls : List LayerSeen) (v w : Writing) (place : ℕ) : Type 0 where
  pub old : IsOld v place
  pub why : IsEmpty (row_at v.view.rows place) ⊎ ((r : Row) × Says (row_at v.view.rows place) r × WantsPair ls r)
  pub same : w ≡ v

-- the row still says what is so: it gets a stamp, if one is left, with its verdict and acts, and the until of now
pub record IsKept (ls : List LayerSeen) (v w : Writing) (place : ℕ) : Type 0 where
  pub row : Row
  pub old : IsOld v place
  pub says : Says (row_at v.view.rows place) row
  pub agrees : Agrees ls row
  pub wants : WantsPair ls row → ⊥
  pub current : has_stamps v.view ≡ true → IsCurrent w place
  pub written : Says (row_at w.view.rows place) (record row { until = (way_of ls row.id).until })

-- the row says what isn't so: a good row of the same identity is put, with a stamp, if one is left
pub record IsChanged (ls : List LayerSeen) (v w : Writing) (place : ℕ) : Type 0 where
  pub row : Row
  pub next : Row
  pub old : IsOld v place
  pub says : Says (row_at v.view.rows place) row
  pub differs : Agrees ls row → ⊥
  pub wants : WantsPair ls row → ⊥
  pub current : has_stamps v.view ≡ true → IsCurrent w place
  pub id : next.id ≡ row.id
  pub written : Says (row_at w.view.rows place) next
  pub good : Good ls next

-- memory is wanting for what the row leans on: it says nothing, and its words stay
pub record IsShort (ls : List LayerSeen) (v w : Writing) (place : ℕ) : Type 0 where
  pub row : Row
  pub old : IsOld v place
  pub says : Says (row_at v.view.rows place) row
  pub wants : WantsPair ls row → ⊥
  pub still : IsOld w place
  pub words : w.view.rows ≡ v.view.rows

abbrev pub Reconciles : List LayerSeen → Writing → Writing → ℕ → Reconciled → Type 0
Reconciles ls v w place Fresh = IsFreshAt v w place
Reconciles ls v w place Kept = IsKept ls v w place
Reconciles ls v w place Changed = IsChanged ls v w place
Reconciles ls v w place Cleared = IsCleared ls v w place
Reconciles ls v w place Short = IsShort ls v w place

-- other rows keep their words, and their stamps but where they gave way
pub record OthersStay (v w : Writing) (place : ℕ) : Type 0 where
  pub stamps : (k : ℕ) → k ≢ place → OrFell Any v w k
  pub rows : (k : ℕ) → k ≢ place → row_at w.view.rows k ≡ row_at v.view.rows k
