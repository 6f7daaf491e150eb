-- What stands at the eight places at which a row with some key words may stand.
use Rattle.std.specs.Prelude.{◌≡◌, ℕ, List, take}
use Rattle.vsw_rows.specs.Rows.{IsProbed}
use Rattle.vsw_table.specs.Rules.{row_at, stamp_at}
use Rattle.vsw_flows.specs.declared.places.Found.{Found}
use Rattle.vsw_flows.specs.declared.places.Found.TheVariants.{Own, Free}
use Rattle.vsw_flows.specs.declared.places.Sought.{Sought}
use Rattle.vsw_flows.specs.declared.places.Sought.TheVariants as sought
use Rattle.vsw_flows.specs.Flows.{IsCurrent, Writing}

-- the row at the place has these key words
abbrev pub HasKey : Writing → List ℕ → ℕ → Type 0
HasKey v key place = take 16 (row_at v.view.rows place) ≡ key

-- no current row at the eight places has them
abbrev pub NoneHasKey : ℕ → List ℕ → Writing → Type 0
NoneHasKey rows key v = (place : ℕ) → IsProbed rows key place → IsCurrent v place → HasKey v key place → ⊥

-- what stands at these places: a current row with the key words; else one of them that may be put, which is current only where all are
abbrev pub IsFound : ℕ → List ℕ → Writing → Found → Type 0
IsFound rows key v (Own place) = IsProbed rows key place × IsCurrent v place × HasKey v key place
IsFound rows key v (Free place) = IsProbed rows key place × NoneHasKey rows key v × (IsCurrent v place → (other : ℕ) → IsProbed rows key other → IsCurrent v other)

-- what one place more adds to a search: a current row with the key words is what was looked for; one with others adds nothing; one without a stamp
-- is kept, if it is the first
pub data Adds (v : Writing) (key : List ℕ) (place : ℕ) (before after : Sought) : Type 0 where
  Hit : IsCurrent v place → HasKey v key place → after ≡ sought.Own place → Adds v key place before after
  Other : IsCurrent v place → (HasKey v key place → ⊥) → after ≡ before → Adds v key place before after
  First : stamp_at v.view.stamps place ≡ 0 → before ≡ sought.Used → after ≡ sought.Unused place → Adds v key place before after
  Later : stamp_at v.view.stamps place ≡ 0 → (before ≡ sought.Used → ⊥) → after ≡ before → Adds v key place before after

-- what stands at the eight places: a current row with the key words; else one without a stamp; else eight current ones with others
abbrev pub IsSought : ℕ → List ℕ → Writing → Sought → Type 0
IsSought rows key v (sought.Own place) = IsProbed rows key place × IsCurrent v place × HasKey v key place
IsSought rows key v (sought.Unused place) = IsProbed rows key place × (stamp_at v.view.stamps place ≡ 0) × NoneHasKey rows key v
IsSought rows key v sought.Used = ((place : ℕ) → IsProbed rows key place → IsCurrent v place) × NoneHasKey rows key v
