-- The steps of reading a rows file.
use Rattle.std.specs.Prelude.{◌≤◌, ◌<◌, ◌+◌, ℕ, List, [], ◌∷◌, Bool, true, length, Result, IfErr, IfOk, OnOk, ⊤}
use Rattle.vsw_offload.specs.Bad.{Address, Begins, Entries, IsBadRows, IsNewAt, Reaches, Rows, text_of}
use Rattle.vsw_offload.specs.Rows.{IsPortRows, is_before}
use Rattle.vsw_offload.specs.declared.fault.BadRows.{BadRows}
use Rattle.vsw_offload.specs.declared.port_rows.PortRows.{PortRows}

-- a port with these rows
abbrev pub port_of : ℕ → ℕ → ℕ → List (List ℕ) → PortRows
port_of port mac entries rows = record { port = port; mac = mac; entries = entries; rows = rows }

-- behind so many ports, rows of one more were read up to a place, of so many that are told
pub record HasRows (bytes : List ℕ) (at count : ℕ) (ps : List PortRows) (p : PortRows) (rows : ℕ) : Type 0 where
  pub begins : Begins bytes at (text_of (Rows count ps p rows))
  pub new : IsNewAt count ps p.port p.mac
  pub is : IsPortRows p
  pub few : rows ≤ 16384

-- behind a port's address the number of its entries is read at this place
abbrev pub ReadsEntries : List ℕ → ℕ → Result ℕ BadRows → Type 0
ReadsEntries bytes at r = (count port mac : ℕ) (ps : List PortRows) → Reaches bytes at (Address count ps port mac) → IfOk r (λ entries. Reaches bytes (at + 4) (Entries count ps port mac entries))

-- and behind it the number of its rows, or what is at fault with it is at fault with the file
abbrev pub ReadsCount : List ℕ → ℕ → Result ℕ BadRows → Type 0
ReadsCount bytes at r =
    (count port mac entries : ℕ) (ps : List PortRows) → Reaches bytes at (Entries count ps port mac entries) → IfOk r (λ rows. HasRows bytes (at + 4) count ps (port_of port mac entries []) rows)

abbrev pub RefusesCount : List ℕ → ℕ → Result ℕ BadRows → Type 0
RefusesCount bytes at r = (count port mac entries : ℕ) (ps : List PortRows) → Reaches bytes at (Entries count ps port mac entries) → IfErr r (λ why. IsBadRows bytes why)

-- and from this place on all rows, so many
abbrev pub ReadsRows : List ℕ → (first count : ℕ) → List (List ℕ) → Result ℕ BadRows → Type 0
ReadsRows bytes first count rows r =
    (ports : ℕ) (ps : List PortRows) (port mac entries : ℕ) → HasRows bytes first ports ps (port_of port mac entries []) count → IfOk r (λ end. HasRows bytes end ports ps (port_of port mac entries rows) count)

abbrev pub RefusesRows : List ℕ → (first count : ℕ) → Result ℕ BadRows → Type 0
RefusesRows bytes first count r = (ports : ℕ) (ps : List PortRows) (port mac entries : ℕ) → HasRows bytes first ports ps (port_of port mac entries []) count → IfErr r (λ why. IsBadRows bytes why)

-- where fewer rows of a port were read than are told, one more is read at this place, or what is at fault with it is at fault with the file
abbrev pub ReadsRow : List ℕ → ℕ → (old new : List (List ℕ)) → Result ⊤ BadRows → Type 0
ReadsRow bytes at old new r = (count : ℕ) (ps : List PortRows) (port mac entries told : ℕ) → HasRows bytes at count ps (port_of port mac entries old) told → length old < told
    → OnOk r (HasRows bytes (at + 584) count ps (port_of port mac entries new) told)

abbrev pub RefusesRow : List ℕ → ℕ → List (List ℕ) → Result ⊤ BadRows → Type 0
RefusesRow bytes at old r = (count : ℕ) (ps : List PortRows) (port mac entries told : ℕ) → HasRows bytes at count ps (port_of port mac entries old) told → length old < told
    → IfErr r (λ why. IsBadRows bytes why)

-- the words come behind the last of these rows
abbrev pub is_next : List (List ℕ) → List ℕ → Bool
is_next [] words = true
is_next (r ∷ []) words = is_before r words
is_next (r ∷ s ∷ rs) words = is_next (s ∷ rs) words
