-- The rows file: for each port its number, its address and its rows, each row as its 73 words. docs/FORMATS.md has it as a table.
use Rattle.std.specs.Prelude.{◌≡◌, ◌<◌, ◌≤◌, ◌^◌, ◌==◌, ◌&&◌, ◌||◌, ℕ, List, [], ◌∷◌, ◌++◌, Bool, true, false, not, length, map, take, nat_lt, codes, if◌then◌else◌}
use Rattle.std.specs.List.{flat_map}
use Rattle.byteorder.specs.Endian.{big_bytes, little_bytes}
use Rattle.vsw_base.specs.declared.fate.Verdict.TheVariants.{Pass}
use Rattle.vsw_policy.specs.Sound.{Each}
use Rattle.vsw_rows.specs.Good.{Row}
use Rattle.vsw_rows.specs.Rows.{Says}
use Rattle.vsw_offload.specs.declared.port_rows.PortRows.{PortRows}
use Rattle.vsw_transpose.specs.Fits as fit

-- ---- the bytes

-- 73 words of eight bytes, the lowest first
abbrev pub row_bytes : List ℕ → List ℕ
row_bytes words = flat_map (little_bytes 8) words

-- rows, one behind the other
abbrev pub all_rows_bytes : List (List ℕ) → List ℕ
all_rows_bytes rows = flat_map row_bytes rows

-- a port: its number, its address as a frame has it, how many entries its history had, how many rows it has, and these
abbrev pub port_bytes : PortRows → List ℕ
port_bytes p = little_bytes 4 p.port ++ big_bytes 6 p.mac ++ little_bytes 4 p.entries ++ little_bytes 4 (length p.rows) ++ all_rows_bytes p.rows

-- the eight bytes with which every rows file begins
abbrev pub head : List ℕ
head = codes "VSWROWS1"

-- the file: its head, how many ports there are, and these
abbrev pub rows_bytes : List PortRows → List ℕ
rows_bytes ps = head ++ little_bytes 4 (length ps) ++ flat_map port_bytes ps

-- ---- what stands in it

-- numbers that 64 bits hold
abbrev pub AreWords : List ℕ → Type 0
AreWords words = Each (λ w. w < 2 ^ 64) words

-- words that say a row. If its packets pass, its acts fit their headers
pub record IsRow (words : List ℕ) : Type 0 where
  pub long : length words ≡ 73
  pub below : AreWords words
  pub row : Row
  pub says : Says words row
  pub fits : row.verdict ≡ Pass → fit.fits row.acts row.id.stack ≡ true

-- words in their order: the first that differ decide
abbrev pub is_less : List ℕ → List ℕ → Bool
is_less [] [] = false
is_less [] (y ∷ ys) = true
is_less (x ∷ xs) [] = false
is_less (x ∷ xs) (y ∷ ys) = nat_lt x y || ((x == y) && is_less xs ys)

-- a row's key: what its packets are known by
abbrev pub key_of : List ℕ → List ℕ
key_of words = take 16 words

-- by their keys, one row stands before another
abbrev pub is_before : List ℕ → List ℕ → Bool
is_before r s = is_less (key_of r) (key_of s)

-- each key is above the one before
abbrev pub Rise : List (List ℕ) → Type 0
Rise [] = Unit {0}
Rise (r ∷ []) = Unit {0}
Rise (r ∷ s ∷ rs) = (is_before r s ≡ true) × Rise (s ∷ rs)

-- numbers that their places in the file hold, and at most 16,384 rows, whose keys rise
pub record IsPortRows (p : PortRows) : Type 0 where
  pub port : p.port < 2 ^ 32
  pub mac : p.mac < 2 ^ 48
  pub entries : p.entries < 2 ^ 32
  pub few : length p.rows ≤ 16384
  pub each : Each IsRow p.rows
  pub rise : Rise p.rows

-- n is one of these
abbrev pub is_among : ℕ → List ℕ → Bool
is_among n [] = false
is_among n (m ∷ ms) = (n == m) || is_among n ms

-- none of these stands twice
abbrev pub are_distinct : List ℕ → Bool
are_distinct [] = true
are_distinct (n ∷ ns) = not (is_among n ns) && are_distinct ns

-- the ports' numbers, in the file's order
abbrev pub numbers_of : List PortRows → List ℕ
numbers_of ps = map (λ p. p.port) ps

-- the ports' addresses, in the file's order
abbrev pub macs_of : List PortRows → List ℕ
macs_of ps = map (λ p. p.mac) ps

-- at most 16 ports, no two of one number or one address
pub record AreRows (ps : List PortRows) : Type 0 where
  pub few : length ps ≤ 16
  pub numbers : are_distinct (numbers_of ps) ≡ true
  pub macs : are_distinct (macs_of ps) ≡ true
  pub each : Each IsPortRows ps

-- ---- rows of a table in the order of the file

-- a row put among rows that rise, unless one of its key stands there: of two rows of one key the one that comes first stays
abbrev pub put_in : List ℕ → List (List ℕ) → List (List ℕ)
put_in r [] = r ∷ []
put_in r (s ∷ ss) = if is_before s r then s ∷ put_in r ss else if is_before r s then r ∷ s ∷ ss else s ∷ ss

-- rows put in one after another
abbrev pub in_order_behind : List (List ℕ) → List (List ℕ) → List (List ℕ)
in_order_behind done [] = done
in_order_behind done (r ∷ rs) = in_order_behind (put_in r done) rs

-- rows in the order of their keys, of each key the first
abbrev pub in_key_order : List (List ℕ) → List (List ℕ)
in_key_order rows = in_order_behind [] rows

abbrev pub ordered : PortRows → PortRows
ordered p = record p { rows = in_key_order p.rows }
