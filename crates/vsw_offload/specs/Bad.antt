-- Why bytes are no rows file: the first part, as they are read, that is at fault.
use Rattle.std.specs.Prelude.{◌≡◌, ◌≢◌, ◌⊎◌, ◌<◌, ◌≤◌, ◌+◌, ◌^◌, ℕ, zero, suc, List, [], ◌∷◌, ◌++◌, true, false, length, take, drop}
use Rattle.std.specs.List.{flat_map}
use Rattle.byteorder.specs.Endian.{big_bytes, big_number, little_bytes, little_number}
use Rattle.vsw_offload.specs.Rows.{AreRows, IsPortRows, IsRow, Rise, all_rows_bytes, head, is_among, macs_of, numbers_of, port_bytes}
use Rattle.vsw_offload.specs.declared.fault.BadRows.{BadRows}
use Rattle.vsw_offload.specs.declared.fault.BadRows.TheVariants.{NotRows, Cut, ManyPorts, PortTwice, ManyRows, BadRow, Order, Extra, Memory}
use Rattle.vsw_offload.specs.declared.port_rows.PortRows.{PortRows}

-- what was read of a file
pub data Done : Type 0 where
  -- its head
  Head : Done
  -- the number of ports, and so many of them whole
  Ports : (count : ℕ) (ps : List PortRows) → Done
  -- and of one more its number, its address, and how many entries its history had
  Number : (count : ℕ) (ps : List PortRows) (port : ℕ) → Done
  Address : (count : ℕ) (ps : List PortRows) (port mac : ℕ) → Done
  Entries : (count : ℕ) (ps : List PortRows) (port mac entries : ℕ) → Done
  -- and how many rows it has, with those that were read
  Rows : (count : ℕ) (ps : List PortRows) (p : PortRows) (rows : ℕ) → Done

-- its bytes
abbrev pub ports_text : ℕ → List PortRows → List ℕ
ports_text count ps = head ++ little_bytes 4 count ++ flat_map port_bytes ps

-- the bytes of whole ports, and of one more's number, address and count of entries
abbrev pub entries_text : ℕ → List PortRows → ℕ → ℕ → ℕ → List ℕ
entries_text count ps port mac entries = ports_text count ps ++ little_bytes 4 port ++ big_bytes 6 mac ++ little_bytes 4 entries

-- the bytes of what was read
abbrev pub text_of : Done → List ℕ
text_of Head = head
text_of (Ports count ps) = ports_text count ps
text_of (Number count ps port) = ports_text count ps ++ little_bytes 4 port
text_of (Address count ps port mac) = ports_text count ps ++ little_bytes 4 port ++ big_bytes 6 mac
text_of (Entries count ps port mac entries) = entries_text count ps port mac entries
text_of (Rows count ps p rows) = entries_text count ps p.port p.mac p.entries ++ little_bytes 4 rows ++ all_rows_bytes p.rows

-- nothing of it is at fault, and it isn't all: so many bytes are read next
pub record IsNew (count : ℕ) (ps : List PortRows) (port : ℕ) : Type 0 where
  pub many : count ≤ 16
  pub more : length ps < count
  pub are : AreRows ps
  pub below : port < 2 ^ 32
  pub new : is_among port (numbers_of ps) ≡ false

-- so it is of a port with this address, which no port before it has
pub record IsNewAt (count : ℕ) (ps : List PortRows) (port mac : ℕ) : Type 0 where
  pub number : IsNew count ps port
  pub below : mac < 2 ^ 48
  pub new : is_among mac (macs_of ps) ≡ false

-- what was read is sound so far, and the file goes on
abbrev pub IsOpen : Done → Type 0
IsOpen Head = Unit {0}
IsOpen (Ports count ps) = (count ≤ 16) × (length ps < count) × AreRows ps
IsOpen (Number count ps port) = IsNew count ps port
IsOpen (Address count ps port mac) = IsNewAt count ps port mac
IsOpen (Entries count ps port mac entries) = IsNewAt count ps port mac × (entries < 2 ^ 32)
IsOpen (Rows count ps p rows) = IsNewAt count ps p.port p.mac × IsPortRows p × (rows ≤ 16384) × (length p.rows < rows)

-- how many bytes the next part has: a number, an address, or a row
abbrev pub next_size : Done → ℕ
next_size Head = 4
next_size (Ports count ps) = 4
next_size (Number count ps port) = 6
next_size (Address count ps port mac) = 4
next_size (Entries count ps port mac entries) = 4
next_size (Rows count ps p rows) = 584

-- the bytes before a place are these
pub record Begins (bytes : List ℕ) (at : ℕ) (text : List ℕ) : Type 0 where
  pub within : at ≤ length bytes
  pub is : take at bytes ≡ text

-- the bytes before a place are these, and more is to come
pub record Reaches (bytes : List ℕ) (at : ℕ) (d : Done) : Type 0 where
  pub begins : Begins bytes at (text_of d)
  pub open_is : IsOpen d

-- and the next part is whole
pub record Stands (bytes : List ℕ) (at : ℕ) (d : Done) : Type 0 where
  pub reaches : Reaches bytes at d
  pub whole : at + next_size d ≤ length bytes

-- the words of eight bytes each
abbrev pub words_in : ℕ → List ℕ → List ℕ
words_in zero bytes = []
words_in (suc n) bytes = little_number 8 bytes ∷ words_in n (drop 8 bytes)

-- the next row
abbrev pub row_at : List ℕ → ℕ → List ℕ
row_at bytes at = words_in 73 (take 584 (drop at bytes))

-- the file ends within the part that begins at this byte
pub record IsCut (bytes : List ℕ) (at : ℕ) : Type 0 where
  pub done : Done
  pub reaches : Reaches bytes at done
  pub short : length bytes < at + next_size done

-- the number of a port that begins there is an earlier port's
pub record NumberTwice (bytes : List ℕ) (at : ℕ) : Type 0 where
  pub count : ℕ
  pub ps : List PortRows
  pub stands : Stands bytes at (Ports count ps)
  pub twice : is_among (little_number 4 (drop at bytes)) (numbers_of ps) ≡ true

-- the address that begins there is an earlier port's
pub record AddressTwice (bytes : List ℕ) (at : ℕ) : Type 0 where
  pub count : ℕ
  pub ps : List PortRows
  pub port : ℕ
  pub stands : Stands bytes at (Number count ps port)
  pub twice : is_among (big_number 6 (drop at bytes)) (macs_of ps) ≡ true

-- the number of rows that begins there is above 16,384
pub record HasManyRows (bytes : List ℕ) (at : ℕ) : Type 0 where
  pub count : ℕ
  pub ps : List PortRows
  pub port : ℕ
  pub mac : ℕ
  pub entries : ℕ
  pub stands : Stands bytes at (Entries count ps port mac entries)
  pub many : 16384 < little_number 4 (drop at bytes)

-- the words that begin there say no row
pub record HasBadRow (bytes : List ℕ) (at : ℕ) : Type 0 where
  pub count : ℕ
  pub ps : List PortRows
  pub p : PortRows
  pub rows : ℕ
  pub stands : Stands bytes at (Rows count ps p rows)
  pub bad : ¬ (IsRow (row_at bytes at))

-- the row that begins there has a key that isn't above the one before
pub record Falls (bytes : List ℕ) (at : ℕ) : Type 0 where
  pub count : ℕ
  pub ps : List PortRows
  pub p : PortRows
  pub rows : ℕ
  pub stands : Stands bytes at (Rows count ps p rows)
  pub good : IsRow (row_at bytes at)
  pub falls : ¬ (Rise (p.rows ++ row_at bytes at ∷ []))

-- whole ports, as many as were told, and more bytes
pub record HasExtra (bytes : List ℕ) (at : ℕ) : Type 0 where
  pub ps : List PortRows
  pub are : AreRows ps
  pub begins : Begins bytes at (text_of (Ports (length ps) ps))
  pub more : at < length bytes

-- what is at fault, and where
abbrev pub IsBadRows : List ℕ → BadRows → Type 0
IsBadRows bytes NotRows = take 8 bytes ≢ head
IsBadRows bytes (Cut at) = IsCut bytes at
IsBadRows bytes (ManyPorts at) = Stands bytes at Head × (16 < little_number 4 (drop at bytes))
IsBadRows bytes (PortTwice at) = NumberTwice bytes at ⊎ AddressTwice bytes at
IsBadRows bytes (ManyRows at) = HasManyRows bytes at
IsBadRows bytes (BadRow at) = HasBadRow bytes at
IsBadRows bytes (Order at) = Falls bytes at
IsBadRows bytes (Extra at) = HasExtra bytes at
IsBadRows bytes Memory = Unit {0}
