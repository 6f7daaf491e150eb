-- How a host in memory keeps what it is: openings name their files by place.
use Rattle.std.specs.Prelude.{◌≡◌, ℕ, ◌+◌, ◌-◌, ◌≤◌, ◌<◌, ◌⊎◌, min, List, [], ◌∷◌, ◌++◌, length, map, take, drop, slice_get, slice_set, Option, Some, None, All, vec_capacity}
use Rattle.vsw_host.specs.Outside.{Opened}
use Rattle.vsw_host.specs.Files.{place}
use Rattle.vsw_host.specs.Memory.{Memory, openings}
use Rattle.vsw_host.specs.declared.memory_file.MemoryFile.{MemoryFile}
use Rattle.vsw_host.specs.declared.opening.Opening.{Opening}
use Rattle.vsw_host.specs.declared.memory_host.MemoryHost.TheInside.{Inside}

abbrev pub opened_of : Option MemoryFile → ℕ → Opened
opened_of None read = record { name = []; bytes = []; read = read }
opened_of (Some f) read = record { name = f.name; bytes = f.bytes; read = read }

abbrev pub all_opened : List MemoryFile → List Opening → List Opened
all_opened files os = map (λ (o : Opening). opened_of (slice_get files o.file) o.read) os

abbrev pub seen : Inside → Memory
seen s = record {
  files = s.files.items;
  opened = all_opened s.files.items s.opened.items;
  put = s.put.items;
  complained = s.complained.items;
  room = s.room;
  most = s.most;
  failing = s.failing.items;
  calls = s.calls;
  input_faults = s.input_faults;
  put_faults = s.put_faults;
  complain_faults = s.complain_faults;
}

-- an opening is of a file that there is, and no more of it was read than it has
abbrev pub IsWithin : List MemoryFile → Opening → Type 0
IsWithin files o = (o.file < length files) × (o.read ≤ length (opened_of (slice_get files o.file) o.read).bytes)

pub record IsSound (s : Inside) : Type 0 where
  pub within : All (IsWithin s.files.items) s.opened.items
  pub most_some : 0 < s.most
  pub opened_room : openings ≤ vec_capacity s.opened
  pub put_room : s.room ≤ vec_capacity s.put
  pub complained_room : s.room ≤ vec_capacity s.complained

-- the file of this name was opened, as one more
pub record OpensNext (files : List MemoryFile) (old new : List Opening) (name : List ℕ) (number : ℕ) : Type 0 where
  pub at : ℕ
  pub placed : place files name ≡ Some at
  pub few : length old < openings
  pub counted : number ≡ length old
  pub added : new ≡ old ++ record { file = at; read = 0 } ∷ []

-- there is no file of this name, or no other may be opened
abbrev pub OpensNone : List MemoryFile → List Opening → List ℕ → Type 0
OpensNone files old name = (place files name ≡ None) ⊎ (openings ≤ length old)

-- the next bytes of the file of this number were read to the front of the buffer, so many at most
pub record ReadsNext (files : List MemoryFile) (old new : List Opening) (most number : ℕ) (buffer : List ℕ) (count : ℕ) : Type 0 where
  pub opening : Opening
  pub file : MemoryFile
  pub found : slice_get old number ≡ Some opening
  pub held : slice_get files opening.file ≡ Some file
  pub inside : opening.read ≤ length file.bytes
  pub counted : count ≡ min (min (length buffer) most) (length file.bytes - opening.read)
  pub front : take count buffer ≡ take count (drop opening.read file.bytes)
  pub moved : new ≡ slice_set old number (record opening { read = opening.read + count })
