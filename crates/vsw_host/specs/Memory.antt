-- What a host in memory is to its callers, and what each call makes of it. Calls are numbered together
-- from 1, and those whose numbers stand in `failing` fail. A fault reads, opens and appends nothing.
use Rattle.std.specs.Prelude.{ℕ, ◌+◌, ◌-◌, ◌^◌, ◌==◌, ◌&&◌, min, List, [], ◌∷◌, ◌++◌, length, slice_get, slice_set, Bool, not, nat_le, nat_lt, Some, is_some, unwrap_or, Result, Ok, Err, ⊤}
use Rattle.std.specs.List.{list_any}
use Rattle.std.specs.Option.{option_map_or}
use Rattle.vsw_host.specs.Outside.{Opened, Outside}
use Rattle.vsw_host.specs.Files.{held}
use Rattle.vsw_host.specs.declared.host.Failed.{Failed}
use Rattle.vsw_host.specs.declared.memory_file.MemoryFile.{MemoryFile}

pub record Memory : Type 0 where
  pub files : List MemoryFile
  pub opened : List Opened
  pub put : List ℕ
  pub complained : List ℕ
  -- bytes that may be put, and as many may be complained
  pub room : ℕ
  -- bytes that one read gives at most
  pub most : ℕ
  -- the numbers of the calls that fail
  pub failing : List ℕ
  -- how many calls were made
  pub calls : ℕ
  pub input_faults : ℕ
  pub put_faults : ℕ
  pub complain_faults : ℕ

abbrev pub outside : Memory → Outside
outside m = record {
  inputs = Some (record { files = held m.files; opened = m.opened });
  opens = length m.opened;
  put = Some m.put;
  complained = Some m.complained;
  input_faults = m.input_faults;
  put_faults = m.put_faults;
  complain_faults = m.complain_faults;
}

-- a host that was just made
abbrev pub made : List MemoryFile → ℕ → List ℕ → Memory
made files room failing = record {
  files = files;
  opened = [];
  put = [];
  complained = [];
  room = room;
  most = 2 ^ 64 - 1;
  failing = failing;
  calls = 0;
  input_faults = 0;
  put_faults = 0;
  complain_faults = 0;
}

-- one more, up to the greatest number that a count can show
abbrev pub raised : ℕ → ℕ
raised n = min (n + 1) (2 ^ 64 - 1)

abbrev pub contains : List ℕ → ℕ → Bool
contains ns n = list_any (λ k. k == n) ns

-- the next call is one that fails
abbrev pub fails : Memory → Bool
fails m = contains m.failing (raised m.calls)

-- files that may be opened
abbrev pub openings : ℕ
openings = 16

-- the next call opens the file of this name: it isn't to fail, and there are such a file and room for it
abbrev pub may_open : Memory → List ℕ → Bool
may_open m name = not (fails m) && nat_lt (length m.opened) openings && is_some (held m.files name)

abbrev pub after_open : Memory → List ℕ → Result ℕ Failed → Memory
after_open m name (Err e) = record m { calls = raised m.calls; input_faults = raised m.input_faults }
after_open m name (Ok n) = record m { calls = raised m.calls; opened = m.opened ++ record { name = name; bytes = unwrap_or (held m.files name) []; read = 0 } ∷ [] }

-- bytes that the file of this number has for a buffer of this size
abbrev pub next_count : Memory → ℕ → ℕ → ℕ
next_count m number size = option_map_or (λ (file : Opened). min (min size m.most) (length file.bytes - file.read)) (slice_get m.opened number) 0

-- so many more bytes of the file of this number were read
abbrev pub read_on : List Opened → ℕ → ℕ → List Opened
read_on opened number n = option_map_or (λ (file : Opened). slice_set opened number (record file { read = file.read + n })) (slice_get opened number) opened

abbrev pub after_read : Memory → ℕ → Result ℕ Failed → Memory
after_read m number (Err e) = record m { calls = raised m.calls; input_faults = raised m.input_faults }
after_read m number (Ok n) = record m { calls = raised m.calls; opened = read_on m.opened number n }

-- the next call appends these bytes to those that were written: it isn't to fail, and they fit the room
abbrev pub may_write : Memory → List ℕ → List ℕ → Bool
may_write m written bytes = not (fails m) && nat_le (length written + length bytes) m.room

abbrev pub after_put : Memory → List ℕ → Result ⊤ Failed → Memory
after_put m bytes (Err e) = record m { calls = raised m.calls; put_faults = raised m.put_faults }
after_put m bytes (Ok u) = record m { calls = raised m.calls; put = m.put ++ bytes }

abbrev pub after_complain : Memory → List ℕ → Result ⊤ Failed → Memory
after_complain m bytes (Err e) = record m { calls = raised m.calls; complain_faults = raised m.complain_faults }
after_complain m bytes (Ok u) = record m { calls = raised m.calls; complained = m.complained ++ bytes }
