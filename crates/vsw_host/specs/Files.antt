-- Files by their names.
use Rattle.std.specs.Prelude.{ℕ, List, [], ◌∷◌, Bool, true, not, ◌&&◌, Option, option_map, find, position, bytes_eq}
use Rattle.std.specs.List.{list_any}
use Rattle.vsw_host.specs.declared.memory_file.MemoryFile.{MemoryFile}

abbrev pub is_named : List ℕ → MemoryFile → Bool
is_named name f = bytes_eq f.name name

-- what the file of this name holds, if there is one
abbrev pub held : List MemoryFile → List ℕ → Option (List ℕ)
held files name = option_map (λ (f : MemoryFile). f.bytes) (find (is_named name) files)

-- the place of the file of this name, if there is one
abbrev pub place : List MemoryFile → List ℕ → Option ℕ
place files name = position (is_named name) files

-- no two files have the same name
abbrev pub are_distinct : List MemoryFile → Bool
are_distinct [] = true
are_distinct (f ∷ fs) = not (list_any (is_named f.name) fs) && are_distinct fs
