-- When an inner field differs, by which a kept encapsulation loses its UDP checksum.
use Rattle.std.specs.Prelude.{◌≡◌, ◌↔◌, List, false}
use Rattle.vsw_base.specs.declared.header.Header.{Header}
use Rattle.vsw_frame.specs.Differ.{differ}
use Rattle.vsw_frame.specs.Bytes.{AreLike}

-- no field differs of headers that keep their kinds exactly where they are the same headers
abbrev pub DifferTells : Type 0
DifferTells = (from to : List Header) → AreLike from to → (differ from to ≡ false) ↔ (from ≡ to)
