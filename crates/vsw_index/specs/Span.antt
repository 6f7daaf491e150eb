-- A prefix as the range of its addresses.
use Rattle.std.specs.Prelude.{ℕ, ◌+◌, ◌-◌, ◌*◌, ◌/◌, ◌^◌, nat_le, Option, Some, None, if◌then◌else◌}
use Rattle.vsw_index.specs.declared.placed_prefix.PlacedPrefix.{PlacedPrefix}
use Rattle.vsw_index.specs.declared.span.Span.{Span}

-- how many addresses agree in the prefix's bits
abbrev pub size : PlacedPrefix → ℕ
size p = 2 ^ (32 - p.prefix.bits)

-- from the lowest to the highest address that agrees with the prefix in its first bits
abbrev pub span_of : PlacedPrefix → Option Span
span_of p = if nat_le p.prefix.bits 32
    then Some (record { low = p.prefix.value / size p * size p; high = (p.prefix.value / size p + 1) * size p - 1; place = p.place })
    else None
