-- Headers in an array of nine, with anything behind them.
use Rattle.std.specs.Prelude.{◌≤◌, List, take}
use Rattle.vsw_base.specs.declared.header.Header.{Header}
use Rattle.vsw_base.specs.declared.headers.Headers.TheInside.{Inside}

abbrev pub seen : Inside → List Header
seen s = take s.len s.items

-- as many headers as said
abbrev pub IsWithin : Inside → Type 0
IsWithin s = s.len ≤ 9
