-- Headers with the checksums that other programs gave them. Each is written as hexadecimal text.
use Rattle.std.specs.Prelude.{ℕ, List, codes}
use Rattle.vsw_base.specs.Hexadecimal.{spelled}
use Rattle.vsw_header.specs.IpRight.{IsRight}

-- from 10.0.0.5 to 10.0.0.9, and two bytes of what follows
abbrev pub plain_header : List ℕ
plain_header = spelled (codes "4500001e00004000401126c20a0000050a00000904d2")

-- of Linux, with the option Record Route
abbrev pub options_header : List ℕ
options_header = spelled (codes "4700002b9a044000401190357f0000017f0000010707087f00000100")

abbrev pub PlainIsRight : Type 0
PlainIsRight = IsRight plain_header

abbrev pub OptionsAreRight : Type 0
OptionsAreRight = IsRight options_header
