-- One packet, and none.
use Rattle.std.specs.Prelude.{[], ◌∷◌, codes}
use Rattle.vsw_promise.specs.Sample.{IsReport, captured, sample_setting}

-- the plain frame passes unchanged
abbrev pub OnePacket : Type 0
OnePacket = IsReport (sample_setting []) (captured 0 ∷ []) (codes "vsw report 1\nround 0\nport 1 0 0\nw0 0 @0 pass 44 02000000009902000000000108004500001e00004000401126c20a0000050a00000904d20035000a7e5c6869\nloose\n")

-- a trace without records has one round
abbrev pub NoPacket : Type 0
NoPacket = IsReport (sample_setting []) [] (codes "vsw report 1\nround 0\nport 1 0 0\nloose\n")
