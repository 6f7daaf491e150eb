use Rattle.std.proofs.Common.{Ok, take}
use Rattle.std.specs.List.{concat}
use Rattle.vsw_host.specs.Outside.{DoesPut}
use Rattle.vsw_replay.proofs.sheets.put_sheets.Given as goal

abbrev pub invariant-loop-place : goal.invariant-loop-place
invariant-loop-place g l = DoesPut (g.H.Host.outside l.fn.host) (g.H.Host.outside l.host) (concat (take l.place l.sheets)) (Ok tt)
