use Rattle.std.proofs.Common.{◌≡◌, rules, subst}
use Rattle.vsw_commandfile.specs.declared.line.Line.{Line}
use Rattle.vsw_live.specs.Calls.{Crosses, asked}
use Rattle.vsw_live.specs.Ports.{PortSeen}
use Rattle.vsw_rows.specs.GoodRows.{opening_of}
use Rattle.vsw_live.proofs.live.LivePort.command.Goals as goal

pub command-told-requires-clause-port : goal.command-told-requires-clause-port
command-told-requires-clause-port g c = (c.self.inside.passes, search rules)

pub returns : goal.returns
returns g c = record { crosses = subst (λ (s : PortSeen). (l : Line) → l.number ≡ c.args.line → l.controller ≡ c.args.controller → l.command ≡ c.args.command.now → Crosses (opening_of s.looking.1) c.args.pass.now c.command-told.new.pass (asked l c.command-told.result)) c.self.view_is c.command-told.ensures.crosses }
