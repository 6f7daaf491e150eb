use Rattle.std.proofs.Common.{rules, subst}
use Rattle.vsw_live.specs.Ports.{PortSeen}
use Rattle.vsw_live.specs.Private.Locked.{CrossesSo, IsFateAt, layers_met}
use Rattle.vsw_rows.specs.GoodRows.{opening_of}
use Rattle.vsw_live.proofs.live.LivePort.cross.Goals as goal

pub cross-requires-clause-port : goal.cross-requires-clause-port
cross-requires-clause-port g c = (c.self.inside.passes, search rules)

pub returns-clause-crosses : goal.returns-clause-crosses
returns-clause-crosses g c = subst (λ (s : PortSeen). CrossesSo (opening_of s.looking.1) c.args.pass.now c.cross.new.pass c.args.crossing.now c.cross.result.0 c.cross.result.1) c.self.view_is c.cross.ensures.crosses

pub returns-clause-fate : goal.returns-clause-fate
returns-clause-fate g c = subst (λ (s : PortSeen). IsFateAt (layers_met (opening_of s.looking.1) c.cross.new.pass.view c.cross.result.1) c.args.crossing.now c.cross.result.0.fate) c.self.view_is c.cross.ensures.fate
