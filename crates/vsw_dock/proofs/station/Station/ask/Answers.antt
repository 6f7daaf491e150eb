use Rattle.std.proofs.Common.{refl, subst}
use Rattle.vsw_port.specs.Calls.{Ask}
use Rattle.vsw_live.specs.Calls.{asked}
use Rattle.vsw_rows.specs.GoodRows.{opening_of}
use Rattle.vsw_dock.proofs.Working.{asked_so, counted_on}
use Rattle.vsw_dock.specs.Private.Does.{Does}
use Rattle.vsw_dock.specs.Seen.{StationSeen}
use Rattle.vsw_dock.proofs.station.Station.ask.Goals as goal

pub invariant_of-self : goal.invariant_of-self
invariant_of-self g c =
    let l = c.args.line.now in
    counted_on (opening_of c.args.port.now.looking.1) c.self.inside.pass c.command-told.new.pass (asked l c.command-told.result) c.self.inside.left c.spend.new.left c.self.inside.granted (c.command-told.ensures.crosses l refl refl refl) c.self.invariant c.spend.ensures

pub returns : goal.returns
returns g c =
    let l = c.args.line.now in
    let s = c.self.inside in
    let after : StationSeen = record { pass = c.command-told.new.pass; lines = c.tell_reply.new.lines; whole = c.tell_reply.new.whole } in
    record {
      does = subst (λ (r : StationSeen). Does (opening_of c.args.port.now.looking.1) (Ask l) r after) c.self.view_is
          (asked_so (opening_of c.args.port.now.looking.1) s.pass c.command-told.new.pass s.lines c.tell_reply.new.lines s.whole c.tell_reply.new.whole l c.command-told.result (c.command-told.ensures.crosses l refl refl refl) c.tell_reply.ensures.told);
    }
