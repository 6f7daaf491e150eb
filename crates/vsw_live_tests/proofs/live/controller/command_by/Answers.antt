use Rattle.std.proofs.Common.{refl, true}
use Rattle.vsw_commandfile.specs.declared.line.Line.{Line}
use Rattle.vsw_live.specs.Calls.{asked}
use Rattle.vsw_live_tests.proofs.Passes.{calls_once}
use Rattle.vsw_rows.specs.GoodRows.{opening_of}
use Rattle.vsw_live_tests.proofs.live.controller.command_by.Goals as goal

pub returns : goal.returns
returns g c =
    let l : Line = record { number = 1; at = 0; during = true; controller = 1; port = 1; command = c.args.command.now } in
    record { calls = calls_once (opening_of c.args.port.now.looking.1) c.args.pass.now c.command.new.pass (asked l c.command.result) (c.command.ensures.crosses l refl refl refl) }
