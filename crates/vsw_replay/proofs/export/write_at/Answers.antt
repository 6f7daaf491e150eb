use Rattle.vsw_replay.proofs.Exporting.{writes_more}
use Rattle.vsw_replay.proofs.export.write_at.Goals as goal

pub returns-clause-writes : goal.returns-clause-writes
returns-clause-writes c = writes_more c.args.switch.now c.args.place c.args.out.now.items c.write_port.new.out.items c.in_ok-rows.rows c.write_port.result c.in_ok-rows.ensures.rows c.write_port.ensures
