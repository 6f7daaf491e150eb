use Rattle.std.proofs.Common.{◌<◌, length, arith}
use Rattle.vsw_pcap.specs.declared.capture.Record.{Record}
use Rattle.vsw_engine.proofs.Lines.{lines_more}
use Rattle.vsw_engine.proofs.line.write_lines.Goals as goal

pub loop-place-preserved : goal.loop-place-preserved
loop-place-preserved c =
    let n = c.loop-place.place in
    let r : Record = record { moment = c.at.result.moment; original = c.at.result.original; bytes = c.at.result.bytes.now } in
    let within : n < length c.args.batch.now = omega (arith, c.loop-place-test.true, c.len-place-end.ensures, c.loop-place.auto.place-end) in
    record {
      lines = lines_more c.args.rows.now c.args.first n c.args.batch.now r c.loop-place.desk.text c.write_line.new.text within c.at.ensures c.loop-place.invariant.lines c.in_ok-write_line.ensures.adds;
      room = c.write_line.ensures.room;
    }
