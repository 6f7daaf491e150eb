use Rattle.std.proofs.Common.{subst}
use Rattle.vsw_port.specs.History.{replay}
use Rattle.vsw_live.specs.declared.answer.Fast.TheVariants.{Done}
use Rattle.vsw_live.specs.Calls.{IsFast}
use Rattle.vsw_live.specs.Ports.{PortSeen}
use Rattle.vsw_live.proofs.Answered.{met_edits, met_fate, met_own}
use Rattle.vsw_live.proofs.Fasts.{done_fast, fate_read}
use Rattle.vsw_rows.specs.GoodRows.{opening_of}
use Rattle.vsw_live.proofs.live.LivePort.fast.Goals as goal

pub leave-requires : goal.leave-requires
leave-requires g c =
    let l = c.self.inside.lookup in
    let t = c.in-Read.ensures.tells in
    let ls = replay (opening_of l.1) c.answer_by_row.new.pass.view.front in
    record {
      answered = (
        ls,
        met_fate ls c.crossing.result.now c.args.unit.now.crossing c.in-Read.outcome.fate c.crossing.ensures (fate_read l c.crossing.result.now c.answer_by_row.new.pass c.answer_by_row.new.desk c.in-Read.outcome c.in-Read.count c.args.unit.now t),
        met_edits ls c.crossing.result.now c.args.unit.now.crossing c.answer_by_row.new.desk c.edited.result.now c.in-Read.outcome.kept c.in-Read.outcome.fate c.crossing.ensures c.edited.ensures t.edits,
      );
      own = met_own c.crossing.result.now c.args.unit.now.crossing c.answer_by_row.new.desk c.edited.result.now c.in-Read.outcome.kept c.in-Read.outcome.own c.crossing.ensures c.edited.ensures t.own;
    }

pub returns-in-Read-clause-fast : goal.returns-in-Read-clause-fast
returns-in-Read-clause-fast g c =
    let l = c.self.inside.lookup in
    let t = c.in-Read.ensures.tells in
    let ls = replay (opening_of l.1) c.answer_by_row.new.pass.view.front in
    let shows = c.leave.ensures.shows ls (met_fate ls c.crossing.result.now c.args.unit.now.crossing c.in-Read.outcome.fate c.crossing.ensures (fate_read l c.crossing.result.now c.answer_by_row.new.pass c.answer_by_row.new.desk c.in-Read.outcome c.in-Read.count c.args.unit.now t))
    (met_edits ls c.crossing.result.now c.args.unit.now.crossing c.answer_by_row.new.desk c.edited.result.now c.in-Read.outcome.kept c.in-Read.outcome.fate c.crossing.ensures c.edited.ensures t.edits) in
    subst (λ (s : PortSeen). IsFast s.looking c.args.unit.now c.args.pass.now c.answer_by_row.new.pass c.leave.new.room (Done c.of.result)) c.self.view_is
    (done_fast l c.args.pass.now c.answer_by_row.new.pass c.args.unit.now c.crossing.result.now c.answer_by_row.new.desk c.in-Read.outcome c.in-Read.count c.leave.new.room c.of.result c.crossing.ensures c.in-Read.ensures.same.1 c.in-Read.ensures.same.0 t c.in-Read.ensures.sees shows c.of.ensures)
