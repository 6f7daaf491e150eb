use Rattle.vsw_live.specs.Private.Locked.{layers_met}
use Rattle.vsw_live.proofs.Answered.{answered, met_edits, met_fate, met_own}
use Rattle.vsw_rows.specs.GoodRows.{opening_of}
use Rattle.vsw_live.proofs.live.LivePort.answer.Goals as goal

pub leave-requires : goal.leave-requires
leave-requires g c = record {
  answered = (
    layers_met (opening_of c.args.self.now.looking.1) c.cross-count.new.pass.view c.cross-count.result.1,
    met_fate (layers_met (opening_of c.args.self.now.looking.1) c.cross-count.new.pass.view c.cross-count.result.1) c.crossing.result.now c.args.unit.now.crossing c.cross-count.result.0.fate c.crossing.ensures c.cross-count.ensures.fate,
    met_edits (layers_met (opening_of c.args.self.now.looking.1) c.cross-count.new.pass.view c.cross-count.result.1) c.crossing.result.now c.args.unit.now.crossing c.cross-count.new.desk c.edited.result.now c.cross-count.result.0.kept c.cross-count.result.0.fate c.crossing.ensures c.edited.ensures c.cross-count.ensures.edits,
  );
  own = met_own c.crossing.result.now c.args.unit.now.crossing c.cross-count.new.desk c.edited.result.now c.cross-count.result.0.kept c.cross-count.result.0.own c.crossing.ensures c.edited.ensures c.cross-count.ensures.own;
}

pub returns-clause-crosses : goal.returns-clause-crosses
returns-clause-crosses g c =
    let ls = layers_met (opening_of c.args.self.now.looking.1) c.cross-count.new.pass.view c.cross-count.result.1 in
    answered (opening_of c.args.self.now.looking.1) c.args.pass.now c.cross-count.new.pass c.args.unit.now c.crossing.result.now c.cross-count.result.0 c.cross-count.result.1 c.leave.new.room c.of.result c.args.why c.crossing.ensures c.of.ensures c.cross-count.ensures.crosses
    (c.leave.ensures.shows ls (met_fate ls c.crossing.result.now c.args.unit.now.crossing c.cross-count.result.0.fate c.crossing.ensures c.cross-count.ensures.fate)
    (met_edits ls c.crossing.result.now c.args.unit.now.crossing c.cross-count.new.desk c.edited.result.now c.cross-count.result.0.kept c.cross-count.result.0.fate c.crossing.ensures c.edited.ensures c.cross-count.ensures.edits))
