use Rattle.std.proofs.Common.{◌<◌, sym, ◌∙◌, arith, length, length-set}
use Rattle.vsw_crew.specs.Texts.{caller_at}
use Rattle.vsw_crew.proofs.Steps.{made_next, row_taken}
use Rattle.vsw_crew.proofs.port.take_team.Goals as goal

pub loop-k-preserved : goal.loop-k-preserved
loop-k-preserved c =
    let l = c.loop-k in
    let place = c.args.place in
    let lt : l.k < length l.rows = omega (arith, c.loop-k-test.true, l.auto.k-end, l.auto.rows) in
    let row = c.index-rows-k.result in
    let taken = c.take.ensures in
    record {
      same = length-set _ _ _ ∙ (l.invariant.same ∙ sym (length-set _ _ _));
      team = made_next (caller_at place) l.team l.rows l.k row c.take.new.self c.take.result lt l.invariant.same taken.taken ∙ l.invariant.team;
      rows = row_taken place l.rows l.k row c.take.new.self lt taken.rest ∙ l.invariant.rows;
    }
