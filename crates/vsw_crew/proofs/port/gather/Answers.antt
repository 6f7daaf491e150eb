use Rattle.std.proofs.Common.{◌≡◌, ◌-◌, ◌++◌, ap, ◌∙◌, arith, length, length-take-le, drop, take, List}
use Rattle.std.proofs.lemmas.List.{take_rest}
use Rattle.std.proofs.lemmas.Result.{on_ok_weaker}
use Rattle.std.specs.List.{flat_map}
use Rattle.vsw_report.specs.Line.{TextLine}
use Rattle.vsw_crew.specs.Private.Port.{pair_at}
use Rattle.vsw_crew.proofs.Steps.{behind, front_gone, length_gone, part_gone}
use Rattle.vsw_crew.proofs.port.gather.Goals as goal

pub returns-clause-controllers : goal.returns-clause-controllers
returns-clause-controllers c =
    let lines = c.args.lines.now in
    let rows = c.take_team.new.rows in
    let all : List (List (List TextLine)) = rows ++ drop c.args.workers lines in
    let many : length rows ≡ c.args.workers = length_gone c.args.place rows (take c.args.workers lines) c.take_team.ensures.rows ∙ length-take-le c.args.workers lines (omega (arith, c.requires.few, c.requires.rows)) in
    let later : take (length all - 16) (drop 16 all) ≡ drop 16 lines = take_rest all 16 ∙ behind c.args.workers rows lines c.requires.few many in
    on_ok_weaker c.take_controllers.result
    (λ told. told ∙ (ap (λ (o : List (List TextLine)). o ++ flat_map (pair_at c.args.place c.args.firsts.now (take (length all - 16) (drop 16 all))) c.args.places.now) c.clear.ensures.items ∙ ap (λ (ls : List (List (List TextLine))). flat_map (pair_at c.args.place c.args.firsts.now ls) c.args.places.now) later))
    c.take_controllers.ensures.told

pub returns-clause-lines : goal.returns-clause-lines
returns-clause-lines c =
    let lines = c.args.lines.now in
    let rows = c.take_team.new.rows in
    let all : List (List (List TextLine)) = rows ++ drop c.args.workers lines in
    on_ok_weaker c.take_controllers.result (λ gone. part_gone c.args.place 16 (length all - 16) all c.take_controllers.new.laters gone ∙ front_gone c.args.place c.args.workers rows lines c.take_team.ensures.rows) c.take_controllers.ensures.laters
