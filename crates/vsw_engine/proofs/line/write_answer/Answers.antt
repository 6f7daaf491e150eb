use Rattle.std.proofs.Common.{◌≡◌, ap, ◌∙◌}
use Rattle.std.specs.Prelude.{[], None, Some, get_or}
use Rattle.vsw_frame.specs.Frame.{parts}
use Rattle.vsw_offload.specs.Answered.{bytes_told}
use Rattle.vsw_offload.specs.Rows.{numbers_of}
use Rattle.vsw_promise.specs.Jobs.{crossing_by}
use Rattle.vsw_engine.proofs.Answers.{answer_added, is_packet}
use Rattle.vsw_engine.proofs.Parts.{on_ok}
use Rattle.vsw_engine.proofs.line.write_answer.Goals as goal

pub returns-in-None-clause-adds : goal.returns-in-None-clause-adds
returns-in-None-clause-adds c =
    let p = parts c.args.frame.now in
    let x = crossing_by 0 c.args.packet c.args.place c.args.moment p in
    let port : c.number_at-number.result ≡ get_or (numbers_of c.args.rows.now) c.args.place.port 0 = c.number_at-number.ensures ∙ ap (λ ns. get_or ns c.args.place.port 0) c.ports.ensures.numbers in
    on_ok c.none_line.result _ _ (answer_added c.args.rows.now c.args.packet c.args.moment c.args.place p c.number_at-number.result None [] c.args.text.now c.none_line.new.text port (c.in-None.ensures.answered x (is_packet c.args.packet c.args.place c.args.moment p))) c.none_line.ensures

pub returns-in-Some-clause-adds : goal.returns-in-Some-clause-adds
returns-in-Some-clause-adds c =
    let p = parts c.args.frame.now in
    let x = crossing_by 0 c.args.packet c.args.place c.args.moment p in
    let port : c.number_at-number.result ≡ get_or (numbers_of c.args.rows.now) c.args.place.port 0 = c.number_at-number.ensures ∙ ap (λ ns. get_or ns c.args.place.port 0) c.ports.ensures.numbers in
    let bytes = bytes_told c.in-Some.given.own p c.in-Some.given.fate c.answer.new.out.items in
    on_ok c.write_given.result _ _ (answer_added c.args.rows.now c.args.packet c.args.moment c.args.place p c.number_at-number.result (Some c.in-Some.given.fate) bytes c.args.text.now c.write_given.new.text port (c.in-Some.ensures.answered x (is_packet c.args.packet c.args.place c.args.moment p))) c.write_given.ensures
