use Rattle.std.proofs.Common.{◌<◌, false, ◌++◌, refl, ap, ◌∙◌, arith}
use Rattle.vsw_run.specs.Generated.{alone_under, generated_records}
use Rattle.vsw_promise.specs.Summary.{five_lines}
use Rattle.vsw_replay.specs.declared.run.Run.{Run}
use Rattle.vsw_replay.proofs.Summing.{begins, summarized}
use Rattle.vsw_replay.proofs.run.summarize.Goals as goal

pub returns : goal.returns
returns c = λ policy good at.
    let start = c.args.start in
    let packets = c.args.packets in
    let first : Run = record { workload = c.new-3.result; batch = c.new-4.result; text = c.new-5.result; tally = c.none.result; short = false } in
    let run : Run = c.run_rounds.new.run in
    let events = c.in_ok-events.events in
    let some : 0 < packets = omega (arith, c.requires.some) in
    let g = c.in_ok-run_rounds.ensures.goes (alone_under policy) (generated_records start packets) refl (begins (alone_under policy) start packets first c.args.switch.now c.new-3.ensures refl c.none.ensures at) in
    summarized start packets g.0 policy run c.run_rounds.new.switch events c.five_lines.new.out.items some good g.1 c.in_ok-run_rounds.ensures.end c.in_ok-events.ensures
    (c.in_ok-five_lines.ensures ∙ ap (λ w. w ++ five_lines packets run.tally.pass run.tally.drop events run.tally.bytes) c.requires.empty)
