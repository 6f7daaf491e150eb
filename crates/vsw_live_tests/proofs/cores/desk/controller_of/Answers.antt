use Rattle.std.proofs.Common.{◌+◌, ◌∙◌, ap, ℕ}
use Rattle.vsw_core.proofs.Begins.{pass_begins}
use Rattle.vsw_flows.specs.Flows.{Writing}
use Rattle.vsw_live_tests.proofs.cores.desk.controller_of.Goals as goal

pub loop-number-preserved : goal.loop-number-preserved
loop-number-preserved c =
    let is = c.pass-worker.ensures.writer in (
      ap (λ (v : Writing). v.table) is ∙ c.loop-number.invariant.0,
      pass_begins c.args.lookup.now.1 c.loop-number.writer c.pass-worker.new.self c.loop-number.invariant.1 is,
      ap (λ (v : Writing). v.view.passes) is ∙ ap (λ (n : ℕ). n + 1) c.loop-number.invariant.2,
    )

pub returns-clause-begins : goal.returns-clause-begins
returns-clause-begins c = pass_begins c.args.lookup.now.1 c.loop-number.writer c.pass.new.self c.loop-number.invariant.1 c.pass.ensures.writer
