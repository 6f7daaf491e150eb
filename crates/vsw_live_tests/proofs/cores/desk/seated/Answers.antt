use Rattle.std.proofs.Common.{◌+◌, ◌∙◌, ap, ℕ}
use Rattle.vsw_core.proofs.Begins.{pass_begins}
use Rattle.vsw_flows.specs.Flows.{Writing}
use Rattle.vsw_live_tests.proofs.cores.desk.seated.Goals as goal

pub controller_of-controller-requires-clause-begins : goal.controller_of-controller-requires-clause-begins
controller_of-controller-requires-clause-begins c =
    let is = c.pass-worker.ensures.writer in (
      pass_begins c.args.lookup.now.1 c.args.writer c.pass-worker.new.self c.requires.begins.0 is,
      ap (λ (v : Writing). v.view.passes) is ∙ ap (λ (n : ℕ). n + 1) c.requires.begins.1,
    )
