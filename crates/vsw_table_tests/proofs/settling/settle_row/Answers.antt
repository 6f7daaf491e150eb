use Rattle.std.proofs.Common.{ap, ◌∙◌}
use Rattle.vsw_table.specs.Rules.{stamp_at}
use Rattle.vsw_table_tests.proofs.Told.{shaken_none}
use Rattle.vsw_table_tests.proofs.settling.settle_row.Goals as goal

pub returns-then-not-is_told-clause-kept : goal.returns-then-not-is_told-clause-kept
returns-then-not-is_told-clause-kept c = λ ne. absurd (ne (ap (λ w. stamp_at w.view.stamps c.args.row) c.shake.ensures ∙ shaken_none c.word-last.new.self.view.stamps c.args.row))
