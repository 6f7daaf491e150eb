use Rattle.std.proofs.Common.{◌∷◌, [], ◌++◌}
use Rattle.vsw_base.specs.Frame.{ports}
use Rattle.vsw_frame.specs.Seen.{end_fields, opened_fields}
use Rattle.vsw_frame.proofs.LevelsOf.{level_is}
use Rattle.vsw_frame.proofs.found.plain.Goals as goal

pub returns-clause-parts : goal.returns-clause-parts
returns-clause-parts c = λ front e. λ j. record {
  stack = front ++ ports (end_fields c.args.opened.now.end);
  control = c.control.ensures j;
  levels = level_is c.args.bytes.now (opened_fields front c.args.opened.now) e j ∷ [];
  payload = c.payload.ensures j;
}
