use Rattle.std.proofs.Common.{◌≡◌, ◌≤◌, ◌+◌, ◌++◌, suc, length, Ok}
use Rattle.vsw_config.specs.Fault.{◌>>=◌}
use Rattle.vsw_commandfile.specs.Lines.{lines_of}
use Rattle.vsw_commandfile.specs.Commands.{lines_from}
use Rattle.vsw_commandfile.proofs.read.read_lines.Given as goal

-- the lines so far, and then the rest
abbrev pub invariant-loop-text : goal.invariant-loop-text
invariant-loop-text l =
    (goal.iterator-loop-text).can_next l.text-iterator ×
    (goal.iterator-loop-text).is_finite l.text-iterator ×
    ((lines_from l.policy (suc l.number) (lines_of l.text-iterator.rest.now) >>= (λ lines. Ok (l.lines ++ lines))) ≡ lines_from l.policy 1 (lines_of l.fn.bytes)) ×
    (l.number + length (lines_of l.text-iterator.rest.now) ≤ 65536)
