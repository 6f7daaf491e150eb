use Rattle.std.proofs.Common.{◌≡◌, List, ◌++◌, ◌∷◌, [], length, ◌∙◌, ap, arith, rules}
use Rattle.vsw_pcap.specs.declared.batch.Mark.{Mark}
use Rattle.vsw_pcap.specs.declared.capture.Record.{Record}
use Rattle.vsw_pcap.proofs.Marked.{within_push, all_marked-push}
use Rattle.vsw_pcap.proofs.batch.Batch.push.Goals as goal

pub invariant_of-self-else-is_err : goal.invariant_of-self-else-is_err
invariant_of-self-else-is_err c =
    let m : Mark = record { moment = c.args.moment; original = c.args.original; begin = c.len-begin.result; end = c.len-end.result } in
    let bytes : c.append.new.bytes.items ≡ c.self.inside.bytes.items ++ c.args.bytes.now = (search rules) in
    let marks : c.append_mark.new.marks.items ≡ c.self.inside.marks.items ++ m ∷ [] = (search rules) in
    let begin : m.begin ≡ length c.self.inside.bytes.items = omega arith in
    let end : m.end ≡ length (c.self.inside.bytes.items ++ c.args.bytes.now) = omega (arith, ap length bytes) in
    rw (bytes, marks) (within_push _ _ _ m c.self.invariant begin end)

pub returns-clause-ok : goal.returns-clause-ok
returns-clause-ok c =
    let m : Mark = record { moment = c.args.moment; original = c.args.original; begin = c.len-begin.result; end = c.len-end.result } in
    let bytes : c.append.new.bytes.items ≡ c.self.inside.bytes.items ++ c.args.bytes.now = (search rules) in
    let marks : c.append_mark.new.marks.items ≡ c.self.inside.marks.items ++ m ∷ [] = (search rules) in
    let begin : m.begin ≡ length c.self.inside.bytes.items = omega arith in
    let end : m.end ≡ length (c.self.inside.bytes.items ++ c.args.bytes.now) = omega (arith, ap length bytes) in
    rw (bytes, marks) (all_marked-push _ _ _ m c.self.invariant begin end ∙ ap (λ (t : List Record). t ++ record { moment = c.args.moment; original = c.args.original; bytes = c.args.bytes.now } ∷ []) c.self.view_is)
