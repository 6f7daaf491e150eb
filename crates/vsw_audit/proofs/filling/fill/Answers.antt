use Rattle.std.proofs.Common.{◌∙◌, sym, subst, [], ◌++◌, false}
use Rattle.vsw_audit.specs.Private.Rounds.{asked_jobs}
use Rattle.vsw_audit.specs.Private.Tasks.{AreTasks}
use Rattle.vsw_audit.proofs.Dealt.{filled}
use Rattle.vsw_audit.proofs.filling.fill.Goals as goal

pub returns : goal.returns
returns c = record {
  tasks = λ s workers macs packets same known place st e.
      let before = asked_jobs false c.args.files.now.commands.now c.args.first c.args.number in
      let none = subst (λ v. AreTasks s v []) (sym c.clear.ensures.items) tt in
      let one = c.in_ok-add_commands.ensures s [] same known none in
      let two = c.in_ok-add_commands-2.ensures s ([] ++ before) same known one in
      filled s workers macs c.args.files.now.commands.now c.args.first c.args.number c.args.port c.len-split.result packets c.args.aims.now c.add_commands.new.tasks.items c.add_commands-2.new.tasks.items c.add_packets.new.tasks.items same place st e
      one (c.len-split.ensures ∙ c.add_commands.new.tasks.ok.0) two c.in_ok-add_packets.ensures;
}
