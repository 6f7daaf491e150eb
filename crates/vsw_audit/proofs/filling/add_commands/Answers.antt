use Rattle.std.proofs.Common.{◌≡◌, ◌++◌}
use Rattle.vsw_promise.specs.Schedule.{commands_at}
use Rattle.vsw_audit.specs.Private.Rounds.{asked_jobs, tasks_asked}
use Rattle.vsw_audit.specs.Private.Tasks.{AreTasks}
use Rattle.vsw_audit.proofs.Dealt.{commands_added, places_within}
use Rattle.vsw_audit.proofs.Judging.{on_ok}
use Rattle.vsw_audit.proofs.filling.add_commands.Goals as goal

pub add_at-requires-clause-within : goal.add_at-requires-clause-within
add_at-requires-clause-within c = places_within c.args.files.now.commands.now (commands_at c.args.first c.args.files.now.commands.now) c.places-places.result.now c.places-places.ensures

pub returns : goal.returns
returns c = λ s js same known a.
    on_ok c.add_at.result (c.add_at.new.tasks.items ≡ c.args.tasks.now.items ++ tasks_asked c.args.files.now.commands.now c.args.files.now.controllers.now c.args.number c.args.during c.places-places.result.now) (AreTasks s c.add_at.new.tasks.items (js ++ asked_jobs c.args.during c.args.files.now.commands.now c.args.first c.args.number))
    (λ more. commands_added s c.args.files.now.controllers.now c.args.files.now.commands.now c.args.first c.args.number c.args.during c.places-places.result.now c.args.tasks.now.items c.add_at.new.tasks.items js same known c.places-places.ensures more a) c.add_at.ensures
