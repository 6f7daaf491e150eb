use Rattle.std.proofs.Common.{rules}
use Rattle.vsw_dock.proofs.Steps.{each_there}
use Rattle.vsw_dock.specs.Opening.{rows_in}
use Rattle.vsw_harbour.specs.Harbour.{MayAsk}
use Rattle.vsw_harbour.proofs.Turning.{first_within, later_places, more_places, no_places}
use Rattle.vsw_harbour.proofs.before.+ask_each.Goals as goal

pub line-requires : goal.line-requires
line-requires g t c = first_within c.args.schedule.now c.in-Some.first.now c.in-Some.later.now c.args.places.now c.requires.places.0 c.in-Some.ensures.cases.0 c.requires.places.1

pub ask_if-requires-clause-line : goal.ask_if-requires-clause-line
ask_if-requires-clause-line g t c = each_there (MayAsk c.args.harbour.now) c.args.schedule.now c.in-Some.first.now c.line.result.now c.line.ensures c.requires.lines

pub ask_each-requires : goal.ask_each-requires
ask_each-requires g t c = λ κs within.
    (search rules, (search rules, (search rules, (search rules, (c.in_ok-ask_if.ensures.may, (c.requires.lines, later_places c.args.schedule.now c.in-Some.first.now c.in-Some.later.now c.args.places.now c.in-Some.ensures.cases.0 c.requires.places))))))

pub returns-in_ok-ask_each-clause-turned : goal.returns-in_ok-ask_each-clause-turned
returns-in_ok-ask_each-clause-turned g t c =
    more_places c.args.harbour.now c.args.schedule.now c.in-Some.first.now c.in-Some.later.now c.args.places.now c.line.result.now (rows_in c.args.rows.now) (rows_in c.ask_if.new.rows) (rows_in c.ask_each.new.rows) c.in-Some.ensures.cases.0 c.line.ensures c.in_ok-ask_if.ensures.turned c.in_ok-ask_each.ensures.turned

pub returns-in_default-clause-turned : goal.returns-in_default-clause-turned
returns-in_default-clause-turned g t c = no_places c.args.harbour.now c.args.schedule.now c.args.places.now (rows_in c.args.rows.now) c.in_default.ensures.cases
