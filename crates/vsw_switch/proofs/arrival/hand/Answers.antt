use Rattle.std.proofs.Common.{ℕ, List, map, OnOk, subst}
use Rattle.vsw_promise.specs.Jobs.{handed_on, second_job}
use Rattle.vsw_report.specs.declared.told.What.TheVariants as what
use Rattle.vsw_switch.specs.Does.{DoesAll}
use Rattle.vsw_switch.proofs.arrival.hand.Goals as goal

pub returns-clause-does : goal.returns-clause-does
returns-clause-does g c =
    let first = c.args.first.now in
    let P : List ℕ → Type 0 = λ bytes. OnOk c.receive.result (DoesAll (map (second_job first.caller first.packet first.moment) (handed_on c.args.locals.now (record { port = c.args.from; dir = first.id.dir }) (what.Fate c.args.outcome.fate bytes))) c.args.ports.now.items c.receive.new.ports.items) in
    subst P c.bytes_of-bytes.ensures c.receive.ensures.does
