use Rattle.vsw_hairpin.proofs.Laws.{turns_hand_on}
use Rattle.vsw_promise.specs.Schedule.{commands_at}
use Rattle.vsw_report.specs.Whole.{whole_text}
use Rattle.vsw_switch.proofs.Asking.{places_within}
use Rattle.vsw_switch.proofs.Running.{runs, runs_from}
use Rattle.vsw_switch.proofs.round.run_round.Goals as goal

pub ask_all-requires-clause-places : goal.ask_all-requires-clause-places
ask_all-requires-clause-places g c = places_within c.args.schedule.now (commands_at c.args.first c.args.schedule.now) c.places-places.result.now c.places-places.ensures

pub ask_all-requires-2-clause-places : goal.ask_all-requires-2-clause-places
ask_all-requires-2-clause-places g c = places_within c.args.schedule.now (commands_at c.args.first c.args.schedule.now) c.places-places.result.now c.places-places.ensures

pub returns-clause-runs : goal.returns-clause-runs
returns-clause-runs g c =
    let before = c.take_rooms.new in
    runs_from c.args.first c.args.schedule.now c.args.packets.now c.args.switch.now before.self c.close.new.self c.close.result (whole_text c.args.out.now) (whole_text before.out) (whole_text c.close.new.out) c.take_rooms.ensures.same c.take_rooms.ensures.text
    (runs turns_hand_on c.args.first c.args.schedule.now c.places-places.result.now c.args.packets.now before.self c.ask_all.new.switch c.ask_all-2.new.switch c.forward_all.new.switch c.close.new.self c.close.result (whole_text before.out) (whole_text c.close.new.out) c.places-places.ensures
    c.in_ok-ask_all.ensures.asked c.in_ok-ask_all-2.ensures.asked c.in_ok-forward_all.ensures.forwarded c.close.ensures.text c.close.ensures.short c.close.ensures.next c.close.ensures.apart)
