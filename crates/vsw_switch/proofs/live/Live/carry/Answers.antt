use Rattle.std.proofs.Common.{◌∙◌, ap}
use Rattle.vsw_frame.specs.Frame.{parts}
use Rattle.vsw_answer.specs.Transit.{bytes_in}
use Rattle.vsw_switch.specs.Tally.{both}
use Rattle.vsw_switch.proofs.Answered.{carried}
use Rattle.vsw_switch.proofs.live.Live.carry.Goals as goal

pub returns-clause-makes : goal.returns-clause-makes
returns-clause-makes g c =
    let s = c.self.inside in
    carried s.number s.mac s.before s.port c.reserve.new.port c.transit.new.port s.workers.items c.tell_packet.new.workers.items s.controllers.items s.tally c.in_ok-tally.tally s.last c.args.self.now c.args.crossing.now (parts c.args.frame.now) c.transit.result.fate (bytes_in c.transit.result.own (parts c.args.frame.now) c.transit.result.fate c.transit.new.room) c.transit.result.entry c.in_ok-count.count
    c.self.view_is (c.in_ok-tally.ensures ∙ ap (both s.tally) c.of.ensures) (record { mid_opening = c.reserve.ensures.opening; mid_journal = c.reserve.ensures.journal; count_is = c.in_ok-count.ensures.count; opening = c.transit.ensures.opening; journal = c.transit.ensures.journal })
    c.transit.ensures.next c.requires.worker c.in_ok-tell_packet.ensures.told
