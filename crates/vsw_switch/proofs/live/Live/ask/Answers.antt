use Rattle.std.proofs.Common.{◌≡◌, ◌<◌, length, true, ap, sym, ◌∙◌, subst, refl, not, arith}
use Rattle.vsw_port.specs.Order.{ascending}
use Rattle.vsw_policy.specs.Layers.{place_of}
use Rattle.vsw_policy.specs.Obey.{is_memory}
use Rattle.vsw_policy.specs.Refusals.{reply_of}
use Rattle.vsw_policy.specs.Sound.{is_listed}
use Rattle.vsw_switch.specs.Switch.{PortNow}
use Rattle.vsw_switch.proofs.Answered.{asked}
use Rattle.vsw_switch.proofs.Places.{ascending_listed, place_within}
use Rattle.vsw_switch.proofs.live.Live.ask.Goals as goal

pub tell_reply-requires : goal.tell_reply-requires
tell_reply-requires c =
    let s = c.self.inside in
    let n = c.args.line.now.controller in
    let known : is_listed s.port.opening.controllers n ≡ true = ap (λ (p : PortNow). is_listed p.opening.controllers n) c.self.view_is ∙ c.requires.listed in
    let listed : s.listed.items ≡ ascending s.port.opening.controllers = c.self.invariant.listed_are in
    let within : place_of n s.listed.items < length s.listed.items = subst (λ ns. place_of n ns < length ns) (sym listed) (place_within (ascending s.port.opening.controllers) n (ascending_listed s.port.opening.controllers n known)) in
    let place : c.place_of-place.result ≡ place_of n s.listed.items = c.place_of-place.ensures.value ∙ ap (place_of n) c.deref.ensures.value in
    record { place = omega (arith, within, place, c.self.invariant.lines) }

pub returns-clause-does : goal.returns-clause-does
returns-clause-does c =
    let s = c.self.inside in
    let answer = c.command-answer.result in
    asked s.number s.mac s.before s.port c.reserve.new.port c.command-answer.new.self s.workers.items s.controllers.items c.tell_reply.new.controllers.items s.tally s.last s.listed.items c.args.self.now c.args.line.now (reply_of answer) (not (is_memory answer)) c.in_ok-count.count c.place_of-place.result c.tell_reply.result
    c.self.view_is (record { mid_opening = c.reserve.ensures.opening; mid_journal = c.reserve.ensures.journal; count_is = c.in_ok-count.ensures.count; opening = c.command-answer.ensures.opening; journal = c.command-answer.ensures.journal })
    (c.command-answer.ensures.done c.args.line.now refl refl refl) c.requires.listed (c.place_of-place.ensures.value ∙ ap (place_of c.args.line.now.controller) c.deref.ensures.value) c.self.invariant.listed_are c.tell_reply.ensures.told
