use Rattle.std.proofs.Common.{map, ap, ◌∙◌, [], List, ℕ, if◌then◌else◌, OnOk, refl, subst}
use Rattle.vsw_switch.specs.Does.{Forwards}
use Rattle.vsw_switch.specs.Stay.{Arrives, standing}
use Rattle.vsw_switch.specs.Switch.{SwitchNow}
use Rattle.vsw_pcap.specs.declared.capture.Record.{Record}
use Rattle.vsw_switch.proofs.Loosened.{forwards_loose, forwards_there, locals_same}
use Rattle.vsw_switch.proofs.Staying.{ports_stay, served_stay}
use Rattle.vsw_switch.proofs.switch.Switch.forward.Goals as goal

pub invariant_of-self : goal.invariant_of-self
invariant_of-self g c = ports_stay c.self.inside.workers c.self.inside.numbers.items c.self.inside.macs c.self.inside.ports.items c.arrive.new.ports.items c.arrive.ensures.stays c.self.invariant

pub returns-in_err-arrive-clause-served : goal.returns-in_err-arrive-clause-served
returns-in_err-arrive-clause-served g c = served_stay c.args.self.now _ (c.arrive.ensures.stays ∙ ap (λ (s : SwitchNow). map standing s.ports) c.self.view_is)

pub invariant_of-self-in-None : goal.invariant_of-self-in-None
invariant_of-self-in-None g c = ports_stay c.self.inside.workers c.self.inside.numbers.items c.self.inside.macs c.self.inside.ports.items c.arrive.new.ports.items c.arrive.ensures.stays c.self.invariant

pub returns-in-None-clause-served : goal.returns-in-None-clause-served
returns-in-None-clause-served g c = served_stay c.args.self.now _ (c.arrive.ensures.stays ∙ ap (λ (s : SwitchNow). map standing s.ports) c.self.view_is)

pub invariant_of-self-in-Some : goal.invariant_of-self-in-Some
invariant_of-self-in-Some g c = ports_stay c.self.inside.workers c.self.inside.numbers.items c.self.inside.macs c.self.inside.ports.items c.arrive.new.ports.items c.arrive.ensures.stays c.self.invariant

pub returns-in-Some-clause-served : goal.returns-in-Some-clause-served
returns-in-Some-clause-served g c = served_stay c.args.self.now _ (c.arrive.ensures.stays ∙ ap (λ (s : SwitchNow). map standing s.ports) c.self.view_is)

pub returns-in-None-clause-forwards : goal.returns-in-None-clause-forwards
returns-in-None-clause-forwards g c =
    let i = c.self.inside in
    let r : Record = record { moment = c.args.captured.now.moment; original = c.args.captured.now.original; bytes = c.args.captured.now.bytes.now } in
    let ls : List ℕ = if i.local then i.macs else [] in
    let s : SwitchNow = record { workers = i.workers; locals = ls; ports = i.ports.items; loose = i.loose.items } in
    let t : SwitchNow = record { workers = i.workers; locals = ls; ports = c.arrive.new.ports.items; loose = i.loose.items } in
    subst (λ (u : SwitchNow). Forwards u c.args.packet r t) c.self.view_is
    (forwards_there s t c.args.packet r c.as_slice-macs.result.now c.locals.result.now (c.as_slice-macs.ensures ∙ c.self.invariant.macs_are) (locals_same i.local c.as_slice-macs.result.now i.macs c.locals.result.now c.locals.ensures c.as_slice-macs.ensures)
    (subst (λ o. Arrives i.workers c.args.packet c.locals.result.now c.as_slice-macs.result.now r i.ports.items c.arrive.new.ports.items o) c.in-None.is c.in_ok-arrive.ensures.arrives) refl refl refl)

pub returns-in-Some-clause-forwards : goal.returns-in-Some-clause-forwards
returns-in-Some-clause-forwards g c =
    let i = c.self.inside in
    let r : Record = record { moment = c.args.captured.now.moment; original = c.args.captured.now.original; bytes = c.args.captured.now.bytes.now } in
    let ls : List ℕ = if i.local then i.macs else [] in
    let s : SwitchNow = record { workers = i.workers; locals = ls; ports = i.ports.items; loose = i.loose.items } in
    let t : SwitchNow = record { workers = i.workers; locals = ls; ports = c.arrive.new.ports.items; loose = c.push.new.loose.items } in
    subst (λ (u : SwitchNow). OnOk c.push.result (Forwards u c.args.packet r t)) c.self.view_is
    (forwards_loose s t c.args.packet r c.as_slice-macs.result.now c.locals.result.now c.in-Some.cause c.push.result (c.as_slice-macs.ensures ∙ c.self.invariant.macs_are) (locals_same i.local c.as_slice-macs.result.now i.macs c.locals.result.now c.locals.ensures c.as_slice-macs.ensures)
    (subst (λ o. Arrives i.workers c.args.packet c.locals.result.now c.as_slice-macs.result.now r i.ports.items c.arrive.new.ports.items o) c.in-Some.is c.in_ok-arrive.ensures.arrives) refl refl c.push.ensures)
