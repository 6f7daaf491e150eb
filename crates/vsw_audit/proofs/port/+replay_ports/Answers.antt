use Rattle.std.proofs.Common.{◌≡◌, ◌+◌, suc, refl, rules, arith}
use Rattle.vsw_audit.proofs.Rounding.{no_lines_so, no_ports, nothing, port_stops_so, ports_on, seats_kept_so}
use Rattle.vsw_audit.proofs.port.+replay_ports.Goals as goal

pub returns-in_default-clause-finds : goal.returns-in_default-clause-finds
returns-in_default-clause-finds t c = λ ps macs packets are e st. no_ports c.args.files.now.commands.now c.args.workers macs c.args.first packets c.args.port ps c.args.seats.now c.args.seats.now c.args.told.now c.is_empty.result (nothing c.args.seats.now (search rules)) refl are c.is_empty.ensures

pub returns-in_default-split_first-clause-finds : goal.returns-in_default-split_first-clause-finds
returns-in_default-split_first-clause-finds t c = λ ps macs packets are e st. no_lines_so c.args.files.now.commands.now c.args.workers macs c.args.first packets c.args.port ps c.in-Some.seat.now c.in-Some.seats.now c.args.seats.now c.args.told.now _ (search rules) (nothing c.args.told.now (search rules)) are

pub returns-in_err-answer-clause-seats : goal.returns-in_err-answer-clause-seats
returns-in_err-answer-clause-seats t c = λ ps are. seats_kept_so ps c.in-Some.seat.now c.replay_port.new.seat c.in-Some.seats.now c.args.seats.now c.in-Some.seats.now _ (search rules) refl c.replay_port.ensures.number c.replay_port.ensures.opening (λ qs a. a) are

pub returns-then-not-answer-clause-finds : goal.returns-then-not-answer-clause-finds
returns-then-not-answer-clause-finds t c = λ ps macs packets are e st.
    port_stops_so c.args.files.now.commands.now c.args.workers macs c.args.first packets c.args.port ps c.in-Some.seat.now c.replay_port.new.seat c.in-Some.seats.now c.args.seats.now c.in-Some-split_first.here.now c.in-Some-split_first.told.now c.args.told.now c.in_ok-answer.answer _ (search rules) (search rules) c.if-not-answer.true are
    (λ p seat. c.in_ok-answer.ensures.finds p macs packets seat e st)

pub returns-then-not-answer-clause-seats : goal.returns-then-not-answer-clause-seats
returns-then-not-answer-clause-seats t c = λ ps are. seats_kept_so ps c.in-Some.seat.now c.replay_port.new.seat c.in-Some.seats.now c.args.seats.now c.in-Some.seats.now _ (search rules) refl c.replay_port.ensures.number c.replay_port.ensures.opening (λ qs a. a) are

pub returns-clause-finds : goal.returns-clause-finds
returns-clause-finds t c = λ ps macs packets are e st.
    let next : c.args.port + 1 ≡ suc c.args.port = omega arith in
    ports_on c.args.files.now.commands.now c.args.workers macs c.args.first packets c.args.port (c.args.port + 1) ps c.in-Some.seat.now c.replay_port.new.seat c.in-Some.seats.now c.args.seats.now c.replay_ports.new.seats _ c.in-Some-split_first.here.now c.in-Some-split_first.told.now c.args.told.now c.in_ok-answer.answer c.replay_ports.result (search rules) (search rules) refl c.if-not-answer.false next are
    (λ p seat. c.in_ok-answer.ensures.finds p macs packets seat e st) (λ qs a. c.replay_ports.ensures.finds qs macs packets a e st)

pub returns-clause-seats : goal.returns-clause-seats
returns-clause-seats t c = λ ps are. seats_kept_so ps c.in-Some.seat.now c.replay_port.new.seat c.in-Some.seats.now c.args.seats.now c.replay_ports.new.seats _ (search rules) refl c.replay_port.ensures.number c.replay_port.ensures.opening (λ qs a. c.replay_ports.ensures.seats qs a) are
