use denote.Param.Send.{sendable}
use Rattle.vsw_crew.proofs.Sending.{share_send}
use Rattle.vsw_replay.proofs.Leading.{hands_led}
use Rattle.vsw_replay.proofs.ahead.lead_hands.Goals as goal

pub run_hands-requires-send-S : goal.run_hands-requires-send-S
run_hands-requires-send-S g c κs within = search (share_send, sendable)

pub returns : goal.returns
returns g c = hands_led g.H.Host.outside c.args.ahead.now c.run_hands.new.lead c.args.host.now c.run_hands.new.with c.run_hands.result c.requires.may c.run_hands.ensures.leads c.run_hands.ensures.err
