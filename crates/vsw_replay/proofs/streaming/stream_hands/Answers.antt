use denote.Param.Send.{sendable}
use Rattle.vsw_crew.proofs.Sending.{stream_share_send}
use Rattle.vsw_replay.proofs.Handing.{hands_streamed}
use Rattle.vsw_replay.proofs.streaming.stream_hands.Goals as goal

pub run_hands-requires-send-S : goal.run_hands-requires-send-S
run_hands-requires-send-S g c κs within = search (stream_share_send, sendable)

pub returns : goal.returns
returns g c = hands_streamed g.H.Host.outside c.args.streaming.now c.run_hands.new.lead c.args.host.now c.run_hands.new.with c.run_hands.result c.requires.may c.run_hands.ensures.leads c.run_hands.ensures.err
