use Rattle.std.proofs.Common.{◌∙◌}
use Rattle.vsw_replay.proofs.Handing.{streamed_on}
use Rattle.vsw_replay.proofs.streaming.StreamingLeadStreamShareStreamCarriedStreamCarrier.lead.Goals as goal

pub returns-in-Ok : goal.returns-in-Ok
returns-in-Ok g c =
    let b = c.stream_all.new.self in
    streamed_on c.args.self.now (record { crew = b.crew; schedule = b.schedule; run = b.run; turn = c.in-Ok.turn; end = b.end }) (g.H.Host.outside c.args.with.now) (g.H.Host.outside c.stream_all.new.host) (c.stream_all.ensures.same.end ∙ c.requires.may.end) (λ s start name e f. c.in-Ok.ensures.goes s start name e f)
    c.in-Ok.ensures.near c.in-Ok.ensures.served
