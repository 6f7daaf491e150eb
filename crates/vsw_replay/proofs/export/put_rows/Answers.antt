use Rattle.std.proofs.Common.{subst, sym}
use Rattle.vsw_replay.specs.Private.Exporting.{IsFile}
use Rattle.vsw_replay.proofs.Exporting.{put_exports, unmade_exports, unput_exports}
use Rattle.vsw_replay.proofs.export.put_rows.Goals as goal

pub returns-in-Ok-put : goal.returns-in-Ok-put
returns-in-Ok-put g c = λ s start name o t.
    put_exports s start (g.H.Host.outside c.args.host.now) (g.H.Host.outside c.put.new.self) name c.as_slice.result.now c.args.switch.now _ o t
    (subst (λ file. IsFile s t.histories file) (sym c.as_slice.ensures.value) (c.in-Ok.ensures s t.histories t.at)) c.in-Ok-put.ensures.puts

pub returns-in-Ok : goal.returns-in-Ok
returns-in-Ok g c = λ s start name o t.
    unput_exports s start (g.H.Host.outside c.args.host.now) (g.H.Host.outside c.put.new.self) name c.as_slice.result.now c.args.switch.now _ o t
    (subst (λ file. IsFile s t.histories file) (sym c.as_slice.ensures.value) (c.in-Ok.ensures s t.histories t.at)) c.in-Err-put.ensures.puts

pub returns : goal.returns
returns g c = λ s start name o t. unmade_exports s start (g.H.Host.outside c.args.host.now) name c.args.switch.now o t
