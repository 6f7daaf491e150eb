use Rattle.vsw_config.proofs.Parsed.{json_is, no_json, refuted}
use Rattle.vsw_config.proofs.bytes.json.Goals as goal

pub returns-in-Ok : goal.returns-in-Ok
returns-in-Ok c = json_is _ _ c.in-Ok.ensures.ok.0 c.in-Ok.ensures.ok.1

pub returns-in-Err-2 : goal.returns-in-Err-2
returns-in-Err-2 c = rw c.here.ensures (no_json c.args.bytes.now (c.in-Err.ensures.err (λ m. refuted _ c.if-is_memory.false (c.is_memory.ensures.1 m))))
