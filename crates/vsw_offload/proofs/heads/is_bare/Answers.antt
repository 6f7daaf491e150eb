use Rattle.vsw_offload.proofs.Headed.{is_bare}
use Rattle.vsw_offload.proofs.heads.is_bare.Goals as goal

pub returns : goal.returns
returns c = is_bare c.args.key.now c.told-key
