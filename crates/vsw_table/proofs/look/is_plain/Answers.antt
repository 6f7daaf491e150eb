use Rattle.std.proofs.lemmas.Map.Views.{exact_unsigned_eq}
use Rattle.vsw_table.proofs.Parts.{plain_key}
use Rattle.vsw_table.proofs.look.is_plain.Goals as goal

pub returns : goal.returns
returns c = λ e. plain_key c.args.key.now (exact_unsigned_eq _ 0 e)
