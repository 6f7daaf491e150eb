use Rattle.std.proofs.Common.{◌∷◌, [], ap, ◌∙◌, get_or}
use Rattle.vsw_stamps.proofs.Turns.{plain_at}
use Rattle.vsw_table.proofs.Parts.{mapped_at}
use Rattle.vsw_table.proofs.look.plain_words.Goals as goal

pub returns-clause-words : goal.returns-clause-words
returns-clause-words c = let key = c.args.key.now in λ turn lt. mapped_at key (0 ∷ 2 ∷ 3 ∷ 8 ∷ []) turn lt ∙ ap (λ k. get_or key k 0) (plain_at turn lt)
