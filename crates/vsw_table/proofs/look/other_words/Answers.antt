use Rattle.std.proofs.Common.{◌∷◌, [], ap, ◌∙◌, get_or}
use Rattle.vsw_stamps.proofs.Turns.{other_at}
use Rattle.vsw_table.proofs.Parts.{mapped_at}
use Rattle.vsw_table.proofs.look.other_words.Goals as goal

pub returns-clause-words : goal.returns-clause-words
returns-clause-words c = let key = c.args.key.now in λ turn lt. mapped_at key (1 ∷ 4 ∷ 5 ∷ 6 ∷ 7 ∷ 9 ∷ 10 ∷ 11 ∷ 12 ∷ 13 ∷ 14 ∷ 15 ∷ []) turn lt ∙ ap (λ k. get_or key k 0) (other_at turn lt)
