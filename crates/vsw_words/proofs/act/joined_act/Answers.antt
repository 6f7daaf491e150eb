use Rattle.std.proofs.Common.{◌∙◌, ap, sym, Some}
use Rattle.vsw_transpose.specs.declared.act.Act.TheVariants.{Modify}
use Rattle.vsw_words.specs.Reading.{dst_ahead}
use Rattle.vsw_words.proofs.Pairs.{pair_none, pair_some}
use Rattle.vsw_words.proofs.act.joined_act.Goals as goal

pub returns-then-is_pair : goal.returns-then-is_pair
returns-then-is_pair c = ap (λ z. Some (Modify z)) c.both.ensures ∙ sym (pair_some c.args.head c.args.first c.args.second (dst_ahead c.args.count c.args.behind.now) (sym c.is_pair.ensures ∙ c.if-is_pair.true))

pub returns-else-is_pair : goal.returns-else-is_pair
returns-else-is_pair c = sym (pair_none c.args.head c.args.first c.args.second (dst_ahead c.args.count c.args.behind.now) (sym c.is_pair.ensures ∙ c.if-is_pair.false))
