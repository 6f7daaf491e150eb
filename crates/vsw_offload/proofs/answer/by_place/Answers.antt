use Rattle.vsw_frame.specs.Frame.{parts}
use Rattle.std.proofs.Common.{drop, get_or}
use Rattle.std.specs.Prelude.{[]}
use Rattle.vsw_offload.proofs.Found.{some_on}
use Rattle.vsw_offload.proofs.Remade.{made_for}
use Rattle.vsw_offload.specs.Private.Making.{IsEdited, IsMadeOf}
use Rattle.vsw_offload.proofs.answer.by_place.Goals as goal

pub by_row-requires-clause-made : goal.by_row-requires-clause-made
by_row-requires-clause-made c =
    let rows = c.args.rows.now in
    let words = get_or rows c.args.at [] in
    let (id, is, key, same) = c.requires.id in
    let hs = (parts c.args.frame.now).stack in
    some_on c.made_in-made.result (λ m. IsEdited words m.now) (λ m. IsMadeOf (drop 16 words) m.now hs) (λ m h. made_for words hs id m.now h is key same) (c.made_in-made.ensures rows c.requires.made)
