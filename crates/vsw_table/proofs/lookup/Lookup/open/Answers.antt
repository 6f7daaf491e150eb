use Rattle.std.proofs.Common.{ap, ◌∙◌}
use Rattle.vsw_table.proofs.Keeps.{opens}
use Rattle.vsw_table.proofs.Puts.{first_desk, first_length}
use Rattle.vsw_table.proofs.lookup.Lookup.open.Goals as goal

pub of_words-requires : goal.of_words-requires
of_words-requires g c = rw (c.as_slice.ensures.value, c.in-Ok.ensures) (opens g.S.Story.who g.S.Story.good c.of.result.value c.args.rows)

pub invariant_of-result-in-Ok-of_words : goal.invariant_of-result-in-Ok-of_words
invariant_of-result-in-Ok-of_words g c =
    let e = c.in-Ok-of_words.ensures in
    let count = ap (λ t. t.words) e.2 ∙ (e.0 ∙ first_length c.args.rows c.as_slice.result.now (c.as_slice.ensures.value ∙ c.in-Ok.ensures)) in
    first_desk c.of.result.value c.args.rows c.in-Ok-of_words.seat.me c.in-Ok-of_words.seat.table_id.words e.4 count c.requires.1
