use Rattle.std.proofs.Common.{arith, subst, ◌∙◌, ◌≡◌, sym}
use Rattle.vsw_table.specs.Places.{word_place}
use Rattle.vsw_table.specs.Steps.{StandsAt}
use Rattle.vsw_table.proofs.Keeps.{puts_word}
use Rattle.vsw_table.proofs.Puts.{word_same}
use Rattle.vsw_table.proofs.put.put_word.Goals as goal

pub store-requires : goal.store-requires
store-requires g c =
    let z = c.args.shared.now in
    let w = c.find.new.writer in
    let v = c.args.writer.now in
    let p = c.word_place-place in (
      c.find.ensures.seat.0 ∙ c.requires.table.0,
      omega (arith, c.requires.table.1, p.ensures.inside),
      rw (c.find.ensures.seat.1, c.requires.writer.1) (puts_word g.S.Story.who g.S.Story.good z.key.opening.value z.key.rows z.table_id.slots w.id v.me.0 c.args.row c.args.word p.result c.args.value c.requires.writer.0
          (omega (arith, c.requires.place.0, c.requires.table.2)) c.requires.place.1 (subst (λ n. p.result ≡ word_place n c.args.row c.args.word) c.requires.table.2 p.ensures.place) c.requires.zero),
    )

pub returns-else-find-value : goal.returns-else-find-value
returns-else-find-value g c =
    let v = c.args.writer.now in
    let p = c.word_place-place in
    let found = subst (λ x. StandsAt v.me.0 p.result x) c.if-find-value.false c.find.ensures.word.0 in
    let same = word_same v.me.0 c.args.rows c.args.row c.args.word c.args.value p.result c.requires.writer.2 c.requires.place.0 c.requires.place.1 p.ensures.place found in
    (c.find.ensures.seat.0, c.find.ensures.seat.1 ∙ (λ i. (sym same i, c.requires.writer.1 i)))
