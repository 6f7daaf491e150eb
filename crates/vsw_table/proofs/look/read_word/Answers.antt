use Rattle.std.proofs.Common.{arith, subst, ◌≡◌, ◌+◌}
use Rattle.vsw_table.specs.Places.{turn_place}
use Rattle.vsw_table.proofs.Keeps.{reads_word}
use Rattle.vsw_table.proofs.look.read_word.Goals as goal

pub load-requires : goal.load-requires
load-requires g c =
    let z = c.args.shared.now in
    let v = c.args.seat.now in
    let p = c.place_behind in (
      c.requires.table.0,
      omega (arith, c.requires.table.1, p.ensures.inside),
      rw c.requires.pass.2 (reads_word g.S.Story.who g.S.Story.good z.key.opening.value z.key.rows z.table_id.slots v.id v.me.0 c.args.row (c.args.from + c.args.behind) p.result c.requires.pass.0 c.requires.pass.1 c.requires.top.0 (omega (arith, c.requires.table.2, c.requires.table.3)) c.requires.top.1 c.requires.top.2
          (subst (λ n. p.result ≡ turn_place n c.args.row (c.args.from + c.args.behind)) c.requires.table.2 p.ensures.place)),
    )
