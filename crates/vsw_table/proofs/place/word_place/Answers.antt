use Rattle.std.proofs.Common.{◌<◌, subst, sym}
use Rattle.vsw_stamps.proofs.Turns.{turn_inside}
use Rattle.vsw_table.proofs.place.word_place.Goals as goal

pub turn_place-requires : goal.turn_place-requires
turn_place-requires c = (c.requires.0, subst (λ k. k < 73) (sym c.turn_of.ensures) (turn_inside c.args.word c.requires.1), c.requires.2)
