use Rattle.std.proofs.Common.{sym}
use Rattle.vsw_stamps.proofs.Turns.{turn_front, turn_key, turn_last}
use Rattle.vsw_table.proofs.place.turn_of.Goals as goal

pub returns-then-word-ge43 : goal.returns-then-word-ge43
returns-then-word-ge43 c = sym (turn_last c.args.word c.if-word-ge43.true c.requires)

pub returns-then-word-ge16 : goal.returns-then-word-ge16
returns-then-word-ge16 c = sym (turn_front c.args.word c.if-word-ge16.true c.if-word-ge43.false)

pub returns-else-word-ge16 : goal.returns-else-word-ge16
returns-else-word-ge16 c = turn_key c.args.word c.if-word-ge16.false
