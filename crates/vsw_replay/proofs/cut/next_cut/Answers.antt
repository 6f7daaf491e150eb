use Rattle.std.proofs.Common.{◌+◌, ◌*◌, ◌/◌, sym}
use Rattle.vsw_replay.proofs.Cuts.{next_multiple, next_lesser, lesser_of}
use Rattle.vsw_replay.proofs.cut.next_cut.Goals as goal

pub returns-in-Some : goal.returns-in-Some
returns-in-Some c = record { next = next_lesser c.args.schedule.now c.args.first c.in-Some.named c.min.result (sym c.in-Some.ensures) (lesser_of ((c.args.first / 1024 + 1) * 1024) c.in-Some.named c.min.result c.min.ensures) }

pub returns-in-None : goal.returns-in-None
returns-in-None c = record { next = next_multiple c.args.schedule.now c.args.first (sym c.in-None.ensures) }
