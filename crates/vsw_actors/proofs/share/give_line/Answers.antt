use Rattle.vsw_actors.specs.Private.Aims.{line_job}
use Rattle.vsw_actors.proofs.Sharing.{given, given_work}
use Rattle.vsw_actors.proofs.share.give_line.Goals as goal

pub returns-clause-dealt : goal.returns-clause-dealt
returns-clause-dealt c = λ cs js so_far doer. given cs js c.args.shares.now.items c.args.caller c.index_mut-share.result.now c.put_line.new.share (line_job c.args.place c.args.line) c.put_line.result c.requires.caller c.index_mut-share.ensures.value c.put_line.ensures so_far doer

pub returns-clause-work : goal.returns-clause-work
returns-clause-work c = λ ports cs is before. given_work ports cs c.args.shares.now.items c.args.caller c.index_mut-share.result.now c.put_line.new.share (line_job c.args.place c.args.line) c.put_line.result c.index_mut-share.ensures.value c.put_line.ensures is before
