use Rattle.std.proofs.Common.{refl}
use Rattle.vsw_actors.specs.Private.Aims.{packet_job}
use Rattle.vsw_actors.proofs.Sharing.{given, given_work}
use Rattle.vsw_actors.proofs.share.give_packet.Goals as goal

pub returns-clause-dealt : goal.returns-clause-dealt
returns-clause-dealt c = λ cs js so_far. given cs js c.args.shares.now.items c.args.packet.now.worker c.index_mut-share.result.now c.put_packet.new.share (packet_job c.args.packet.now) c.put_packet.result c.requires.caller c.index_mut-share.ensures.value c.put_packet.ensures so_far refl

pub returns-clause-work : goal.returns-clause-work
returns-clause-work c = λ ports cs is before. given_work ports cs c.args.shares.now.items c.args.packet.now.worker c.index_mut-share.result.now c.put_packet.new.share (packet_job c.args.packet.now) c.put_packet.result c.index_mut-share.ensures.value c.put_packet.ensures is before
