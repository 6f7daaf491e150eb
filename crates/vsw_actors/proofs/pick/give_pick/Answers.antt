use Rattle.vsw_actors.proofs.Picking.{given_few, given_fit, given_pick, put_pick}
use Rattle.vsw_actors.proofs.pick.give_pick.Goals as goal

pub returns-clause-dealt : goal.returns-clause-dealt
returns-clause-dealt c = λ first packets workers cs js so_far. given_pick first packets workers cs js c.args.picks.now.items c.args.worker c.index_mut-share.result.now c.put_pick.new.share c.args.pick c.put_pick.result c.requires.worker c.index_mut-share.ensures.value c.put_pick.ensures so_far

pub returns-clause-fit : goal.returns-clause-fit
returns-clause-fit c = λ ports packets is before. given_fit ports packets c.args.picks.now.items c.args.worker c.index_mut-share.result.now c.put_pick.new.share c.args.pick c.put_pick.result c.index_mut-share.ensures.value c.put_pick.ensures is before

pub returns-clause-few : goal.returns-clause-few
returns-clause-few c = λ n before. given_few n c.args.picks.now.items c.args.worker c.index_mut-share.result.now c.put_pick.new.share c.args.pick c.put_pick.result c.index_mut-share.ensures.value c.put_pick.ensures before

pub returns-clause-put : goal.returns-clause-put
returns-clause-put c = λ first packets. put_pick first packets c.args.picks.now.items c.args.worker c.index_mut-share.result.now c.put_pick.new.share c.args.pick c.put_pick.result c.requires.worker c.index_mut-share.ensures.value c.put_pick.ensures
