use Rattle.vsw_crew.proofs.ByRing.{brought_own, brought_taken, carries_one}
use Rattle.vsw_crew.proofs.stream_share.carry.Goals as goal

pub step_in-requires-clause-own : goal.step_in-requires-clause-own
step_in-requires-clause-own g c = (c.args.number, brought_own c.args.number c.args.packet.now c.brought_by.result c.args.docks.now c.brought_by.ensures.job, c.requires.fit)

pub step_in-requires-clause-taken : goal.step_in-requires-clause-taken
step_in-requires-clause-taken g c = brought_taken c.args.number c.args.packet.now c.brought_by.result c.args.docks.now c.brought_by.ensures.place c.requires.worker c.requires.frame c.brought_by.ensures.may

pub returns-clause-carries : goal.returns-clause-carries
returns-clause-carries g c =
    carries_one c.args.number c.args.docks.now c.args.packet.now c.brought_by.result c.args.row.now.items c.step_in.new.lanes.items c.brought_by.ensures.job c.brought_by.ensures.place c.requires.alike c.requires.within
    c.step_in.ensures.same c.step_in.ensures.fronts c.step_in.ensures.does c.step_in.ensures.fit
