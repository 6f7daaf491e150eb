use Rattle.std.proofs.Common.{length}
use Rattle.vsw_flows.proofs.Searched.{found_free}
use Rattle.vsw_flows.proofs.places.search.Goals as goal

pub returns-in-Used-clause-found : goal.returns-in-Used-clause-found
returns-in-Used-clause-found c =
    found_free c.args.lookup.now.2 (length c.seek.new.writer.view.rows) c.rows_of.result c.seek.new.writer.view.given c.args.key.now c.args.writer.now c.slot_of-slot.result c.victim.result c.seek.result
    c.in-Used.is c.seek.ensures.found c.slot_of-slot.ensures.value c.rows_of.ensures.rows c.rows_of.ensures.words c.victim.ensures.row
