use Rattle.std.proofs.Common.{◌∙◌, nat_eq}
use Rattle.indexmap.proofs.CallerLemmas.{insert_entry-new}
use Rattle.vsw_layerflow.proofs.Lists.{when_ok}
use Rattle.vsw_layerflow.proofs.maps.put_pair.Goals as goal

pub returns-clause-entries : goal.returns-clause-entries
returns-clause-entries c =
    when_ok c.insert.result (c.insert.ensures.succeeds c.requires.room) c.insert.ensures.entries
    ∙ insert_entry-new nat_eq c.args.pairs.now c.args.pair.now.number c.args.pair.now c.requires.absent
