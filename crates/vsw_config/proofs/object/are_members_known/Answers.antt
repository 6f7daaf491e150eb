use Rattle.std.proofs.Common.{◌∙◌}
use Rattle.vsw_config.proofs.Views.{all_keys_among}
use Rattle.vsw_config.proofs.object.are_members_known.Goals as goal

pub returns : goal.returns
returns c = c.are_keys_known.ensures ∙ all_keys_among c.args.words.now c.args.members.now.entries
