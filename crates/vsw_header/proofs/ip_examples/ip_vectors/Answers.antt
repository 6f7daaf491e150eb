use Rattle.vsw_header.proofs.IpRights.{plain_is_right, options_are_right}
use Rattle.vsw_header.proofs.ip_examples.ip_vectors.Goals as goal

pub returns-clause-plain : goal.returns-clause-plain
returns-clause-plain c = plain_is_right

pub returns-clause-options : goal.returns-clause-options
returns-clause-options c = options_are_right
