use Rattle.vsw_config.specs.Action.{headers_of}
use Rattle.vsw_config.proofs.Small.{small_is}
use Rattle.vsw_config.proofs.action.headers.Goals as goal

pub returns : goal.returns
unfolding headers_of
returns c = small_is _ _ _
