-- What a reader holds.
use Rattle.std.specs.Prelude.{ℕ, Bool, List, Option}
use Rattle.vsw_pcap.specs.declared.capture.Form.{Form}

pub record Progress : Type 0 where
  -- the form of the capture, once a record was given
  pub form : Option Form
  -- bytes consumed, that is the place in the capture of those that are left
  pub at : ℕ
  -- bytes in hand, not yet consumed
  pub left : List ℕ
  -- no byte will follow
  pub finished : Bool
