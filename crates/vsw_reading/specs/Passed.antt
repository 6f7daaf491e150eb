-- What of a trace was found so far.
use Rattle.std.specs.Prelude.{◌≡◌, ℕ, List, drop, Ok}
use Rattle.vsw_pcap.specs.Capture.{header_of, Splits}
use Rattle.vsw_pcap.specs.declared.capture.Form.{Form}
use Rattle.vsw_pcap.specs.declared.capture.Record.{Record}

-- the bytes are a good header, these records, and a rest
pub record IsPassed (bytes : List ℕ) (records : List Record) : Type 0 where
  pub form : Form
  pub rest : List ℕ
  pub header : header_of bytes ≡ Ok form
  pub splits : Splits form (drop 24 bytes) records rest
