use Rattle.std.proofs.Common.{◌≡◌, ◌++◌, List}
use Rattle.byteorder.specs.Endian.{little_bytes}
use Rattle.vsw_crew.specs.Switch.{IsAt}
use Rattle.vsw_offload.specs.Rows.{head}
use Rattle.vsw_port.specs.declared.event.Event.{Event}
use Rattle.vsw_promise.specs.Jobs.{Setting}
use Rattle.vsw_replay.specs.Private.Exporting.{IsWritten}
use Rattle.vsw_replay.proofs.export.rows_file.Given as goal

abbrev pub invariant-loop-place : goal.invariant-loop-place
invariant-loop-place l = record {
  same : l.switch ≡ l.fn.switch;
  written : (s : Setting) (hs : List (List Event)) → IsAt s hs l.fn.switch → IsWritten s hs l.place (head ++ little_bytes 4 l.ports) l.file.items;
}
