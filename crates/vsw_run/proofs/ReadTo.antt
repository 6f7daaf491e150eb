-- What was read of the trace of a name, as its source says.
use Rattle.std.proofs.Common.{◌≡◌, ◌≤◌, ℕ, List, length, take, take_all, refl, sym, ap, arith, length-take}
use Rattle.vsw_host.specs.Outside.{Outside, Rose}
use Rattle.vsw_host.specs.Source.{IsReading}
use Rattle.vsw_host.specs.Told.{ReadsAll}
use Rattle.vsw_run.specs.Steps.{Reads}
use Rattle.vsw_run.specs.Trace.{All, Fault, Reach, Stopped, Trace}

-- a trace of which these bytes were read
abbrev pub read_to : Reach → List ℕ → Trace
read_to reach bytes = record { bytes = bytes; reach = reach }

pub reads_whole : (start now : Outside) (name bytes : List ℕ) → ReadsAll start.inputs now.inputs name bytes → Reads start now name (read_to All bytes)
reads_whole start now name bytes r = record {
  file = record { name = name; bytes = bytes; read = length bytes };
  named = refl;
  since = r.since;
  held = r.held;
  within = omega arith;
  read = record { bytes = sym (take_all (length bytes) bytes (omega arith)); reaches = refl };
}

front_within : (got bytes : List ℕ) → got ≡ take (length got) bytes → length got ≤ length bytes
front_within got bytes e = omega (arith, ap length e, length-take (length got) bytes)

pub reads_stopped : (start now : Outside) (name : List ℕ) (file : ℕ) (bytes : List ℕ) → IsReading start now name file bytes → Reads start now name (read_to Stopped bytes)
reads_stopped start now name file bytes r = record {
  file = record { name = name; bytes = r.front.bytes; read = length bytes };
  named = refl;
  since = r.front.since;
  held = r.front.held;
  within = front_within bytes r.front.bytes r.front.front;
  read = record { bytes = r.front.front; reaches = tt };
}

pub reads_fault : (start now : Outside) (name : List ℕ) (file : ℕ) (bytes : List ℕ) → Rose start.input_faults now.input_faults → IsReading start now name file bytes → Reads start now name (read_to Fault bytes)
reads_fault start now name file bytes rose r = record {
  file = record { name = name; bytes = r.front.bytes; read = length bytes };
  named = refl;
  since = r.front.since;
  held = r.front.held;
  within = front_within bytes r.front.bytes r.front.front;
  read = record { bytes = r.front.front; reaches = rose };
}
