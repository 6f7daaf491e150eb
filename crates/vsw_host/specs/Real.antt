-- What the real host means: it tells no contents.
use Rattle.std.specs.Prelude.{length, None}
use Rattle.vsw_host.specs.Outside.{Outside}
use Rattle.vsw_host.specs.declared.real_host.RealHost.{RealHost}

abbrev pub outside : RealHost → Outside
outside h = record {
  inputs = None;
  opens = length h.files.items;
  put = None;
  complained = None;
  input_faults = h.input_faults;
  put_faults = h.put_faults;
  complain_faults = h.complain_faults;
}

-- the meaning of a real host that was just made
abbrev pub untouched : Outside
untouched = record { inputs = None; opens = 0; put = None; complained = None; input_faults = 0; put_faults = 0; complain_faults = 0 }
