-- The life of a TCP connection and of its pair: opened, closed from both ends, swept away, and opened again.
use Rattle.std.specs.Prelude.{ℕ, List, [], ◌∷◌, length, true, false, codes}
use Rattle.vsw_base.specs.declared.packet.Dir.TheVariants.{Out}
use Rattle.vsw_base.specs.Hexadecimal.{spelled}
use Rattle.vsw_commandfile.specs.declared.line.Line.{Line}
use Rattle.vsw_pcap.specs.declared.capture.Record.{Record}
use Rattle.vsw_policy.specs.declared.command.Command.TheVariants.{Sweep}
use Rattle.vsw_config.specs.declared.file.PolicyFile.{PolicyFile}
use Rattle.vsw_rule.specs.declared.rule.Action.TheVariants.{Allow}
use Rattle.vsw_promise.specs.Sample.{IsReport}

-- one stateful rule. A pair lives 100 seconds, and 10 once it is closed
abbrev pub life_policy : PolicyFile
life_policy = record {
  version = 1;
  controllers = 1 ∷ [];
  ports = record {
    port = 1;
    mac = 0x020000000001;
    rows = 64;
    layers = record {
      controller = 1;
      spec = record { layer = 10; order = 1; allow_out = false; allow_in = false; pairs = 100; idle = 100; linger = 10 };
      groups = record { number = 1; dir = Out; when = []; rules = record { number = 1; priority = 10; when = []; action = Allow; stateful = true; last = false } ∷ [] } ∷ [];
    } ∷ [];
  } ∷ [];
  seed = tt;
}

-- before packet 6, at 10 seconds
abbrev pub sweep_line : Line
sweep_line = record { number = 1; at = 6; during = false; controller = 1; port = 1; command = Sweep 10 10000000 }

abbrev pub frame : ℕ → List ℕ → Record
frame n bytes = record { moment = n; original = length bytes; bytes = bytes }

-- SYN out, SYN and ACK in, data out, FIN out, FIN in, ACK out; and SYN out again
abbrev pub life_records : List Record
life_records =
    frame 0 (spelled (codes "02000000009902000000000108004500002800004000400626c30a0000050a00000904d2005000000001000000005002ffff96b20000"))
    ∷ frame 1000 (spelled (codes "02000000000102000000009908004500002800004000400626c30a0000090a000005005004d200000001000000005012ffff96a20000"))
    ∷ frame 2000 (spelled (codes "02000000009902000000000108004500002a00004000400626c10a0000050a00000904d2005000000001000000005010ffff2e3900006869"))
    ∷ frame 3000 (spelled (codes "02000000009902000000000108004500002800004000400626c30a0000050a00000904d2005000000001000000005011ffff96a30000"))
    ∷ frame 4000 (spelled (codes "02000000000102000000009908004500002800004000400626c30a0000090a000005005004d200000001000000005011ffff96a30000"))
    ∷ frame 5000 (spelled (codes "02000000009902000000000108004500002800004000400626c30a0000050a00000904d2005000000001000000005010ffff96a40000"))
    ∷ frame 6000 (spelled (codes "02000000009902000000000108004500002800004000400626c30a0000050a00000904d2005000000001000000005002ffff96b20000"))
    ∷ []

abbrev pub LifeOfAPair : Type 0
LifeOfAPair = IsReport (record { workers = 1; policy = life_policy; commands = sweep_line ∷ []; local = false }) life_records
    (codes "vsw report 1\nround 0\nport 1 0 4\nw0 0 +0 pass 54 02000000009902000000000108004500002800004000400626c30a0000050a00000904d2005000000001000000005002ffff96b20000\nw0 1 +1 pass 54 02000000000102000000009908004500002800004000400626c30a0000090a000005005004d200000001000000005012ffff96a20000\nw0 2 @2 pass 56 02000000009902000000000108004500002a00004000400626c10a0000050a00000904d2005000000001000000005010ffff2e3900006869\nw0 3 +2 pass 54 02000000009902000000000108004500002800004000400626c30a0000050a00000904d2005000000001000000005011ffff96a30000\nw0 4 +3 pass 54 02000000000102000000009908004500002800004000400626c30a0000090a000005005004d200000001000000005011ffff96a30000\nw0 5 @4 pass 54 02000000009902000000000108004500002800004000400626c30a0000050a00000904d2005000000001000000005010ffff96a40000\nloose\nround 6\nport 1 4 6\nc1 1 +4 ok\nw0 6 +5 pass 54 02000000009902000000000108004500002800004000400626c30a0000050a00000904d2005000000001000000005002ffff96b20000\nloose\n")
