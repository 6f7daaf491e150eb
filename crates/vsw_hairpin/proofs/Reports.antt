-- Reports of one packet that is handed on, as they were worked out by hand.
use Rattle.std.proofs.Common.{◌≡◌, ℕ, true, false, List, [], ◌∷◌, refl, subst}
use Rattle.std.specs.Fmt.{digits}
use Rattle.std.specs.Prelude.{codes}
use Rattle.hex.specs.Hex.{encode_with}
use Rattle.vsw_base.specs.declared.fate.Cause.TheVariants.{Default}
use Rattle.vsw_base.specs.declared.fate.Fate.{Fate}
use Rattle.vsw_base.specs.declared.fate.Fate.TheVariants.{Pass, Drop}
use Rattle.vsw_base.specs.declared.header.Header.{Header}
use Rattle.vsw_base.specs.declared.header.Header.TheVariants.{Ether, Ip, Ports}
use Rattle.vsw_base.specs.declared.packet.Control.TheVariants as control
use Rattle.vsw_base.specs.declared.packet.Dir.{Dir}
use Rattle.vsw_base.specs.declared.packet.Dir.TheVariants.{Out, In}
use Rattle.vsw_base.specs.Frame.{frame_in}
use Rattle.vsw_base.specs.Hexadecimal.{spelled}
use Rattle.vsw_base.specs.Vectors.{level, plain_frame}
use Rattle.vsw_config.specs.declared.file.LayerFile.{LayerFile}
use Rattle.vsw_pcap.specs.declared.capture.Record.{Record}
use Rattle.vsw_port.specs.Calls.{Call, Carried, entries_of, job_of}
use Rattle.vsw_port.specs.History.{AllRight}
use Rattle.vsw_port.specs.Next.{Goes, IsNext, Reading}
use Rattle.vsw_port.proofs.Next.{goes_none, goes_on}
use Rattle.vsw_promise.specs.Jobs.{Jobs, Setting}
use Rattle.vsw_promise.specs.Ports.{PortSeen}
use Rattle.vsw_promise.specs.Rounds.{IsPortRound, opening_of}
use Rattle.vsw_promise.specs.Told.{lines_of}
use Rattle.vsw_promise.specs.Sample.{IsReport}
use Rattle.vsw_promise.proofs.PortRounds.{round_of_goes}
use Rattle.vsw_report.specs.declared.round.PortRound.{PortRound}
use Rattle.vsw_report.specs.declared.round.Round.{Round}
use Rattle.vsw_report.specs.declared.told.By.TheVariants.{Worker}
use Rattle.vsw_report.specs.declared.told.ToldLine.{ToldLine}
use Rattle.vsw_report.specs.declared.told.What.TheVariants as what
use Rattle.vsw_report.specs.Print.{dir_text, layer_text, port_line}
use Rattle.vsw_walk.specs.Walk.{walk_of}

-- one worker, one controller and two ports, of which the second has these layers
abbrev setting : List LayerFile → Setting
setting layers = record {
  workers = 1;
  policy = record {
    version = 1;
    controllers = 1 ∷ [];
    ports = record { port = 1; mac = 0x020000000001; rows = 64; layers = [] } ∷ record { port = 2; mac = 0x020000000099; rows = 64; layers = layers } ∷ [];
    seed = tt;
  };
  commands = [];
  local = true;
}

-- a layer without groups, whose defaults drop
abbrev closed : LayerFile
closed = record { controller = 1; spec = record { layer = 10; order = 1; allow_out = false; allow_in = false; pairs = 100; idle = 240; linger = 10 }; groups = [] }

abbrev captured : List ℕ → List Record
captured bytes = record { moment = 0; original = 44; bytes = bytes } ∷ []

abbrev stack : ℕ → List Header
stack destination = Ether destination 0x020000000001 0x0800 ∷ Ip 0x0a000005 0x0a000009 17 false ∷ Ports 17 1234 53 ∷ []

-- worker 0 was told this of the packet, which changed nothing
abbrev call : ℕ → Dir → List ℕ → Fate → List ℕ → Call
call destination dir frame fate bytes = record {
  deed = Carried (record { caller = 0; packet = 0; id = record { dir = dir; stack = stack destination }; control = control.None; moment = 0; sizes = record { whole = 44; one = 0; two = 0 } })
      (record { stack = stack destination; control = control.None; levels = level frame ∷ []; payload = codes "hi" }) fate bytes;
  entry = false;
  count = 0;
}

abbrev told : ℕ → List ToldLine → PortRound
told port lines = record { port = port; before = 0; after = 0; lines = lines }

abbrev line : Fate → List ℕ → ToldLine
line fate bytes = record { by = Worker 0; item = 0; entry = false; count = 0; what = what.Fate fate bytes }

-- a port without entries at which this was the only call
once : (p : PortSeen) (jobs : Jobs) (c : Call) (r : PortRound) → c.entry ≡ false → AllRight (opening_of p) [] → IsNext (opening_of p) [] c → [] ≡ jobs.first → job_of c.deed ∷ [] ≡ jobs.later
    → r ≡ record { port = p.number; before = 0; after = 0; lines = lines_of p.controllers (c ∷ []) 0 0 } → IsPortRound 1 p [] jobs r
once p jobs c r read right next first later is = round_of_goes 1 p [] [] [] (c ∷ []) jobs r goes first later is
  where
    none : entries_of (c ∷ []) ≡ []
    none = rw read refl

    goes : Goes (opening_of p) [] [] (c ∷ [])
    goes = subst (λ h. Goes (opening_of p) [] h (c ∷ [])) none (goes_on (opening_of p) [] [] [] c (goes_none (opening_of p) [] right) next)

-- and one at which none was
never : (p : PortSeen) (jobs : Jobs) (r : PortRound) → AllRight (opening_of p) [] → [] ≡ jobs.first → [] ≡ jobs.later → r ≡ record { port = p.number; before = 0; after = 0; lines = lines_of p.controllers [] 0 0 } → IsPortRound 1 p [] jobs r
never p jobs r right first later is = round_of_goes 1 p [] [] [] [] jobs r (goes_none (opening_of p) [] right) first later is

abbrev round : List ToldLine → List ToldLine → Round
round firsts seconds = record { first = 0; ports = told 1 firsts ∷ told 2 seconds ∷ []; loose = [] }

-- the packet passes both ports
pub passes_both : IsReport (setting []) (captured plain_frame) (codes "vsw report 1\nround 0\nport 1 0 0\nw0 0 @0 pass 44 02000000009902000000000108004500001e00004000401126c20a0000050a00000904d20035000a7e5c6869\nport 2 0 0\nw0 0 @0 pass 44 02000000009902000000000108004500001e00004000401126c20a0000050a00000904d20035000a7e5c6869\nloose\n")
unfolding port_line digits encode_with frame_in walk_of
passes_both =
    let r = round (line (Pass 44) plain_frame ∷ []) (line (Pass 44) plain_frame ∷ []) in record {
      rounds = r ∷ [];
      are = record {
        histories = [] ∷ [] ∷ [];
        right = (tt, (tt, tt));
        are = (
          record {
            first_is = refl;
            loose = refl;
            ports = (
              once _ _ (call 0x020000000099 Out plain_frame (Pass 44) plain_frame) _ refl tt (record { last = refl; done = Reading refl (refl, refl); shows = refl }) refl refl refl,
              (once _ _ (call 0x020000000099 In plain_frame (Pass 44) plain_frame) _ refl tt (record { last = refl; done = Reading refl (refl, refl); shows = refl }) refl refl refl, tt),
            );
          },
          tt,
        );
        chained = (refl, refl);
      };
      text_is = refl;
    }

-- the second port drops it inbound
pub dropped_at_second : IsReport (setting (closed ∷ [])) (captured plain_frame) (codes "vsw report 1\nround 0\nport 1 0 0\nw0 0 @0 pass 44 02000000009902000000000108004500001e00004000401126c20a0000050a00000904d20035000a7e5c6869\nport 2 0 0\nw0 0 @0 drop default 1/10 in\nloose\n")
unfolding port_line digits encode_with frame_in walk_of layer_text dir_text
dropped_at_second =
    let cause : Fate = Drop (Default 1 10 In) in
    let r = round (line (Pass 44) plain_frame ∷ []) (line cause [] ∷ []) in record {
      rounds = r ∷ [];
      are = record {
        histories = [] ∷ [] ∷ [];
        right = (tt, (tt, tt));
        are = (
          record {
            first_is = refl;
            loose = refl;
            ports = (
              once _ _ (call 0x020000000099 Out plain_frame (Pass 44) plain_frame) _ refl tt (record { last = refl; done = Reading refl (refl, refl); shows = refl }) refl refl refl,
              (once _ _ (call 0x020000000099 In plain_frame cause []) _ refl tt (record { last = refl; done = Reading refl (refl, refl); shows = refl }) refl refl refl, tt),
            );
          },
          tt,
        );
        chained = (refl, refl);
      };
      text_is = refl;
    }

-- to the port's own address
abbrev own_frame : List ℕ
own_frame = spelled (codes "02000000000102000000000108004500001e00004000401126c20a0000050a00000904d20035000a7e5c6869")

-- that goes nowhere else
pub stays : IsReport (setting []) (captured own_frame) (codes "vsw report 1\nround 0\nport 1 0 0\nw0 0 @0 pass 44 02000000000102000000000108004500001e00004000401126c20a0000050a00000904d20035000a7e5c6869\nport 2 0 0\nloose\n")
unfolding port_line digits encode_with frame_in walk_of
stays =
    let r = round (line (Pass 44) own_frame ∷ []) [] in record {
      rounds = r ∷ [];
      are = record {
        histories = [] ∷ [] ∷ [];
        right = (tt, (tt, tt));
        are = (
          record {
            first_is = refl;
            loose = refl;
            ports = (
              once _ _ (call 0x020000000001 Out own_frame (Pass 44) own_frame) _ refl tt (record { last = refl; done = Reading refl (refl, refl); shows = refl }) refl refl refl,
              (never _ _ _ tt refl refl refl, tt),
            );
          },
          tt,
        );
        chained = (refl, refl);
      };
      text_is = refl;
    }
