-- States of a pair of flows (RFC 9293, section 3.3.2, as far as a switch between the ends can tell), row by
-- row: a state, and what each control of a packet of direction d makes of it.
use Rattle.std.specs.Prelude.{◌≡◌, ◌↔◌, ◌⊎◌, if◌then◌else◌}
use Rattle.vsw_base.specs.Direction.{same_dir}
use Rattle.vsw_base.specs.declared.flow.Track.{Track}
use Rattle.vsw_base.specs.declared.flow.Track.TheVariants.{Plain, Opening, Open, Half, Closed}
use Rattle.vsw_base.specs.declared.packet.Control.{Control}
use Rattle.vsw_base.specs.declared.packet.Control.TheVariants.{None, Syn, SynAck, Fin, Rst}
use Rattle.vsw_base.specs.declared.packet.Dir.{Dir}
use Rattle.vsw_layerflow.specs.declared.tcp_state.Tracked.{Tracked}
use Rattle.vsw_layerflow.specs.declared.tcp_state.Tracked.TheVariants.{To, Reopen}

-- the state of a pair that a packet makes
abbrev pub opening_of : Control → Dir → Track
opening_of Rst d = Closed
opening_of Fin d = Half d
opening_of SynAck d = Open
opening_of Syn d = Opening
opening_of None d = Open

-- what a packet makes of a pair that a packet of direction p made
abbrev pub track_of : Track → Dir → Control → Dir → Tracked
track_of Opening p Rst d = To Closed
track_of Opening p Fin d = To (Half d)
track_of Opening p SynAck d = To (if same_dir d p then Opening else Open)
track_of Opening p Syn d = To Opening
track_of Opening p None d = To Opening
track_of Open p Rst d = To Closed
track_of Open p Fin d = To (Half d)
track_of Open p SynAck d = To Open
track_of Open p Syn d = To Open
track_of Open p None d = To Open
track_of (Half e) p Rst d = To Closed
track_of (Half e) p Fin d = To (if same_dir d e then Half e else Closed)
track_of (Half e) p SynAck d = To (Half e)
track_of (Half e) p Syn d = To (Half e)
track_of (Half e) p None d = To (Half e)
track_of Closed p Rst d = To Closed
track_of Closed p Fin d = To Closed
track_of Closed p SynAck d = To Closed
track_of Closed p Syn d = Reopen
track_of Closed p None d = To Closed
-- not unfragmented TCP, for good
track_of Plain p control d = To Plain

-- nothing but a re-opening leads away from Closed
abbrev pub StaysClosed : Type 0
StaysClosed = (p : Dir) (control : Control) (d : Dir) → (track_of Closed p control d ≡ To Closed) ⊎ (track_of Closed p control d ≡ Reopen)

-- nothing leads away from Plain, or to it
abbrev pub StaysPlain : Type 0
StaysPlain = (now : Track) (p : Dir) (control : Control) (d : Dir) → (track_of now p control d ≡ To Plain) ↔ (now ≡ Plain)

-- a packet without a control moves no state
abbrev pub StaysUncontrolled : Type 0
StaysUncontrolled = (now : Track) (p d : Dir) → track_of now p None d ≡ To now
