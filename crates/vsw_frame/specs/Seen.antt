-- What the reader's values say, in the words of the definition of a frame.
use Rattle.std.specs.Prelude.{◌≡◌, ◌≤◌, ◌+◌, ◌*◌, true, false, ◌<◌, ◌||◌, ◌&&◌, ℕ, zero, suc, Bool, List, [], ◌∷◌, ◌++◌, length, take, drop, Option, Some, None, Result, Ok, Err}
use Rattle.vsw_base.specs.declared.fault.BadFrame.{BadFrame}
use Rattle.vsw_base.specs.Ethernet.{EtherFields}
use Rattle.vsw_base.specs.Frame.{◌>>=◌, opened_ip6}
use Rattle.vsw_base.specs.Frame as frame
use Rattle.vsw_base.specs.Ipv6.{ip6_of}
use Rattle.vsw_header.specs.Tcp.{tcp_view}
use Rattle.vsw_header.specs.Udp.{udp_view}
use Rattle.vsw_frame.specs.declared.opened.End.{End}
use Rattle.vsw_frame.specs.declared.opened.End.TheVariants.{Rest, OverTcp, OverUdp, OverUdp6}
use Rattle.vsw_frame.specs.declared.opened.Opened.{Opened}
use Rattle.vsw_frame.specs.declared.opened.Inner.{Inner}
use Rattle.vsw_frame.specs.declared.found.Found.{Found}
use Rattle.vsw_frame.specs.declared.frame.Level.{Level}
use Rattle.vsw_frame.specs.Levels.{level_fields, more_levels}
use Rattle.vsw_base.specs.declared.header.Header.{Header}
use Rattle.vsw_base.specs.declared.header.Header.TheVariants.{Ether, Ip, Vxlan, Ports, Six}
use Rattle.vsw_base.specs.Shape.{is_plain, is_encap}

abbrev pub end_fields : End → frame.End
end_fields (Rest payload) = frame.Rest payload.now
end_fields (OverTcp t) = frame.OverTcp (tcp_view t)
end_fields (OverUdp u) = frame.OverUdp (udp_view u)
end_fields (OverUdp6 u) = frame.OverUdp6 (udp_view u)

abbrev pub end_seen : Result End BadFrame → Result frame.End BadFrame
end_seen (Ok end) = Ok (end_fields end)
end_seen (Err e) = Err e

-- the headers that were pushed
abbrev pub added : List Header → List Header → List Header
added old new = drop (length old) new

-- headers were pushed, and none was changed
abbrev pub Adds : List Header → List Header → Type 0
Adds old new = new ≡ old ++ added old new

-- one frame that was opened, with the headers that were pushed
abbrev pub opened_fields : List Header → Opened → frame.Opened
opened_fields front o = record { front = front; trailer = o.trailer.now; end = end_fields o.end }

abbrev pub opened_seen : List Header → Result Opened BadFrame → Result frame.Opened BadFrame
opened_seen front (Ok o) = Ok (opened_fields front o)
opened_seen front (Err e) = Err e

-- Ethernet and IPv4
abbrev pub is_ip_front : List Header → Bool
is_ip_front [] = false
is_ip_front (Ether d s k ∷ []) = false
is_ip_front (Ether d s k ∷ Ether e t l ∷ hs) = false
is_ip_front (Ether d s k ∷ Ip a b p f ∷ []) = true
is_ip_front (Ether d s k ∷ Ip a b p f ∷ h ∷ hs) = false
is_ip_front (Ether d s k ∷ Vxlan v ∷ hs) = false
is_ip_front (Ether d s k ∷ Ports p x y ∷ hs) = false
is_ip_front (Ether d s k ∷ Six a b p ∷ hs) = false
is_ip_front (Ip a b p f ∷ hs) = false
is_ip_front (Vxlan v ∷ hs) = false
is_ip_front (Ports p x y ∷ hs) = false
is_ip_front (Six a b p ∷ hs) = false

-- UDP in which an encapsulation is looked for stands behind IPv4
abbrev pub IsOver : List Header → frame.End → Type 0
IsOver front (frame.Rest payload) = Unit {0}
IsOver front (frame.OverTcp t) = Unit {0}
IsOver front (frame.OverUdp u) = is_ip_front front ≡ true
IsOver front (frame.OverUdp6 u) = Unit {0}

-- what stands behind an Ethernet header of the type of IPv6
abbrev pub opened_six : EtherFields → Result frame.Opened BadFrame
opened_six e = ip6_of e.rest >>= opened_ip6 e

-- what was found in a frame, with the headers that were pushed
abbrev pub found_parts : List Header → Found → frame.Parts
found_parts hs f = record { stack = hs; control = f.control; levels = level_fields f.first ∷ (more_levels f.second ++ more_levels f.third); payload = f.payload.now }

abbrev pub found_seen : List Header → Result Found BadFrame → Result frame.Parts BadFrame
found_seen hs (Ok f) = Ok (found_parts hs f)
found_seen hs (Err e) = Err e

-- an encapsulation that was found
abbrev pub inner_seen : Option Inner → Option (ℕ × List ℕ)
inner_seen None = None
inner_seen (Some i) = Some (i.vni, i.frame.now)

-- a plain frame in at most so many encapsulations
abbrev pub is_within : ℕ → List Header → Bool
is_within zero hs = is_plain hs
is_within (suc n) hs = is_plain hs || (is_encap (take 3 hs) && is_within n (drop 3 hs))

-- a level of at most so many bytes, where it is there
abbrev pub IsShort : ℕ → Option Level → Type 0
IsShort n None = Unit {0}
IsShort n (Some l) = length l.bytes.now ≤ n

-- what is known of a frame in whose bytes so many encapsulations were looked for, and of its headers
pub record Finds (depth : ℕ) (bytes : List ℕ) (hs : List Header) (f : Found) : Type 0 where
  pub shape : is_within depth hs ≡ true
  pub room : length hs ≤ 3 * depth + 3
  pub whole : f.first.bytes.now ≡ bytes
  pub second : depth < 1 → f.second ≡ None
  pub third : depth < 2 → f.third ≡ None
  pub in_order : f.second ≡ None → f.third ≡ None
  pub second_short : IsShort (length bytes) f.second
  pub third_short : IsShort (length bytes) f.third

-- bytes of a level, 0 where it isn't there
abbrev pub size_of : Option Level → ℕ
size_of None = 0
size_of (Some l) = length l.bytes.now
