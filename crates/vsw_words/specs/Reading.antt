-- A body read back from its words.
use Rattle.std.specs.Prelude.{◌≡◌, ℕ, ◌+◌, ◌*◌, ◌/◌, ◌%◌, ◌^◌, ◌<◌, ◌≤◌, ◌==◌, ◌&&◌, List, [], ◌∷◌, Bool, true, false, Option, Some, None, nat_lt, option_map, zero, suc, length, get_or, if◌then◌else◌}
use Rattle.vsw_base.specs.declared.header.Header.{Header}
use Rattle.vsw_base.specs.declared.header.Header.TheVariants.{Ether, Ip, Vxlan, Ports, Six}
use Rattle.vsw_base.specs.declared.packet.Dir.TheVariants.{Out, In}
use Rattle.vsw_base.specs.declared.fate.Verdict.{Verdict}
use Rattle.vsw_base.specs.declared.fate.Verdict.TheVariants.{Pass, Rule, Default}
use Rattle.vsw_base.specs.Fits.{IsFit}
use Rattle.vsw_transpose.specs.declared.act.Change.{Change}
use Rattle.vsw_transpose.specs.declared.act.Change.TheVariants as of
use Rattle.vsw_transpose.specs.declared.act.Act.{Act}
use Rattle.vsw_transpose.specs.declared.act.Act.TheVariants.{Push, Pop, Modify, Ignore}
use Rattle.vsw_transpose.specs.Form.{is_form}
use Rattle.vsw_words.specs.Row.{act_words, all_halves, dropper_word, last_words, body_words, IsBare}

-- a field that may be absent is below a bound
abbrev pub IsBelow : ℕ → Option ℕ → Type 0
IsBelow bound None = Unit {0}
IsBelow bound (Some n) = n < bound

-- the numbers of an act lie in the ranges of their fields
abbrev pub IsActFit : Act → Type 0
IsActFit (Push h) = IsFit h
IsActFit (Modify (of.Ether dst src)) = IsBelow (2 ^ 48) dst × IsBelow (2 ^ 48) src
IsActFit (Modify (of.Ip src dst)) = IsBelow (2 ^ 32) src × IsBelow (2 ^ 32) dst
IsActFit (Modify (of.Ports src dst)) = IsBelow (2 ^ 16) src × IsBelow (2 ^ 16) dst
IsActFit (Modify (of.Six src dst)) = IsBelow (2 ^ 128) src × IsBelow (2 ^ 128) dst
IsActFit Pop = Unit {0}
IsActFit Ignore = Unit {0}

-- what the types of an act's fields say; that a network is below 2^24 is of the form of a transposition
abbrev pub IsRanged : Act → Type 0
IsRanged (Push (Ether dst src kind)) = IsFit (Ether dst src kind)
IsRanged (Push (Ip src dst proto part)) = IsFit (Ip src dst proto part)
IsRanged (Push (Vxlan vni)) = Unit {0}
IsRanged (Push (Ports proto src dst)) = IsFit (Ports proto src dst)
IsRanged (Push (Six src dst proto)) = IsFit (Six src dst proto)
IsRanged Pop = Unit {0}
IsRanged (Modify c) = IsActFit (Modify c)
IsRanged Ignore = Unit {0}

abbrev pub AreRanged : List Act → Type 0
AreRanged [] = Unit {0}
AreRanged (x ∷ xs) = IsRanged x × AreRanged xs

-- so it is of each
abbrev pub AreActsFit : List Act → Type 0
AreActsFit [] = Unit {0}
AreActsFit (x ∷ xs) = IsActFit x × AreActsFit xs

-- and so do those of a verdict
abbrev pub IsVerdictFit : Verdict → Type 0
IsVerdictFit Pass = Unit {0}
IsVerdictFit (Rule controller layer group rule) = (controller < 2 ^ 16) × (layer < 2 ^ 16) × (group < 2 ^ 16) × (rule < 2 ^ 16)
IsVerdictFit (Default controller layer dir) = (controller < 2 ^ 16) × (layer < 2 ^ 16)

-- the source of a change of IPv6 that writes the source alone, and the destination of one that writes it alone
abbrev pub lone_src : Act → Option ℕ
lone_src (Push h) = None
lone_src Pop = None
lone_src (Modify (of.Ether dst src)) = None
lone_src (Modify (of.Ip src dst)) = None
lone_src (Modify (of.Ports src dst)) = None
lone_src (Modify (of.Six src None)) = src
lone_src (Modify (of.Six src (Some dst))) = None
lone_src Ignore = None

-- the destination of a change of IPv6 that writes it alone
abbrev pub lone_dst : Act → Option ℕ
lone_dst (Push h) = None
lone_dst Pop = None
lone_dst (Modify (of.Ether dst src)) = None
lone_dst (Modify (of.Ip src dst)) = None
lone_dst (Modify (of.Ports src dst)) = None
lone_dst (Modify (of.Six None dst)) = dst
lone_dst (Modify (of.Six (Some src) dst)) = None
lone_dst Ignore = None

-- both as one change
abbrev pub both_of : Option ℕ → Option ℕ → Option Act
both_of None dst = None
both_of (Some src) None = None
both_of (Some src) (Some dst) = Some (Modify (of.Six (Some src) (Some dst)))

-- a change of both in place of two acts, or the first of them before what becomes of those behind it
abbrev pub joined_by : Option Act → Act → List Act → List Act → List Act
joined_by None act behind rest = act ∷ behind
joined_by (Some both) act behind rest = both ∷ rest

-- acts of a row as acts of a transposition: a lone source and a lone destination directly behind it are one change
abbrev pub joined_acts : List Act → List Act
joined_acts [] = []
joined_acts (x ∷ []) = x ∷ []
joined_acts (x ∷ y ∷ ys) = joined_by (both_of (lone_src x) (lone_dst y)) x (joined_acts (y ∷ ys)) (joined_acts ys)

-- what a row may say is done with packets: acts of the form of a transposition, none for a drop, and numbers in their ranges. A row has room for
-- eighteen acts, and no lone source of IPv6 stands directly before a lone destination, since they would be read as one change. All acts that fit
-- a stack are so.
pub record IsBody (verdict : Verdict) (by : List Act) : Type 0 where
  pub form : is_form by ≡ true
  pub bare : IsBare verdict by
  pub acts : AreActsFit by
  pub numbers : IsVerdictFit verdict
  pub few : length (all_halves by) ≤ 18
  pub apart : joined_acts (all_halves by) ≡ by

abbrev pub are_zero : List ℕ → Bool
are_zero [] = true
are_zero (word ∷ words) = (word == 0) && are_zero words

-- a field, if it is there
abbrev pub field : Bool → ℕ → Option ℕ
field false n = None
field true n = Some n

abbrev pub has_first : ℕ → Bool
has_first head = head / 16 % 2 == 1

abbrev pub has_second : ℕ → Bool
has_second head = head / 32 % 2 == 1

abbrev pub mac : ℕ → ℕ
mac word = word % 2 ^ 48

abbrev pub ip4 : ℕ → ℕ
ip4 word = word % 2 ^ 32

abbrev pub port : ℕ → ℕ
port word = word % 65536

abbrev pub ip6 : ℕ → ℕ → ℕ
ip6 high low = high * 2 ^ 64 + low

abbrev pub ether_by : ℕ → ℕ → ℕ → Header
ether_by head first second = Ether (mac first) (mac second) (head / 65536 % 65536)

abbrev pub ip_by : ℕ → ℕ → ℕ → Header
ip_by head first second = Ip (ip4 first) (ip4 second) (head / 65536 % 256) false

abbrev pub vxlan_by : ℕ → Header
vxlan_by head = Vxlan (head / 65536 % 16777216)

abbrev pub ether_change : ℕ → ℕ → ℕ → Change
ether_change head first second = of.Ether (field (has_first head) (mac first)) (field (has_second head) (mac second))

abbrev pub ip_change : ℕ → ℕ → ℕ → Change
ip_change head first second = of.Ip (field (has_first head) (ip4 first)) (field (has_second head) (ip4 second))

abbrev pub ports_change : ℕ → ℕ → ℕ → Change
ports_change head first second = of.Ports (field (has_first head) (port first)) (field (has_second head) (port second))

-- the act that three words of an act are of; of others it is some act or none
abbrev pub act_by : ℕ → ℕ → ℕ → Option Act
act_by head first second =
    if head % 16 == 1 then Some (Push (ether_by head first second))
    else if head % 16 == 2 then Some (Push (ip_by head first second))
    else if head % 16 == 3 then Some (Push (vxlan_by head))
    else if head % 16 == 4 then Some Pop
    else if head % 16 == 5 then Some (Modify (ether_change head first second))
    else if head % 16 == 6 then Some (Modify (ip_change head first second))
    else if head % 16 == 7 then Some (Modify (ports_change head first second))
    else if head % 16 == 8 then Some Ignore
    else if head % 16 == 9 then Some (Modify (of.Six (Some (ip6 first second)) None))
    else if head % 16 == 10 then Some (Modify (of.Six None (Some (ip6 first second))))
    else None

-- the words are the act's
abbrev pub is_of : Act → ℕ → ℕ → ℕ → Bool
is_of act head first second = (get_or (act_words act) 0 0 == head) && (get_or (act_words act) 1 0 == first) && (get_or (act_words act) 2 0 == second)

abbrev pub if_of : Option Act → ℕ → ℕ → ℕ → Option Act
if_of None head first second = None
if_of (Some act) head first second = if is_of act head first second then Some act else None

-- the act of three words, if they are an act's
unfoldable pub read_act : ℕ → ℕ → ℕ → Option Act
read_act head first second = if_of (act_by head first second) head first second

abbrev pub with_act : Option Act → Option (List Act) → Option (List Act)
with_act None acts = None
with_act (Some act) None = None
with_act (Some act) (Some acts) = Some (act ∷ acts)

-- so many acts, with 0 behind them
abbrev pub read_acts : ℕ → List ℕ → Option (List Act)
read_acts zero words = if are_zero words then Some [] else None
read_acts (suc n) (head ∷ first ∷ second ∷ words) = with_act (read_act head first second) (read_acts n words)
read_acts (suc n) words = None

-- and these as acts of a transposition
abbrev pub read_joined : ℕ → List ℕ → Option (List Act)
read_joined n words = option_map joined_acts (read_acts n words)

-- the address that the words of a lone source or a lone destination of IPv6 tell
abbrev pub src_of : ℕ → ℕ → ℕ → Option ℕ
src_of head first second = if head % 16 == 9 then Some (ip6 first second) else None

abbrev pub dst_of : ℕ → ℕ → ℕ → Option ℕ
dst_of head first second = if head % 16 == 10 then Some (ip6 first second) else None

-- the destination, where the first of so many acts is a lone one
abbrev pub dst_ahead : ℕ → List ℕ → Option ℕ
dst_ahead zero words = None
dst_ahead (suc n) (head ∷ first ∷ second ∷ words) = dst_of head first second
dst_ahead (suc n) words = None

-- the verdict of its word and the word of who drops
abbrev pub verdict_of : ℕ → ℕ → Option Verdict
verdict_of word dropper =
    if word == 0 then Some Pass
    else if word == 1 then Some (Rule (dropper % 65536) (dropper / 2 ^ 16 % 65536) (dropper / 2 ^ 32 % 65536) (dropper / 2 ^ 48 % 65536))
    else if (word == 2) && nat_lt dropper (2 ^ 32) then Some (Default (dropper % 65536) (dropper / 2 ^ 16 % 65536) Out)
    else if (word == 3) && nat_lt dropper (2 ^ 32) then Some (Default (dropper % 65536) (dropper / 2 ^ 16 % 65536) In)
    else None

-- the word of who drops is the verdict's, if it drops
abbrev pub IsDropper : Verdict → ℕ → Type 0
IsDropper Pass dropper = Unit {0}
IsDropper verdict dropper = dropper ≡ dropper_word verdict

-- the number of acts and what stands behind it are those of a body
pub record IsLast (verdict : Verdict) (count : ℕ) (last : List ℕ) (by : List Act) : Type 0 where
  pub acts : count ≡ length (all_halves by)
  pub are : last ≡ last_words verdict by
  pub form : is_form by ≡ true
  pub bare : IsBare verdict by
  pub apart : joined_acts (all_halves by) ≡ by

-- the words are those of a body
pub record IsTold (words : List ℕ) (verdict : Verdict) (by : List Act) (until : ℕ) : Type 0 where
  pub are : words ≡ body_words verdict by until
  pub form : is_form by ≡ true
  pub bare : IsBare verdict by
  pub apart : joined_acts (all_halves by) ≡ by

-- the acts, if they were read
abbrev pub or_none : Option (List Act) → List Act
or_none None = []
or_none (Some acts) = acts
