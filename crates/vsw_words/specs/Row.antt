-- The 73 words of a row: sixteen of an identity, then 57 of what is done with its packets, the body. docs/FORMATS.md has them as a table.
use Rattle.std.specs.Prelude.{◌≡◌, ℕ, ◌+◌, ◌*◌, ◌/◌, ◌%◌, ◌-◌, ◌^◌, ◌==◌, List, [], ◌∷◌, ◌++◌, Bool, true, false, Option, Some, None, is_some, not, nat_le, ◌&&◌, flat_map, min, max, length, replicate, get_or, if◌then◌else◌}
use Rattle.vsw_base.specs.declared.header.Header.TheVariants.{Ether, Ip, Vxlan, Ports, Six}
use Rattle.vsw_base.specs.declared.packet.Dir.TheVariants.{Out, In}
use Rattle.vsw_base.specs.declared.fate.Verdict.{Verdict}
use Rattle.vsw_base.specs.declared.fate.Verdict.TheVariants.{Pass, Rule, Default}
use Rattle.vsw_base.specs.declared.flow.Ufid.{Ufid}
use Rattle.vsw_transpose.specs.declared.act.Change.{Change}
use Rattle.vsw_transpose.specs.declared.act.Change.TheVariants as of
use Rattle.vsw_transpose.specs.declared.act.Act.{Act}
use Rattle.vsw_transpose.specs.declared.act.Act.TheVariants.{Push, Pop, Modify, Ignore}
use Rattle.vsw_words.specs.Key.{joined, bit, key_words}

-- the verdict's word: pass, drop by a rule, drop by the default for outbound and for inbound packets
abbrev pub verdict_word : Verdict → ℕ
verdict_word Pass = 0
verdict_word (Rule controller layer group rule) = 1
verdict_word (Default controller layer Out) = 2
verdict_word (Default controller layer In) = 3

-- the bounds of four numbers of 16 bits in one word
abbrev pub four_bounds : List ℕ
four_bounds = 2 ^ 16 ∷ 2 ^ 16 ∷ 2 ^ 16 ∷ 2 ^ 16 ∷ []

-- who drops: controller, layer, group and rule, sixteen bits each, the controller lowest; a default has no group and no rule
abbrev pub dropper_word : Verdict → ℕ
dropper_word Pass = 0
dropper_word (Rule controller layer group rule) = joined four_bounds (controller ∷ layer ∷ group ∷ rule ∷ [])
dropper_word (Default controller layer dir) = joined four_bounds (controller ∷ layer ∷ 0 ∷ 0 ∷ [])

-- an act's first word: its kind in bits 0 to 3, whether its first and second field are there in bits 4 and 5, and more from bit 16 on
abbrev pub act_head : ℕ → Bool → Bool → ℕ → ℕ
act_head kind first second more = kind + 16 * bit first + 32 * bit second + 65536 * more

-- a field that isn't there is 0
abbrev pub or_zero : Option ℕ → ℕ
or_zero None = 0
or_zero (Some n) = n

-- the words of one address of IPv6: its halves stand in the place of both fields
abbrev pub six_words : ℕ → Bool → ℕ → List ℕ
six_words kind first address = act_head kind first (not first) 0 ∷ address / 2 ^ 64 ∷ address % 2 ^ 64 ∷ []

-- a change as acts of a row: one of both addresses of IPv6 is one of the source and then one of the destination
abbrev pub change_halves : Change → List Act
change_halves (of.Ether dst src) = Modify (of.Ether dst src) ∷ []
change_halves (of.Ip src dst) = Modify (of.Ip src dst) ∷ []
change_halves (of.Ports src dst) = Modify (of.Ports src dst) ∷ []
change_halves (of.Six None dst) = Modify (of.Six None dst) ∷ []
change_halves (of.Six (Some src) None) = Modify (of.Six (Some src) None) ∷ []
change_halves (of.Six (Some src) (Some dst)) = Modify (of.Six (Some src) None) ∷ Modify (of.Six None (Some dst)) ∷ []

-- an act as acts of a row, each of which three words tell
abbrev pub halves : Act → List Act
halves (Push h) = Push h ∷ []
halves Pop = Pop ∷ []
halves (Modify c) = change_halves c
halves Ignore = Ignore ∷ []

-- the destination, where a change writes both addresses of IPv6
abbrev pub second_half : Act → Option ℕ
second_half (Push h) = None
second_half Pop = None
second_half (Modify (of.Ether dst src)) = None
second_half (Modify (of.Ip src dst)) = None
second_half (Modify (of.Ports src dst)) = None
second_half (Modify (of.Six None dst)) = None
second_half (Modify (of.Six (Some src) dst)) = dst
second_half Ignore = None

-- the acts of a row
abbrev pub all_halves : List Act → List Act
all_halves xs = flat_map halves xs

-- the three words of an act of a row: its first word and its two fields. No transposition pushes ports or IPv6, or changes no address of IPv6;
-- of a change of both it is the first half's.
abbrev pub act_words : Act → List ℕ
act_words (Push (Ether dst src kind)) = act_head 1 true true kind ∷ dst ∷ src ∷ []
act_words (Push (Ip src dst proto part)) = act_head 2 true true proto ∷ src ∷ dst ∷ []
act_words (Push (Vxlan vni)) = act_head 3 false false vni ∷ 0 ∷ 0 ∷ []
act_words (Push (Ports proto src dst)) = 0 ∷ 0 ∷ 0 ∷ []
act_words (Push (Six src dst proto)) = 0 ∷ 0 ∷ 0 ∷ []
act_words Pop = act_head 4 false false 0 ∷ 0 ∷ 0 ∷ []
act_words (Modify (of.Ether dst src)) = act_head 5 (is_some dst) (is_some src) 0 ∷ or_zero dst ∷ or_zero src ∷ []
act_words (Modify (of.Ip src dst)) = act_head 6 (is_some src) (is_some dst) 0 ∷ or_zero src ∷ or_zero dst ∷ []
act_words (Modify (of.Ports src dst)) = act_head 7 (is_some src) (is_some dst) 0 ∷ or_zero src ∷ or_zero dst ∷ []
act_words (Modify (of.Six (Some src) dst)) = six_words 9 true src
act_words (Modify (of.Six None (Some dst))) = six_words 10 false dst
act_words (Modify (of.Six None None)) = 0 ∷ 0 ∷ 0 ∷ []
act_words Ignore = act_head 8 false false 0 ∷ 0 ∷ 0 ∷ []

-- acts, one behind the other
abbrev pub acts_words : List Act → List ℕ
acts_words [] = []
acts_words (x ∷ xs) = act_words x ++ acts_words xs

-- so many words: the given ones, and 0 behind them
abbrev pub filled : ℕ → List ℕ → List ℕ
filled n words = words ++ replicate (n - length words) 0

-- what stands behind the count of acts: the acts of a pass, or who drops
abbrev pub last_words : Verdict → List Act → List ℕ
last_words Pass by = filled 54 (acts_words (all_halves by))
last_words verdict by = filled 54 (dropper_word verdict ∷ [])

-- the words of a body: verdict, until, the number of acts of the row, and 54 more
unfoldable pub body_words : Verdict → List Act → ℕ → List ℕ
body_words verdict by until = verdict_word verdict ∷ until ∷ length (all_halves by) ∷ last_words verdict by

-- the words of a row
unfoldable pub row_words : Ufid → Verdict → List Act → ℕ → List ℕ
row_words id verdict by until = key_words id.dir id.stack ++ body_words verdict by until

-- a drop does nothing to the headers
abbrev pub IsBare : Verdict → List Act → Type 0
IsBare Pass by = Unit {0}
IsBare verdict by = by ≡ []

-- a key's first word says that there are no encapsulations (bits 2 and 3) and no IPv6 (bit 7)
abbrev pub is_plain_head : ℕ → Bool
is_plain_head head = (head / 4 % 4 == 0) && (head / 128 % 2 == 0)

-- the number of words beyond which a body is 0, by its verdict's word and its number of acts: three, and three for each act of a pass; or who drops
abbrev pub body_in_use : ℕ → ℕ → ℕ
body_in_use verdict count = if verdict == 0 then 3 + 3 * min count 18 else 4

-- the number of words beyond which a row is 0, in the order in which a look loads them, by its first word and by so many words of its body. Of a plain
-- key the four that are loaded first are in use, and 27 of the body are loaded behind them. Where that isn't enough, the key's other twelve are loaded, too
-- (43 in all), and then what is left of the body.
abbrev pub row_in_use : ℕ → ℕ → ℕ
row_in_use head body = if is_plain_head head && nat_le body 27 then 4 + body else max 43 (16 + body)

-- the same, as the seven words tell it that are loaded first: words 0, 2, 3 and 8 of the key, and the first three of the body
abbrev pub in_use : List ℕ → ℕ
in_use words = row_in_use (get_or words 0 0) (body_in_use (get_or words 4 0) (get_or words 6 0))
