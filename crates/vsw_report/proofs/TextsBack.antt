-- Lines are read back from their text.
use Rattle.std.proofs.Common.{◌≡◌, ℕ, ◌^◌, ◌<◌, ◌==◌, Bool, true, false, List, [], ◌∷◌, ◌++◌, length, Some, refl, sym, ap, ap₂, ◌∙◌, subst, append_assoc, arith}
use Rattle.std.specs.Prelude.{decimal, codes, bytes_eq, option_and_then}
use Rattle.std.specs.List.{flat_map, slice_split}
use Rattle.std.proofs.lemmas.Bool.{cond-true}
use Rattle.std.proofs.lemmas.List.Splits.{slice_split_at}
use Rattle.vsw_base.specs.Fault.{fault_number, fault_name}
use Rattle.vsw_base.specs.declared.fault.BadFrame.{BadFrame}
use Rattle.vsw_base.specs.declared.fault.BadFrame.TheVariants as fault
use Rattle.vsw_base.specs.declared.fate.Cause.{Cause}
use Rattle.vsw_base.specs.declared.fate.Cause.TheVariants.{Rule, Default, Long, Full, Taken, Memory}
use Rattle.vsw_base.specs.declared.fate.Fate.{Fate}
use Rattle.vsw_base.specs.declared.fate.Fate.TheVariants.{Pass, Drop}
use Rattle.vsw_base.specs.declared.packet.Dir.{Dir}
use Rattle.vsw_base.specs.declared.packet.Dir.TheVariants.{Out, In}
use Rattle.vsw_policy.specs.Refusals.{refusal_number, refusal_name}
use Rattle.vsw_policy.specs.declared.refusal.Refusal.{Refusal}
use Rattle.vsw_policy.specs.declared.refusal.Refusal.TheVariants as refusal
use Rattle.vsw_policy.specs.declared.refusal.Reply.{Reply}
use Rattle.vsw_policy.specs.declared.refusal.Reply.TheVariants as reply
use Rattle.vsw_report.specs.declared.round.LooseCause.{LooseCause}
use Rattle.vsw_report.specs.declared.round.LooseCause.TheVariants.{Snapped, Malformed, NoPort}
use Rattle.vsw_report.specs.declared.told.By.{By}
use Rattle.vsw_report.specs.declared.told.By.TheVariants.{Worker, Controller}
use Rattle.vsw_report.specs.declared.told.What.{What}
use Rattle.vsw_report.specs.declared.told.What.TheVariants as what
use Rattle.vsw_report.specs.Proper.{IsProperCause, IsProperFate, Tells}
use Rattle.vsw_report.specs.Reading.{in_front, lines_in}
use Rattle.vsw_report.specs.Words.{Line, of_round, of_port, of_told, loose_begins, of_loose, text_of, line_of, line_in, if_text}
use Rattle.vsw_report.proofs.Fields.{slashed, spaced, dir_word, cause_words, fate_words, reply_words, what_words, by_word, sign, loose_words, words_of, text_is}
use Rattle.vsw_report.proofs.Free.{is_free, all_free, two, free_all, free_both, free_hex, free_high, free_joined, split_whole, free_whole, differs, bytes_self}
use Rattle.vsw_report.proofs.Numbers.{free_32, free_16, refusal_small, fault_small}
use Rattle.vsw_report.proofs.WordsBack.{IsFitLine, words_law}

-- ---- no word has a space or a line feed

dir_free : (c : ℕ) (dir : Dir) → c < 43 → is_free c (dir_word dir) ≡ true
dir_free c Out small = free_high c (codes "out") small refl
dir_free c In small = free_high c (codes "in") small refl

name_free : (c : ℕ) (r : Refusal) → c < 43 → is_free c (refusal_name r) ≡ true
name_free c refusal.NoLayer small = free_high c (codes "NoLayer") small refl
name_free c refusal.LayerExists small = free_high c (codes "LayerExists") small refl
name_free c refusal.NoGroup small = free_high c (codes "NoGroup") small refl
name_free c refusal.GroupExists small = free_high c (codes "GroupExists") small refl
name_free c refusal.NoRule small = free_high c (codes "NoRule") small refl
name_free c refusal.RuleExists small = free_high c (codes "RuleExists") small refl
name_free c refusal.ManyLayers small = free_high c (codes "ManyLayers") small refl
name_free c refusal.ManyGroups small = free_high c (codes "ManyGroups") small refl
name_free c refusal.ManyRules small = free_high c (codes "ManyRules") small refl
name_free c refusal.ManyParts small = free_high c (codes "ManyParts") small refl
name_free c refusal.PartTwice small = free_high c (codes "PartTwice") small refl
name_free c refusal.Memory small = free_high c (codes "Memory") small refl

fault_free : (c : ℕ) (f : BadFrame) → c < 43 → is_free c (fault_name f) ≡ true
fault_free c fault.ShortEther small = free_high c (codes "ShortEther") small refl
fault_free c fault.ShortIp small = free_high c (codes "ShortIp") small refl
fault_free c fault.IpVersion small = free_high c (codes "IpVersion") small refl
fault_free c fault.IpLength small = free_high c (codes "IpLength") small refl
fault_free c fault.ShortTcp small = free_high c (codes "ShortTcp") small refl
fault_free c fault.TcpOffset small = free_high c (codes "TcpOffset") small refl
fault_free c fault.ShortUdp small = free_high c (codes "ShortUdp") small refl
fault_free c fault.UdpLength small = free_high c (codes "UdpLength") small refl
fault_free c fault.TooLong small = free_high c (codes "TooLong") small refl
fault_free c fault.ShortIp6 small = free_high c (codes "ShortIp6") small refl
fault_free c fault.Ip6Version small = free_high c (codes "Ip6Version") small refl
fault_free c fault.Ip6Length small = free_high c (codes "Ip6Length") small refl

small_16 : (c n : ℕ) → c < 43 → n < 2 ^ 16 → is_free c (decimal n) ≡ true
small_16 c n small h = free_16 c n (omega (arith, small)) h

small_32 : (c n : ℕ) → c < 43 → n < 2 ^ 32 → is_free c (decimal n) ≡ true
small_32 c n small h = free_32 c n (omega (arith, small)) h

layer_free : (c k l : ℕ) → c < 43 → k < 2 ^ 16 → l < 2 ^ 16 → is_free c (slashed (decimal k ∷ decimal l ∷ [])) ≡ true
layer_free c k l small h i = free_joined c 47 (decimal k) (decimal l ∷ []) (differs c 47 (omega (arith, small))) (small_16 c k small h) (two (small_16 c l small i) refl)

rule_free : (c k l g r : ℕ) → c < 43 → k < 2 ^ 16 → l < 2 ^ 16 → g < 2 ^ 16 → r < 2 ^ 16 → is_free c (slashed (decimal k ∷ decimal l ∷ decimal g ∷ decimal r ∷ [])) ≡ true
rule_free c k l g r small h i j m =
    free_joined c 47 (decimal k) (decimal l ∷ decimal g ∷ decimal r ∷ []) (differs c 47 (omega (arith, small))) (small_16 c k small h)
    (two (small_16 c l small i) (two (small_16 c g small j) (two (small_16 c r small m) refl)))

cause_free : (c : ℕ) (cause : Cause) → c < 43 → IsProperCause cause → all_free c (cause_words cause) ≡ true
cause_free c (Rule k l g r) small h = two (free_high c (codes "rule") small refl) (two (rule_free c k l g r small h.0 h.1 h.2 h.3) refl)
cause_free c (Default k l dir) small h = two (free_high c (codes "default") small refl) (two (layer_free c k l small h.0 h.1) (two (dir_free c dir small) refl))
cause_free c Long small h = two (free_high c (codes "long") small refl) refl
cause_free c (Full k l) small h = two (free_high c (codes "full") small refl) (two (layer_free c k l small h.0 h.1) refl)
cause_free c (Taken k l pair) small h = two (free_high c (codes "taken") small refl) (two (layer_free c k l small h.0 h.1) (two (small_32 c pair small h.2) refl))
cause_free c Memory small h = two (free_high c (codes "memory") small refl) refl

fate_free : (c : ℕ) (fate : Fate) (bytes : List ℕ) → c < 43 → IsProperFate fate bytes → all_free c (fate_words fate bytes) ≡ true
fate_free c (Pass len) bytes small h = two (free_high c (codes "pass") small refl) (two (small_32 c len small h.0) (two (free_hex c bytes (omega (arith, small)) h.2) refl))
fate_free c (Drop cause) bytes small h = two (free_high c (codes "drop") small refl) (cause_free c cause small h.1)

reply_free : (c : ℕ) (r : Reply) → c < 43 → all_free c (reply_words r) ≡ true
reply_free c reply.Ok small = two (free_high c (codes "ok") small refl) refl
reply_free c (reply.Refused why) small =
    two (free_high c (codes "refused") small refl) (two (small_16 c (refusal_number why) small (refusal_small why)) (two (name_free c why small) refl))

sign_free : (c : ℕ) (s : Bool) (xs : List ℕ) → c < 43 → is_free c xs ≡ true → is_free c (sign s ∷ xs) ≡ true
sign_free c true xs small e = free_both c (43 ∷ []) xs (free_high c (43 ∷ []) small refl) e
sign_free c false xs small e = free_both c (64 ∷ []) xs (free_high c (64 ∷ []) small refl) e

by_free : (c : ℕ) (by : By) (w : What) → c < 43 → Tells by w → is_free c (by_word by) ≡ true
by_free c (Worker n) (what.Fate fate bytes) small t = free_both c (119 ∷ []) (decimal n) (free_high c (119 ∷ []) small refl) (small_32 c n small t.0)
by_free c (Worker n) (what.Reply r) small t = absurd t
by_free c (Controller n) (what.Fate fate bytes) small t = absurd t
by_free c (Controller n) (what.Reply r) small t = free_both c (99 ∷ []) (decimal n) (free_high c (99 ∷ []) small refl) (small_16 c n small t)

what_free : (c : ℕ) (by : By) (w : What) → c < 43 → Tells by w → all_free c (what_words w) ≡ true
what_free c (Worker n) (what.Fate fate bytes) small t = fate_free c fate bytes small t.1
what_free c (Worker n) (what.Reply r) small t = absurd t
what_free c (Controller n) (what.Fate fate bytes) small t = absurd t
what_free c (Controller n) (what.Reply r) small t = reply_free c r small

loose_free : (c : ℕ) (w : LooseCause) → c < 43 → all_free c (loose_words w) ≡ true
loose_free c Snapped small = two (free_high c (codes "snapped") small refl) refl
loose_free c (Malformed why) small =
    two (free_high c (codes "malformed") small refl) (two (small_16 c (fault_number why) small (fault_small why)) (two (fault_free c why small) refl))
loose_free c NoPort small = two (free_high c (codes "noport") small refl) refl

words_free : (c : ℕ) (l : Line) → c < 43 → IsFitLine l → all_free c (words_of l) ≡ true
words_free c (of_round first) small h = two (free_high c (codes "round") small refl) (two (small_32 c first small h) refl)
words_free c (of_port port before after) small h =
    two (free_high c (codes "port") small refl) (two (small_16 c port small h.0) (two (small_32 c before small h.1) (two (small_32 c after small h.2) refl)))
words_free c (of_told l) small h =
    two (by_free c l.by l.what small h.2) (two (small_32 c l.item small h.0) (two (sign_free c l.entry (decimal l.count) small (small_32 c l.count small h.1)) (what_free c l.by l.what small h.2)))
words_free c loose_begins small h = two (free_high c (codes "loose") small refl) refl
words_free c (of_loose l) small h = two (small_32 c l.packet small h) (loose_free c l.cause small)

some_words : (l : Line) → 0 < length (words_of l)
some_words (of_round first) = omega arith
some_words (of_port port before after) = omega arith
some_words (of_told l) = omega arith
some_words loose_begins = omega arith
some_words (of_loose l) = omega arith

-- ---- a line from its bytes

-- a line without its line feed
abbrev bytes_of : Line → List ℕ
bytes_of l = spaced (words_of l)

own_text : (l : Line) → bytes_eq (text_of l) (bytes_of l ++ 10 ∷ []) ≡ true
own_text l = subst (λ t. bytes_eq t (bytes_of l ++ 10 ∷ []) ≡ true) (sym (text_is l)) (bytes_self (bytes_of l ++ 10 ∷ []))

line_law : (l : Line) → IsFitLine l → line_in (bytes_of l) ≡ Some l
line_law l h =
    ap (λ ws. option_and_then (if_text (bytes_of l)) (line_of ws)) (split_whole 32 (words_of l) (some_words l) (words_free 32 l (omega arith) h))
    ∙ (ap (option_and_then (if_text (bytes_of l))) (words_law l h) ∙ cond-true _ _ _ (own_text l))

-- ---- lines from a text

abbrev pub AreFitLines : List Line → Type 0
AreFitLines [] = Unit {0}
AreFitLines (l ∷ ls) = IsFitLine l × AreFitLines ls

abbrev pub texts_of : List Line → List ℕ
texts_of = flat_map text_of

-- the bytes of lines, and nothing behind the last line feed
abbrev parts_of : List Line → List (List ℕ)
parts_of [] = [] ∷ []
parts_of (l ∷ ls) = bytes_of l ∷ parts_of ls

parts_law : (ls : List Line) → AreFitLines ls → slice_split (λ b. b == 10) (texts_of ls) ≡ parts_of ls
parts_law [] h = refl
parts_law (l ∷ ls) h =
    ap (λ t. slice_split (λ b. b == 10) (t ++ texts_of ls)) (text_is l)
    ∙ (ap (slice_split (λ b. b == 10)) (append_assoc (bytes_of l) (10 ∷ []) (texts_of ls))
    ∙ (slice_split_at (λ b. b == 10) (bytes_of l) 10 (texts_of ls) (free_all 10 (bytes_of l) (free_whole 10 32 (words_of l) refl (words_free 10 l (omega arith) h.0))) refl
    ∙ ap (λ r. bytes_of l ∷ r) (parts_law ls h.1)))

lines_law : (ls : List Line) → AreFitLines ls → lines_in (parts_of ls) ≡ Some ls
lines_law [] h = refl
lines_law (l ∷ []) h = ap (λ o. in_front o (Some [])) (line_law l h.0)
lines_law (l ∷ m ∷ ls) h = ap₂ in_front (line_law l h.0) (lines_law (m ∷ ls) h.1)

-- the lines of a text of lines are these
pub texts_law : (ls : List Line) → AreFitLines ls → lines_in (slice_split (λ b. b == 10) (texts_of ls)) ≡ Some ls
texts_law ls h = ap lines_in (parts_law ls h) ∙ lines_law ls h
