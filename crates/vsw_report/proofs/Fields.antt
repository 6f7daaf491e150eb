-- The words of each line, and that its text is these words with spaces between.
use Rattle.std.proofs.Common.{◌≡◌, ℕ, Bool, true, false, List, [], ◌∷◌, ◌++◌, refl, sym, ap, ◌∙◌, append_assoc}
use Rattle.std.specs.Prelude.{decimal, codes}
use Rattle.std.specs.List.{join_with_byte}
use Rattle.hex.specs.Hex.{encode_lower}
use Rattle.vsw_base.specs.Fault.{fault_number, fault_name}
use Rattle.vsw_base.specs.declared.fate.Cause.{Cause}
use Rattle.vsw_base.specs.declared.fate.Cause.TheVariants.{Rule, Default, Long, Full, Taken, Memory}
use Rattle.vsw_base.specs.declared.fate.Fate.{Fate}
use Rattle.vsw_base.specs.declared.fate.Fate.TheVariants.{Pass, Drop}
use Rattle.vsw_base.specs.declared.packet.Dir.{Dir}
use Rattle.vsw_base.specs.declared.packet.Dir.TheVariants.{Out, In}
use Rattle.vsw_policy.specs.Refusals.{refusal_number, refusal_name}
use Rattle.vsw_policy.specs.declared.refusal.Reply.{Reply}
use Rattle.vsw_policy.specs.declared.refusal.Reply.TheVariants as reply
use Rattle.vsw_report.specs.Print.{layer_text, dir_text, cause_text, fate_text, what_text, by_text, mark_text, line_text, fault_text, loose_cause_text, port_line}
use Rattle.vsw_report.specs.declared.round.LooseCause.{LooseCause}
use Rattle.vsw_report.specs.declared.round.LooseCause.TheVariants.{Snapped, Malformed, NoPort}
use Rattle.vsw_report.specs.declared.told.By.{By}
use Rattle.vsw_report.specs.declared.told.By.TheVariants.{Worker, Controller}
use Rattle.vsw_report.specs.declared.told.ToldLine.{ToldLine}
use Rattle.vsw_report.specs.declared.told.What.{What}
use Rattle.vsw_report.specs.declared.told.What.TheVariants as what
use Rattle.vsw_report.specs.Words.{Line, of_round, of_port, of_told, loose_begins, of_loose, text_of}

-- numbers with slashes between
abbrev pub slashed : List (List ℕ) → List ℕ
slashed = join_with_byte 47

abbrev pub dir_word : Dir → List ℕ
dir_word Out = codes "out"
dir_word In = codes "in"

abbrev pub cause_words : Cause → List (List ℕ)
cause_words (Rule c l g r) = codes "rule" ∷ slashed (decimal c ∷ decimal l ∷ decimal g ∷ decimal r ∷ []) ∷ []
cause_words (Default c l dir) = codes "default" ∷ slashed (decimal c ∷ decimal l ∷ []) ∷ dir_word dir ∷ []
cause_words Long = codes "long" ∷ []
cause_words (Full c l) = codes "full" ∷ slashed (decimal c ∷ decimal l ∷ []) ∷ []
cause_words (Taken c l pair) = codes "taken" ∷ slashed (decimal c ∷ decimal l ∷ []) ∷ decimal pair ∷ []
cause_words Memory = codes "memory" ∷ []

abbrev pub fate_words : Fate → List ℕ → List (List ℕ)
fate_words (Pass len) bytes = codes "pass" ∷ decimal len ∷ encode_lower bytes ∷ []
fate_words (Drop cause) bytes = codes "drop" ∷ cause_words cause

abbrev pub reply_words : Reply → List (List ℕ)
reply_words reply.Ok = codes "ok" ∷ []
reply_words (reply.Refused why) = codes "refused" ∷ decimal (refusal_number why) ∷ refusal_name why ∷ []

abbrev pub what_words : What → List (List ℕ)
what_words (what.Fate fate bytes) = fate_words fate bytes
what_words (what.Reply r) = reply_words r

abbrev pub by_word : By → List ℕ
by_word (Worker n) = 119 ∷ decimal n
by_word (Controller n) = 99 ∷ decimal n

abbrev pub sign : Bool → ℕ
sign true = 43
sign false = 64

abbrev pub loose_words : LooseCause → List (List ℕ)
loose_words Snapped = codes "snapped" ∷ []
loose_words (Malformed fault) = codes "malformed" ∷ decimal (fault_number fault) ∷ fault_name fault ∷ []
loose_words NoPort = codes "noport" ∷ []

abbrev pub words_of : Line → List (List ℕ)
words_of (of_round first) = codes "round" ∷ decimal first ∷ []
words_of (of_port port before after) = codes "port" ∷ decimal port ∷ decimal before ∷ decimal after ∷ []
words_of (of_told l) = by_word l.by ∷ decimal l.item ∷ (sign l.entry ∷ decimal l.count) ∷ what_words l.what
words_of loose_begins = codes "loose" ∷ []
words_of (of_loose l) = decimal l.packet ∷ loose_words l.cause

-- words with spaces between
abbrev pub spaced : List (List ℕ) → List ℕ
spaced = join_with_byte 32

pub cause_is : (cause : Cause) → cause_text cause ≡ spaced (cause_words cause)
unfolding layer_text dir_text
cause_is (Rule c l g r) = simp append_assoc
cause_is (Default c l Out) = simp append_assoc
cause_is (Default c l In) = simp append_assoc
cause_is Long = refl
cause_is (Full c l) = simp append_assoc
cause_is (Taken c l pair) = simp append_assoc
cause_is Memory = refl

-- a first word before the words of a cause
behind_cause : (word : List ℕ) (cause : Cause) → spaced (word ∷ cause_words cause) ≡ word ++ 32 ∷ spaced (cause_words cause)
behind_cause word (Rule c l g r) = refl
behind_cause word (Default c l dir) = refl
behind_cause word Long = refl
behind_cause word (Full c l) = refl
behind_cause word (Taken c l pair) = refl
behind_cause word Memory = refl

fate_is : (fate : Fate) (bytes : List ℕ) → fate_text fate bytes ≡ spaced (fate_words fate bytes)
fate_is (Pass len) bytes = simp append_assoc
fate_is (Drop cause) bytes = ap (λ t. codes "drop " ++ t) (cause_is cause) ∙ sym (behind_cause (codes "drop") cause)

what_is : (w : What) → what_text w ≡ spaced (what_words w)
what_is (what.Fate fate bytes) = fate_is fate bytes
what_is (what.Reply reply.Ok) = refl
what_is (what.Reply (reply.Refused why)) = simp append_assoc

-- a first word before what became of it
behind_what : (word : List ℕ) (w : What) → spaced (word ∷ what_words w) ≡ word ++ 32 ∷ spaced (what_words w)
behind_what word (what.Fate (Pass len) bytes) = refl
behind_what word (what.Fate (Drop cause) bytes) = refl
behind_what word (what.Reply reply.Ok) = refl
behind_what word (what.Reply (reply.Refused why)) = refl

by_is : (by : By) → by_text by ≡ by_word by
by_is (Worker n) = refl
by_is (Controller n) = refl

mark_is : (entry : Bool) → mark_text entry ≡ 32 ∷ sign entry ∷ []
mark_is true = refl
mark_is false = refl

-- the front of a line and what follows it
told_join : (by item count rest : List ℕ) (s : ℕ) → by ++ 32 ∷ [] ++ item ++ 32 ∷ s ∷ [] ++ count ++ 32 ∷ [] ++ rest ++ 10 ∷ [] ≡ by ++ (32 ∷ (item ++ (32 ∷ s ∷ count ++ (32 ∷ rest)))) ++ 10 ∷ []
told_join by item count rest s = simp append_assoc

told_is : (l : ToldLine) → line_text l ≡ spaced (words_of (of_told l)) ++ 10 ∷ []
told_is l =
    ap₂' ∙ told_join (by_word l.by) (decimal l.item) (decimal l.count) (spaced (what_words l.what)) (sign l.entry) ∙ ap (λ t. (by_word l.by ++ (32 ∷ (decimal l.item ++ (32 ∷ t)))) ++ 10 ∷ []) (sym (behind_what (sign l.entry ∷ decimal l.count) l.what)) where
      ap₂' : line_text l ≡ by_word l.by ++ 32 ∷ [] ++ decimal l.item ++ 32 ∷ sign l.entry ∷ [] ++ decimal l.count ++ 32 ∷ [] ++ spaced (what_words l.what) ++ 10 ∷ []
      ap₂' = ap (λ b. b ++ codes " " ++ decimal l.item ++ mark_text l.entry ++ decimal l.count ++ codes " " ++ what_text l.what ++ codes "\n") (by_is l.by)
          ∙ ap (λ m. by_word l.by ++ codes " " ++ decimal l.item ++ m ++ decimal l.count ++ codes " " ++ what_text l.what ++ codes "\n") (mark_is l.entry)
          ∙ ap (λ w. by_word l.by ++ codes " " ++ decimal l.item ++ 32 ∷ sign l.entry ∷ [] ++ decimal l.count ++ codes " " ++ w ++ codes "\n") (what_is l.what)

loose_is : (n : ℕ) (w : LooseCause) → decimal n ++ loose_cause_text w ≡ spaced (decimal n ∷ loose_words w) ++ 10 ∷ []
unfolding fault_text
loose_is n Snapped = simp append_assoc
loose_is n (Malformed fault) = simp append_assoc
loose_is n NoPort = simp append_assoc

-- the text of a line is its words, and a line feed
pub text_is : (l : Line) → text_of l ≡ spaced (words_of l) ++ 10 ∷ []
unfolding port_line
text_is (of_round first) = refl
text_is (of_port port before after) = simp append_assoc
text_is (of_told l) = told_is l
text_is loose_begins = refl
text_is (of_loose l) = loose_is l.packet l.cause
