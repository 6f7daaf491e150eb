-- A line is read back from its words.
use Rattle.std.proofs.Common.{◌≡◌, ℕ, ◌^◌, ◌<◌, Bool, true, false, List, [], ◌∷◌, length, Option, Some, refl, sym, ap, ap₂, ◌∙◌}
use Rattle.std.specs.Prelude.{decimal, option_map, option_and_then}
use Rattle.std.proofs.lemmas.Bool.{cond-true, eq-eqb}
use Rattle.hex.specs.Hex.{encode_lower, decode_of}
use Rattle.hex.proofs.HexLemmas.{decode_of-encode_lower}
use Rattle.vsw_base.specs.Fault.{fault_number}
use Rattle.vsw_base.specs.declared.fate.Cause.{Cause}
use Rattle.vsw_base.specs.declared.fate.Cause.TheVariants.{Rule, Default, Long, Full, Taken, Memory}
use Rattle.vsw_base.specs.declared.fate.Fate.{Fate}
use Rattle.vsw_base.specs.declared.fate.Fate.TheVariants.{Pass, Drop}
use Rattle.vsw_base.specs.declared.packet.Dir.{Dir}
use Rattle.vsw_base.specs.declared.packet.Dir.TheVariants.{Out, In}
use Rattle.vsw_policy.specs.Refusals.{refusal_number}
use Rattle.vsw_policy.specs.declared.refusal.Reply.{Reply}
use Rattle.vsw_policy.specs.declared.refusal.Reply.TheVariants as reply
use Rattle.vsw_report.specs.declared.round.LooseCause.{LooseCause}
use Rattle.vsw_report.specs.declared.round.LooseCause.TheVariants.{Snapped, Malformed, NoPort}
use Rattle.vsw_report.specs.declared.told.By.{By}
use Rattle.vsw_report.specs.declared.told.By.TheVariants.{Worker, Controller}
use Rattle.vsw_report.specs.declared.told.ToldLine.{ToldLine}
use Rattle.vsw_report.specs.declared.told.What.{What}
use Rattle.vsw_report.specs.declared.told.What.TheVariants as what
use Rattle.vsw_report.specs.Proper.{IsProperCause, IsProperFate, Tells, IsProperLine}
use Rattle.vsw_report.specs.Words.{Line, of_round, of_port, of_told, loose_begins, of_loose, refusal_of, fault_of, mark_in, rule_in, layer_in, dir_in, cause_in, passed, fate_in, reply_in, told_with, port_with, loose_in, begun_in, line_of}
use Rattle.vsw_report.proofs.Fields.{dir_word, cause_words, fate_words, reply_words, sign, loose_words, words_of}
use Rattle.vsw_report.proofs.Numbers.{number_32, number_16, two_numbers, four_numbers, refusal_small, refusal_law, fault_small, fault_law}

-- the values of a line lie in their ranges
abbrev pub IsFitLine : Line → Type 0
IsFitLine (of_round first) = first < 2 ^ 32
IsFitLine (of_port port before after) = (port < 2 ^ 16) × (before < 2 ^ 32) × (after < 2 ^ 32)
IsFitLine (of_told l) = IsProperLine l
IsFitLine loose_begins = Unit {0}
IsFitLine (of_loose l) = l.packet < 2 ^ 32

dir_law : (dir : Dir) → dir_in (dir_word dir) ≡ Some dir
dir_law Out = refl
dir_law In = refl

cause_law : (cause : Cause) → IsProperCause cause → cause_in (cause_words cause) ≡ Some cause
cause_law (Rule c l g r) h = ap rule_in (four_numbers c l g r h.0 h.1 h.2 h.3)
cause_law (Default c l Out) h = ap (layer_in (λ c l. Default c l Out)) (two_numbers c l h.0 h.1)
cause_law (Default c l In) h = ap (layer_in (λ c l. Default c l In)) (two_numbers c l h.0 h.1)
cause_law Long h = refl
cause_law (Full c l) h = ap (layer_in (λ c l. Full c l)) (two_numbers c l h.0 h.1)
cause_law (Taken c l pair) h =
    ap₂ (λ o ns. option_and_then (λ pair. layer_in (λ c l. Taken c l pair) ns) o) (number_32 pair h.2) (two_numbers c l h.0 h.1)
cause_law Memory h = refl

fate_law : (fate : Fate) (bytes : List ℕ) → IsProperFate fate bytes → fate_in (fate_words fate bytes) ≡ Some (what.Fate fate bytes)
fate_law (Pass len) bytes h =
    ap (option_and_then (λ n. passed n (decode_of (encode_lower bytes)))) (number_32 len h.0)
    ∙ (ap (passed len) (decode_of-encode_lower bytes h.2) ∙ cond-true _ _ _ (eq-eqb (length bytes) len h.1))
fate_law (Drop cause) bytes h = ap (option_map (λ cause. what.Fate (Drop cause) [])) (cause_law cause h.1) ∙ ap (λ bs. Some (what.Fate (Drop cause) bs)) (sym h.0)

reply_law : (r : Reply) → reply_in (reply_words r) ≡ Some (what.Reply r)
reply_law reply.Ok = refl
reply_law (reply.Refused why) =
    ap (λ o. option_map (λ why. what.Reply (reply.Refused why)) (option_and_then refusal_of o)) (number_16 (refusal_number why) (refusal_small why))
    ∙ ap (option_map (λ why. what.Reply (reply.Refused why))) (refusal_law why)

sign_law : (s : Bool) (xs : List ℕ) → mark_in (sign s ∷ xs) ≡ Some s
sign_law true xs = refl
sign_law false xs = refl

told_eq : {b : Option By} {i c : Option ℕ} {s : Option Bool} {w : Option What} (l : ToldLine) → b ≡ Some l.by → i ≡ Some l.item → s ≡ Some l.entry → c ≡ Some l.count → w ≡ Some l.what → told_with b i s c w ≡ Some (of_told l)
told_eq {b} {i} {c} {s} {w} l p q r t u =
    ap (λ o. told_with o i s c w) p ∙ (ap (λ o. told_with (Some l.by) o s c w) q ∙ (ap (λ o. told_with (Some l.by) (Some l.item) o c w) r
    ∙ (ap (λ o. told_with (Some l.by) (Some l.item) (Some l.entry) o w) t ∙ ap (λ o. told_with (Some l.by) (Some l.item) (Some l.entry) (Some l.count) o) u)))

-- a line of a port, by who brought it and what became of it
told_law : (by : By) (what : What) (item count : ℕ) (entry : Bool) → item < 2 ^ 32 → count < 2 ^ 32 → Tells by what
    → line_of (words_of (of_told (record { by = by; item = item; entry = entry; count = count; what = what }))) ≡ Some (of_told (record { by = by; item = item; entry = entry; count = count; what = what }))
told_law (Worker n) (what.Fate fate bytes) item count entry h k t =
    told_eq (record { by = Worker n; item = item; entry = entry; count = count; what = what.Fate fate bytes }) (ap (option_map Worker) (number_32 n t.0)) (number_32 item h) (sign_law entry (decimal count)) (number_32 count k) (fate_law fate bytes t.1)
told_law (Worker n) (what.Reply r) item count entry h k t = absurd t
told_law (Controller n) (what.Fate fate bytes) item count entry h k t = absurd t
told_law (Controller n) (what.Reply r) item count entry h k t =
    told_eq (record { by = Controller n; item = item; entry = entry; count = count; what = what.Reply r }) (ap (option_map Controller) (number_16 n t)) (number_32 item h) (sign_law entry (decimal count)) (number_32 count k) (reply_law r)

port_eq : {a b c : Option ℕ} {x y z : ℕ} → a ≡ Some x → b ≡ Some y → c ≡ Some z → port_with a b c ≡ Some (of_port x y z)
port_eq {a} {b} {c} {x} {y} {z} p q r = ap (λ o. port_with o b c) p ∙ (ap (λ o. port_with (Some x) o c) q ∙ ap (λ o. port_with (Some x) (Some y) o) r)

loose_law : (n : ℕ) (w : LooseCause) → loose_in n (loose_words w) ≡ Some (of_loose (record { packet = n; cause = w }))
loose_law n Snapped = refl
loose_law n (Malformed why) =
    ap (λ o. option_map (λ why. of_loose (record { packet = n; cause = Malformed why })) (option_and_then fault_of o)) (number_16 (fault_number why) (fault_small why))
    ∙ ap (option_map (λ why. of_loose (record { packet = n; cause = Malformed why }))) (fault_law why)
loose_law n NoPort = refl

-- what the words of a line say is the line
pub words_law : (l : Line) → IsFitLine l → line_of (words_of l) ≡ Some l
words_law (of_round first) h = ap (option_map of_round) (number_32 first h)
words_law (of_port port before after) h = port_eq (number_16 port h.0) (number_32 before h.1) (number_32 after h.2)
words_law (of_told l) h = told_law l.by l.what l.item l.count l.entry h.0 h.1 h.2
words_law loose_begins h = refl
words_law (of_loose l) h = ap (λ o. begun_in o (decimal l.packet) (loose_words l.cause)) (number_32 l.packet h) ∙ loose_law l.packet l.cause
