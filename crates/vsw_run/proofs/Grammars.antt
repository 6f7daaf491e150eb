-- Whole command lines: what the grammar says of them is worked out of them, and nothing else.
use Rattle.std.proofs.Common.{◌≡◌, ℕ, Bool, true, false, List, [], ◌∷◌, Option, Some, None, cond, refl, sym, ap, ap₂, ◌∙◌, subst, arith}
use Rattle.std.specs.Prelude.{codes, bytes_eq, option_map, option_and_then}
use Rattle.std.proofs.lemmas.Option.{none-some, same_Some}
use Rattle.std.proofs.lemmas.Slice.Eq.{bytes_eq-Decides}
use Rattle.vsw_run.specs.Grammar.{IsGenerate, Asks}
use Rattle.vsw_run.specs.GrammarLaw.{ReadsGrammar, RefusesOthers, OneReading}
use Rattle.vsw_run.specs.Words.{Request, Claim, Query, Asked, Forward, Deliver, Stream, Offload, Check, Engine, Generate, number_in, forward_in, offload_in, check_in, engine_in, generate_in, asked_in}
use Rattle.vsw_run.proofs.Decimals.{number_is, number_of}
use Rattle.vsw_run.proofs.Forwards.{forward_reads, forward_is, offload_reads, offload_is, check_reads, check_is, engine_reads, engine_is}

-- ---- the words after `generate`

generate_reads : (words : List (List ℕ)) (start packets : ℕ) → IsGenerate words start packets → generate_in words ≡ Some (Generate start packets)
generate_reads words start packets g =
    ap generate_in g.shape
    ∙ ap₂ (λ s n. option_and_then (λ s. option_map (λ n. Generate s n) n) s) (number_of 0 2147483647 start (omega arith) (omega arith) g.start_is)
    (number_of 1 1048576 packets (omega arith) g.packets_are.0 g.packets_are.1)

-- two numbers
record Numbers (words : List (List ℕ)) (asked : Asked) : Type 0 where
  start : ℕ
  packets : ℕ
  is : Generate start packets ≡ asked
  said : IsGenerate words start packets

generate_is : (words : List (List ℕ)) (asked : Asked) → generate_in words ≡ Some asked → Numbers words asked
generate_is [] asked e = absurd (none-some asked e)
generate_is (a ∷ []) asked e = absurd (none-some asked e)
generate_is (a ∷ b ∷ c ∷ words) asked e = absurd (none-some asked e)
generate_is (a ∷ b ∷ []) asked e = first (number_in 0 2147483647 a) refl e where
  second : (s : ℕ) → number_in 0 2147483647 a ≡ Some s → (r : Option ℕ) → number_in 1 1048576 b ≡ r → option_map (λ n. Generate s n) r ≡ Some asked → Numbers (a ∷ b ∷ []) asked
  second s start None is e = absurd (none-some asked e)
  second s start (Some n) is e =
      let (written, low, most) = number_is 0 2147483647 a s start in
      let (digits, least, high) = number_is 1 1048576 b n is in
      record {
        start = s;
        packets = n;
        is = same_Some (Generate s n) asked e;
        said = record { shape = ap₂ (λ x y. x ∷ y ∷ []) written digits; start_is = most; packets_are = (least, high) };
      }

  first : (r : Option ℕ) → number_in 0 2147483647 a ≡ r → option_and_then (λ s. option_map (λ n. Generate s n) (number_in 1 1048576 b)) r ≡ Some asked → Numbers (a ∷ b ∷ []) asked
  first None is e = absurd (none-some asked e)
  first (Some s) is e = second s is (number_in 1 1048576 b) refl e

-- ---- commands

asked_reads : (words : List (List ℕ)) (asked : Asked) → Asks words asked → asked_in words ≡ Some asked
asked_reads words (Forward q) h = ap asked_in h.2 ∙ ap (option_map Forward) (forward_reads h.1 q h.3)
asked_reads words (Deliver q) h = ap asked_in h.2 ∙ ap (option_map Deliver) (forward_reads h.1 q h.3)
asked_reads words (Stream q) h = ap asked_in h.2 ∙ ap (option_map Stream) (forward_reads h.1 q h.3)
asked_reads words (Offload q) h = ap asked_in h.2 ∙ ap (option_map Offload) (offload_reads h.1 q h.3)
asked_reads words (Check c) h = ap asked_in h.2 ∙ ap (option_map Check) (check_reads h.1 c h.3)
asked_reads words (Engine q) h = ap asked_in h.2 ∙ ap (option_map Engine) (engine_reads h.1 q h.3)
asked_reads words (Generate start packets) h = ap asked_in h.2 ∙ generate_reads h.1 start packets h.3

forward_asks : (program command : List ℕ) (words : List (List ℕ)) (q : Request) → bytes_eq command (codes "forward") ≡ true → forward_in words ≡ Some q → Asks (program ∷ command ∷ words) (Forward q)
forward_asks program command words q t e = (program, words, ap (λ c. program ∷ c ∷ words) ((bytes_eq-Decides command (codes "forward")).0 t), forward_is words q e)

deliver_asks : (program command : List ℕ) (words : List (List ℕ)) (q : Request) → bytes_eq command (codes "deliver") ≡ true → forward_in words ≡ Some q → Asks (program ∷ command ∷ words) (Deliver q)
deliver_asks program command words q t e = (program, words, ap (λ c. program ∷ c ∷ words) ((bytes_eq-Decides command (codes "deliver")).0 t), forward_is words q e)

stream_asks : (program command : List ℕ) (words : List (List ℕ)) (q : Request) → bytes_eq command (codes "stream") ≡ true → forward_in words ≡ Some q → Asks (program ∷ command ∷ words) (Stream q)
stream_asks program command words q t e = (program, words, ap (λ c. program ∷ c ∷ words) ((bytes_eq-Decides command (codes "stream")).0 t), forward_is words q e)

offload_asks : (program command : List ℕ) (words : List (List ℕ)) (q : Request) → bytes_eq command (codes "offload") ≡ true → offload_in words ≡ Some q → Asks (program ∷ command ∷ words) (Offload q)
offload_asks program command words q t e = (program, words, ap (λ c. program ∷ c ∷ words) ((bytes_eq-Decides command (codes "offload")).0 t), offload_is words q e)

check_asks : (program command : List ℕ) (words : List (List ℕ)) (c : Claim) → bytes_eq command (codes "check") ≡ true → check_in words ≡ Some c → Asks (program ∷ command ∷ words) (Check c)
check_asks program command words c t e = (program, words, ap (λ c. program ∷ c ∷ words) ((bytes_eq-Decides command (codes "check")).0 t), check_is words c e)

engine_asks : (program command : List ℕ) (words : List (List ℕ)) (q : Query) → bytes_eq command (codes "engine") ≡ true → engine_in words ≡ Some q → Asks (program ∷ command ∷ words) (Engine q)
engine_asks program command words q t e = (program, words, ap (λ c. program ∷ c ∷ words) ((bytes_eq-Decides command (codes "engine")).0 t), engine_is words q e)

-- what is asked for by a command that isn't one of those before
abbrev by_generate : List ℕ → List (List ℕ) → Option Asked
by_generate command words = cond (bytes_eq command (codes "generate")) (generate_in words) None

abbrev by_engine : List ℕ → List (List ℕ) → Option Asked
by_engine command words = cond (bytes_eq command (codes "engine")) (option_map Engine (engine_in words)) (by_generate command words)

abbrev by_check : List ℕ → List (List ℕ) → Option Asked
by_check command words = cond (bytes_eq command (codes "check")) (option_map Check (check_in words)) (by_engine command words)

abbrev by_offload : List ℕ → List (List ℕ) → Option Asked
by_offload command words = cond (bytes_eq command (codes "offload")) (option_map Offload (offload_in words)) (by_check command words)

abbrev by_stream : List ℕ → List (List ℕ) → Option Asked
by_stream command words = cond (bytes_eq command (codes "stream")) (option_map Stream (forward_in words)) (by_offload command words)

abbrev by_deliver : List ℕ → List (List ℕ) → Option Asked
by_deliver command words = cond (bytes_eq command (codes "deliver")) (option_map Deliver (forward_in words)) (by_stream command words)

asked_is : (words : List (List ℕ)) (asked : Asked) → asked_in words ≡ Some asked → Asks words asked
asked_is [] asked e = absurd (none-some asked e)
asked_is (program ∷ []) asked e = absurd (none-some asked e)
asked_is (program ∷ command ∷ words) asked e = first (bytes_eq command (codes "forward")) refl e where
  forwards : bytes_eq command (codes "forward") ≡ true → (r : Option Request) → forward_in words ≡ r → option_map Forward r ≡ Some asked → Asks (program ∷ command ∷ words) asked
  forwards t None is e = absurd (none-some asked e)
  forwards t (Some q) is e = subst (Asks (program ∷ command ∷ words)) (same_Some (Forward q) asked e) (forward_asks program command words q t is)

  delivers : bytes_eq command (codes "deliver") ≡ true → (r : Option Request) → forward_in words ≡ r → option_map Deliver r ≡ Some asked → Asks (program ∷ command ∷ words) asked
  delivers t None is e = absurd (none-some asked e)
  delivers t (Some q) is e = subst (Asks (program ∷ command ∷ words)) (same_Some (Deliver q) asked e) (deliver_asks program command words q t is)

  streams : bytes_eq command (codes "stream") ≡ true → (r : Option Request) → forward_in words ≡ r → option_map Stream r ≡ Some asked → Asks (program ∷ command ∷ words) asked
  streams t None is e = absurd (none-some asked e)
  streams t (Some q) is e = subst (Asks (program ∷ command ∷ words)) (same_Some (Stream q) asked e) (stream_asks program command words q t is)

  offloads : bytes_eq command (codes "offload") ≡ true → (r : Option Request) → offload_in words ≡ r → option_map Offload r ≡ Some asked → Asks (program ∷ command ∷ words) asked
  offloads t None is e = absurd (none-some asked e)
  offloads t (Some q) is e = subst (Asks (program ∷ command ∷ words)) (same_Some (Offload q) asked e) (offload_asks program command words q t is)

  checks : bytes_eq command (codes "check") ≡ true → (r : Option Claim) → check_in words ≡ r → option_map Check r ≡ Some asked → Asks (program ∷ command ∷ words) asked
  checks t None is e = absurd (none-some asked e)
  checks t (Some c) is e = subst (Asks (program ∷ command ∷ words)) (same_Some (Check c) asked e) (check_asks program command words c t is)

  answers : bytes_eq command (codes "engine") ≡ true → (r : Option Query) → engine_in words ≡ r → option_map Engine r ≡ Some asked → Asks (program ∷ command ∷ words) asked
  answers t None is e = absurd (none-some asked e)
  answers t (Some q) is e = subst (Asks (program ∷ command ∷ words)) (same_Some (Engine q) asked e) (engine_asks program command words q t is)

  seventh : (b : Bool) → bytes_eq command (codes "generate") ≡ b → cond b (generate_in words) None ≡ Some asked → Asks (program ∷ command ∷ words) asked
  seventh false t e = absurd (none-some asked e)
  seventh true t e =
      let g = generate_is words asked e in
      subst (Asks (program ∷ command ∷ words)) g.is (program, words, ap (λ c. program ∷ c ∷ words) ((bytes_eq-Decides command (codes "generate")).0 t), g.said)

  sixth : (b : Bool) → bytes_eq command (codes "engine") ≡ b → cond b (option_map Engine (engine_in words)) (by_generate command words) ≡ Some asked → Asks (program ∷ command ∷ words) asked
  sixth true t e = answers t (engine_in words) refl e
  sixth false t e = seventh (bytes_eq command (codes "generate")) refl e

  fifth : (b : Bool) → bytes_eq command (codes "check") ≡ b → cond b (option_map Check (check_in words)) (by_engine command words) ≡ Some asked → Asks (program ∷ command ∷ words) asked
  fifth true t e = checks t (check_in words) refl e
  fifth false t e = sixth (bytes_eq command (codes "engine")) refl e

  fourth : (b : Bool) → bytes_eq command (codes "offload") ≡ b → cond b (option_map Offload (offload_in words)) (by_check command words) ≡ Some asked → Asks (program ∷ command ∷ words) asked
  fourth true t e = offloads t (offload_in words) refl e
  fourth false t e = fifth (bytes_eq command (codes "check")) refl e

  third : (b : Bool) → bytes_eq command (codes "stream") ≡ b → cond b (option_map Stream (forward_in words)) (by_offload command words) ≡ Some asked → Asks (program ∷ command ∷ words) asked
  third true t e = streams t (forward_in words) refl e
  third false t e = fourth (bytes_eq command (codes "offload")) refl e

  second : (b : Bool) → bytes_eq command (codes "deliver") ≡ b → cond b (option_map Deliver (forward_in words)) (by_stream command words) ≡ Some asked → Asks (program ∷ command ∷ words) asked
  second true t e = delivers t (forward_in words) refl e
  second false t e = third (bytes_eq command (codes "stream")) refl e

  first : (b : Bool) → bytes_eq command (codes "forward") ≡ b → cond b (option_map Forward (forward_in words)) (by_deliver command words) ≡ Some asked → Asks (program ∷ command ∷ words) asked
  first true t e = forwards t (forward_in words) refl e
  first false t e = second (bytes_eq command (codes "deliver")) refl e

-- ---- the laws

pub reads_grammar : ReadsGrammar
reads_grammar words asked = (asked_is words asked, asked_reads words asked)

pub refuses_others : RefusesOthers
refuses_others words = (λ e asked h. none-some asked (sym e ∙ asked_reads words asked h), λ never. by never (asked_in words) refl) where
  by : ((asked : Asked) → ¬ (Asks words asked)) → (r : Option Asked) → asked_in words ≡ r → asked_in words ≡ None
  by never None e = e
  by never (Some asked) e = absurd (never asked (asked_is words asked e))

pub one_reading : OneReading
one_reading words one other h k = same_Some one other (sym (asked_reads words one h) ∙ asked_reads words other k)
