-- Lines that are read.
use Rattle.std.proofs.Common.{◌≡◌, ◌==◌, ℕ, suc, ◌+◌, ◌≤◌, ◌<◌, List, [], ◌∷◌, ◌++◌, length, Bool, true, false, Option, Some, None, nat_lt, Result, Ok, Err, refl, ap, subst, ◌∙◌, arith, if◌then◌else◌}
use Prim.Native.Nat.{zero}
use Rattle.std.specs.Prelude.{All, IfSome, option_to_list}
use Rattle.std.specs.List.{list_any, AllPairs}
use Rattle.std.proofs.lemmas.Bool.{ltb-false}
use Rattle.std.proofs.lemmas.Bool.Decides.{nat_tests}
use Rattle.std.proofs.lemmas.List.Elements.{All-nil, All-cons}
use Rattle.serde_json.specs.Data.{Data}
use Rattle.vsw_policy.specs.Sound.{is_listed}
use Rattle.vsw_config.specs.declared.word.Word.TheVariants as word
use Rattle.vsw_config.specs.declared.fault.Fault.{Fault}
use Rattle.vsw_config.specs.declared.fault.Fault.TheVariants as fault
use Rattle.vsw_config.specs.Bytes.{json_of}
use Rattle.vsw_config.specs.Object.{object_among, read_in}
use Rattle.vsw_config.specs.Value.{short_of}
use Rattle.vsw_config.specs.Layer.{listed_number}
use Rattle.vsw_config.specs.declared.file.PortFile.{PortFile}
use Rattle.vsw_config.specs.declared.file.PolicyFile.{PolicyFile}
use Rattle.vsw_commandfile.specs.declared.line.Line.{Line}
use Rattle.vsw_commandfile.specs.Verb.{verb_for, verb_of, names_of}
use Rattle.vsw_commandfile.specs.Command.{command_of}
use Rattle.vsw_commandfile.specs.Line.{packet_of, during_of, is_port, port_number, line_of}
use Rattle.vsw_commandfile.specs.declared.fault.CommandsFault.{CommandsFault}
use Rattle.vsw_commandfile.specs.declared.fault.CommandsFault.TheVariants.{CommandsLimit, LinesLimit}
use Rattle.vsw_commandfile.specs.Lines.{is_blank, lines_of}
use Rattle.vsw_commandfile.specs.Commands.{of_line, line_in, line_at, lines_from}
use Rattle.vsw_config.proofs.Steps.{taken, same_value, read, passed}
use Rattle.vsw_config.proofs.ListsRead.{no_pairs}
use Rattle.vsw_config.proofs.Layers.{known_listed}
use Rattle.vsw_commandfile.specs.Good.{CanAsk, EachIsGood, FirstIsOld}
use Rattle.vsw_commandfile.proofs.Commands.{command_good}

flip : (a b : ℕ) → (a == b) ≡ (b == a)
flip a b = grind (arith, nat_tests)

listed : (known : List ℕ) (c : ℕ) → list_any (λ m. m == c) known ≡ true → is_listed known c ≡ true
listed known c h = ap (λ f. list_any f known) (λ j m. flip c m j) ∙ h

port_there : (ports : List PortFile) (d : Data) (n : ℕ) → port_number ports d ≡ Ok n → is_port n ports ≡ true
unfolding port_number
port_there ports d n h =
    taken (short_of d) _ n h (λ m e h.
    let (found, same) = passed (is_port m ports) m n _ h in
    subst (λ k. is_port k ports ≡ true) same found)

-- a line of this number may ask what it asks
abbrev Asks : PolicyFile → ℕ → Line → Type 0
Asks policy n l = (l.number ≡ n) × CanAsk policy l

line_good : (policy : PolicyFile) (n : ℕ) (d : Data) (l : Line) → line_of policy n d ≡ Ok l → Asks policy n l
unfolding line_of
line_good policy n d l h =
    taken (read_in word.At d packet_of) _ l h (λ at e h.
    taken (read_in word.When d during_of) _ l h (λ during e h.
    taken (read_in word.Controller d (listed_number policy.controllers)) _ l h (λ controller here h.
    taken (read_in word.Port d (port_number policy.ports)) _ l h (λ port there h.
    taken (read_in word.Do d (verb_of policy.version)) _ l h (λ verb e h.
    taken (object_among (names_of verb) d) _ l h (λ o e h.
    taken (command_of policy.version verb o) _ l h (λ command asked h.
    read word.Controller d (listed_number policy.controllers) controller here (λ place number.
    read word.Port d (port_number policy.ports) port there (λ place_of_port number_of_port.
    let who = listed policy.controllers controller (known_listed policy.controllers place controller number) in
    let whose = port_there policy.ports place_of_port port number_of_port in
    let may = command_good policy.version verb o command asked in
    subst (Asks policy n) (same_value _ l h) (refl, (who, whose, may.0, may.1)))))))))))

from_line : {A : Type 0} (n : ℕ) (r : Result A Fault) (x : A) → of_line n r ≡ Ok x → r ≡ Ok x
from_line n (Ok y) x h = cc
from_line n (Err (fault.Bad kind path)) x h = cc
from_line n (Err fault.Memory) x h = cc

text_good : (policy : PolicyFile) (n : ℕ) (bytes : List ℕ) (l : Line) → line_in policy n bytes ≡ Ok l → Asks policy n l
unfolding line_in
text_good policy n bytes l h = taken (json_of bytes) (line_of policy n) l h (λ d e h. line_good policy n d l h)

-- a line that isn't blank
unless_blank : (b : Bool) (r : Result (Option Line) CommandsFault) (o : Option Line) (P : Line → Type 0) → (r ≡ Ok o → IfSome o P) → (if b then Ok None else r) ≡ Ok o → IfSome o P
unless_blank true r o P k h = subst (λ o. IfSome o P) (same_value None o h) tt
unless_blank false r o P k h = k h

at_good : (policy : PolicyFile) (n : ℕ) (bytes : List ℕ) (o : Option Line) → line_at policy n bytes ≡ Ok o → IfSome o (Asks policy n)
unfolding line_at
at_good policy n bytes o h =
    unless_blank (is_blank bytes) _ o (Asks policy n) (λ h.
    taken (of_line n (line_in policy n bytes)) _ o h (λ l e h.
    subst (λ o. IfSome o (Asks policy n)) (same_value (Some l) o h) (text_good policy n bytes l (from_line n _ l e)))) h

-- ---- one after the other

-- what holds of lines that are read of so many, of which the first has this number
record AreRead (policy : PolicyFile) (n : ℕ) (count : ℕ) (lines : List Line) : Type 0 where
  few : length lines ≤ count
  numbers : All (λ l. (n ≤ l.number) × (l.number < n + count)) lines
  in_order : AllPairs (λ l m. l.number < m.number) lines
  can_ask : All (CanAsk policy) lines

pairs-cons : (l : Line) (ls : List Line) → All (λ m. l.number < m.number) ls → AllPairs (λ l m. l.number < m.number) ls → AllPairs (λ l m. l.number < m.number) (l ∷ ls)
pairs-cons l ls first others i zero d less within = absurd (omega (arith, less))
pairs-cons l ls first others zero (suc j) d less within = first j d (omega (arith, within))
pairs-cons l ls first others (suc i) (suc j) d less within = others i j d (omega (arith, less)) (omega (arith, within))

no-more : (policy : PolicyFile) (n : ℕ) → AreRead policy n 0 []
no-more policy n = record {
  few = omega arith;
  numbers = All-nil (λ (l : Line). (n ≤ l.number) × (l.number < n + 0));
  in_order = no_pairs (λ (l m : Line). l.number < m.number);
  can_ask = All-nil (CanAsk policy);
}

one-more : (policy : PolicyFile) (n count : ℕ) (o : Option Line) (lines : List Line) → IfSome o (Asks policy n) → AreRead policy (suc n) count lines → AreRead policy n (suc count) (option_to_list o ++ lines)
one-more policy n count None lines h rest = record {
  few = omega (arith, rest.few);
  numbers = λ i d within. (omega (arith, (rest.numbers i d within).0), omega (arith, (rest.numbers i d within).1));
  in_order = rest.in_order;
  can_ask = rest.can_ask;
}
one-more policy n count (Some l) lines h rest = record {
  few = omega (arith, rest.few);
  numbers = All-cons (λ (l : Line). (n ≤ l.number) × (l.number < n + suc count)) l lines (omega (arith, h.0), omega (arith, h.0)) (λ i d within. (omega (arith, (rest.numbers i d within).0), omega (arith, (rest.numbers i d within).1)));
  in_order = pairs-cons l lines (λ i d within. omega (arith, h.0, (rest.numbers i d within).0)) rest.in_order;
  can_ask = All-cons (CanAsk policy) l lines h.1 rest.can_ask;
}

lines_good : (policy : PolicyFile) (n : ℕ) (ls : List (List ℕ)) (lines : List Line) → lines_from policy n ls ≡ Ok lines → AreRead policy n (length ls) lines
lines_good policy n [] lines h = subst (AreRead policy n 0) (same_value [] lines h) (no-more policy n)
lines_good policy n (l ∷ ls) lines h =
    taken (line_at policy n l) _ lines h (λ o e h.
    taken (lines_from policy (suc n) ls) _ lines h (λ rest f h.
    subst (AreRead policy n (suc (length ls))) (same_value _ lines h)
    (one-more policy n (length ls) o rest (at_good policy n l o e) (lines_good policy (suc n) ls rest f))))

-- ---- within the limits

within_limits : (b t : Bool) (r : Result (List Line) CommandsFault) (lines : List Line) → (if b then Err CommandsLimit else if t then Err LinesLimit else r) ≡ Ok lines → (t ≡ false) × (r ≡ Ok lines)
within_limits true t r lines h = cc
within_limits false true r lines h = cc
within_limits false false r lines h = (refl, h)

pub each_is_good : EachIsGood
each_is_good policy bytes lines h =
    let (few, there) = within_limits (nat_lt 16777216 (length bytes)) (nat_lt 65536 (length (lines_of bytes))) (lines_from policy 1 (lines_of bytes)) lines h in
    let most = ltb-false 65536 (length (lines_of bytes)) few in
    let good = lines_good policy 1 (lines_of bytes) lines there in
    record {
      few = omega (arith, most, good.few);
      numbers = λ i d within. ((good.numbers i d within).0, omega (arith, most, (good.numbers i d within).1));
      in_order = good.in_order;
      can_ask = good.can_ask;
    }

pub first_is_old : FirstIsOld
unfolding verb_for
first_is_old name = refl
