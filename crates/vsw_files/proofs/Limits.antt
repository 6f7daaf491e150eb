-- A file within its limit isn't over it.
use Rattle.std.proofs.Common.{◌≡◌, ◌<◌, ◌≤◌, ℕ, suc, List, [], ◌∷◌, ◌++◌, length, Bool, true, false, nat_lt, nat_le, Option, Result, Ok, Err, refl, sym, ◌∙◌, subst, if◌then◌else◌, arith}
use Rattle.std.proofs.lemmas.Bool.{lt-ltb, ltb-true}
use Rattle.std.specs.Prelude.{option_to_list}
use Rattle.serde_json.specs.Data.{Data}
use Rattle.vsw_commandfile.specs.Commands.{of_line, line_in, line_at, lines_from, commands_file_of}
use Rattle.vsw_commandfile.specs.Lines.{lines_of, is_blank}
use Rattle.vsw_commandfile.specs.declared.fault.CommandsFault.{CommandsFault}
use Rattle.vsw_commandfile.specs.declared.fault.CommandsFault.TheVariants as commands
use Rattle.vsw_commandfile.specs.declared.line.Line.{Line}
use Rattle.vsw_config.specs.Bytes.{json_of}
use Rattle.vsw_config.specs.Fault.{◌>>=◌, under}
use Rattle.vsw_config.specs.List.{items_in, items_after, fresh_number}
use Rattle.vsw_config.specs.Object.{object_among, read_in}
use Rattle.vsw_config.specs.Value.{number_from}
use Rattle.vsw_config.specs.declared.fault.Fault.{Fault}
use Rattle.vsw_config.specs.declared.fault.Fault.TheVariants as fault
use Rattle.vsw_config.specs.declared.fault.Step.TheVariants.{Member}
use Rattle.vsw_config.specs.declared.word.Word.{Word}
use Rattle.vsw_config.specs.declared.word.Word.TheVariants as word
use Rattle.vsw_config.specs.Policy.{of_part, few, few_in, controllers_in, ports_in, file_words, policy_of, policy_file_of}
use Rattle.vsw_config.specs.Port.{port_of}
use Rattle.vsw_config.specs.declared.file.ConfigFault.{ConfigFault}
use Rattle.vsw_config.specs.declared.file.ConfigFault.TheVariants as policy
use Rattle.vsw_config.specs.declared.file.PolicyFile.{PolicyFile}

-- ---- a policy

-- not the limit of the file
abbrev IsInside : {A : Type 0} → Result A ConfigFault → Type 0
IsInside (Ok x) = Unit {0}
IsInside (Err policy.PolicyLimit) = ⊥
IsInside (Err (policy.Bad kind path)) = Unit {0}
IsInside (Err policy.PortsLimit) = Unit {0}
IsInside (Err policy.ControllersLimit) = Unit {0}
IsInside (Err policy.Memory) = Unit {0}

failed : (A B : Type 0) (why : ConfigFault) → IsInside {A = A} (Err why) → IsInside {A = B} (Err why)
failed A B policy.PolicyLimit i = i
failed A B (policy.Bad kind path) i = tt
failed A B policy.PortsLimit i = tt
failed A B policy.ControllersLimit i = tt
failed A B policy.Memory i = tt

inside_then : {A B : Type 0} (r : Result A ConfigFault) (f : A → Result B ConfigFault) → IsInside r → ((x : A) → IsInside (f x)) → IsInside (r >>= f)
inside_then (Ok x) f i h = h x
inside_then {A} {B} (Err why) f i h = failed A B why i

part_inside : {A : Type 0} (r : Result A Fault) → IsInside (of_part r)
part_inside (Ok x) = tt
part_inside (Err (fault.Bad kind path)) = tt
part_inside (Err fault.Memory) = tt

if_inside : {A : Type 0} (b : Bool) (x : A) (why : ConfigFault) → IsInside {A = A} (Err why) → IsInside {A = A} (if b then Ok x else Err why)
if_inside true x why i = tt
if_inside false x why i = i

few_inside : (why : ConfigFault) (most : ℕ) (w : Word) (o : Data) → IsInside {A = List Data} (Err why) → IsInside (few_in why most w o)
unfolding few_in
few_inside why most w o i = inside_then (of_part (read_in w o items_in)) (few why most) (part_inside (read_in w o items_in)) (λ ds. if_inside (nat_le (length ds) most) ds why i)

controllers_inside : (o : Data) → IsInside (controllers_in o)
unfolding controllers_in
controllers_inside o = inside_then (few_in policy.ControllersLimit 8 word.Controllers o) _ (few_inside policy.ControllersLimit 8 word.Controllers o tt) (λ ds. part_inside (under (Member word.Controllers) (items_after fresh_number [] ds)))

ports_inside : (version : ℕ) (known : List ℕ) (o : Data) → IsInside (ports_in version known o)
unfolding ports_in
ports_inside version known o = inside_then (few_in policy.PortsLimit 16 word.Ports o) _ (few_inside policy.PortsLimit 16 word.Ports o tt) (λ ds. part_inside (under (Member word.Ports) (items_after (port_of version known) [] ds)))

policy_inside : (d : Data) → IsInside (policy_of d)
unfolding policy_of
policy_inside d =
    inside_then (of_part (object_among file_words d)) _ (part_inside (object_among file_words d)) (λ o.
    inside_then (of_part (read_in word.Version o (number_from 1 2))) _ (part_inside (read_in word.Version o (number_from 1 2))) (λ version.
    inside_then (controllers_in o) _ (controllers_inside o) (λ controllers.
    inside_then (ports_in version controllers o) _ (ports_inside version controllers o) (λ ports. tt))))

over_limit : {A : Type 0} (b : Bool) (r : Result A ConfigFault) → IsInside r → (if b then Err policy.PolicyLimit else r) ≡ Err policy.PolicyLimit → b ≡ true
over_limit true r i e = refl
over_limit false r i e = absurd (subst IsInside e i)

-- a policy that is over its limit is longer than that
pub policy_over : (bytes : List ℕ) → policy_file_of bytes ≡ Err policy.PolicyLimit → 4194304 < length bytes
policy_over bytes e = ltb-true 4194304 (length bytes) (over_limit (nat_lt 4194304 (length bytes)) (of_part (json_of bytes) >>= policy_of) (inside_then (of_part (json_of bytes)) policy_of (part_inside (json_of bytes)) policy_inside) e)

-- and a longer one is over it
pub policy_long : (bytes : List ℕ) → 4194304 < length bytes → policy_file_of bytes ≡ Err policy.PolicyLimit
policy_long bytes h = rw (lt-ltb 4194304 (length bytes) h) refl

-- ---- commands

abbrev AreInside : {A : Type 0} → Result A CommandsFault → Type 0
AreInside (Ok x) = Unit {0}
AreInside (Err commands.CommandsLimit) = ⊥
AreInside (Err (commands.Bad line kind path)) = Unit {0}
AreInside (Err commands.LinesLimit) = Unit {0}
AreInside (Err commands.Memory) = Unit {0}

broken : (A B : Type 0) (why : CommandsFault) → AreInside {A = A} (Err why) → AreInside {A = B} (Err why)
broken A B commands.CommandsLimit i = i
broken A B (commands.Bad line kind path) i = tt
broken A B commands.LinesLimit i = tt
broken A B commands.Memory i = tt

lines_then : {A B : Type 0} (r : Result A CommandsFault) (f : A → Result B CommandsFault) → AreInside r → ((x : A) → AreInside (f x)) → AreInside (r >>= f)
lines_then (Ok x) f i h = h x
lines_then {A} {B} (Err why) f i h = broken A B why i

line_inside : {A : Type 0} (n : ℕ) (r : Result A Fault) → AreInside (of_line n r)
line_inside n (Ok x) = tt
line_inside n (Err (fault.Bad kind path)) = tt
line_inside n (Err fault.Memory) = tt

either_inside : {A : Type 0} (b : Bool) (r s : Result A CommandsFault) → AreInside r → AreInside s → AreInside (if b then r else s)
either_inside true r s i j = i
either_inside false r s i j = j

at_inside : (p : PolicyFile) (n : ℕ) (bytes : List ℕ) → AreInside (line_at p n bytes)
unfolding line_at
at_inside p n bytes = either_inside (is_blank bytes) _ _ tt (lines_then (of_line n (line_in p n bytes)) _ (line_inside n (line_in p n bytes)) (λ line. tt))

lines_inside : (p : PolicyFile) (n : ℕ) (ls : List (List ℕ)) → AreInside (lines_from p n ls)
lines_inside p n [] = tt
lines_inside p n (l ∷ ls) = lines_then (line_at p n l) _ (at_inside p n l) (λ line. lines_then (lines_from p (suc n) ls) _ (lines_inside p (suc n) ls) (λ lines. tt))

beyond : {A : Type 0} (b : Bool) (r : Result A CommandsFault) → AreInside r → (if b then Err commands.CommandsLimit else r) ≡ Err commands.CommandsLimit → b ≡ true
beyond true r i e = refl
beyond false r i e = absurd (subst AreInside e i)

pub commands_over : (p : PolicyFile) (bytes : List ℕ) → commands_file_of p bytes ≡ Err commands.CommandsLimit → 16777216 < length bytes
commands_over p bytes e = ltb-true 16777216 (length bytes) (beyond (nat_lt 16777216 (length bytes)) _ (either_inside (nat_lt 65536 (length (lines_of bytes))) (Err commands.LinesLimit) (lines_from p 1 (lines_of bytes)) tt (lines_inside p 1 (lines_of bytes))) e)

pub commands_long : (p : PolicyFile) (bytes : List ℕ) → 16777216 < length bytes → commands_file_of p bytes ≡ Err commands.CommandsLimit
commands_long p bytes h = rw (lt-ltb 16777216 (length bytes) h) refl
