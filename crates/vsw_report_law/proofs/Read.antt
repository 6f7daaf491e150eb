-- What the readers of a policy, of commands and of a trace give lies in the ranges of its types.
use Rattle.std.proofs.Common.{◌≡◌, ◌≤◌, ◌<◌, ◌+◌, ◌^◌, ◌==◌, ◌&&◌, ℕ, suc, get_or, Bool, true, false, List, [], ◌∷◌, ◌++◌, length, drop, nat_lt, Option, Some, None, Result, Ok, Err, sym, ap, subst, arith, if◌then◌else◌}
use Rattle.std.specs.List.{list_any}
use Rattle.std.specs.Prelude.{IfSome, option_to_list}
use Rattle.hex.specs.Hex.{IsBytes}
use Rattle.serde_json.specs.Data.{Data}
use Rattle.vsw_commandfile.proofs.LinesRead.{each_is_good}
use Rattle.vsw_commandfile.specs.Command as command
use Rattle.vsw_commandfile.specs.Command.{add_group, add_layer, add_rule, command_of, part_of, part_words, parts_of, put_many, put_rules, remove_group, remove_layer, remove_rule, set_default, sweep}
use Rattle.vsw_commandfile.specs.Commands.{commands_file_of, line_at, line_in, lines_from, of_line}
use Rattle.vsw_commandfile.specs.Line.{during_of, line_of, packet_of, port_number}
use Rattle.vsw_commandfile.specs.Lines.{is_blank, lines_of}
use Rattle.vsw_commandfile.specs.Verb.{names_of, verb_of}
use Rattle.vsw_commandfile.specs.declared.fault.CommandsFault.{CommandsFault}
use Rattle.vsw_commandfile.specs.declared.fault.CommandsFault.TheVariants.{CommandsLimit, LinesLimit}
use Rattle.vsw_commandfile.specs.declared.line.Line.{Line}
use Rattle.vsw_commandfile.specs.declared.verb.Verb.{Verb}
use Rattle.vsw_commandfile.specs.declared.verb.Verb.TheVariants as verb
use Rattle.vsw_config.proofs.ListsRead.{between, kept, kept_in}
use Rattle.vsw_config.proofs.Steps.{from_part, from_under, passed, read, same_value, taken, unless}
use Rattle.vsw_config.specs.Action.{action_of}
use Rattle.vsw_config.specs.Bytes.{json_of}
use Rattle.vsw_config.specs.Condition.{conds_of}
use Rattle.vsw_config.specs.Fault.{bad}
use Rattle.vsw_config.specs.Layer.{allows_of, fresh_layer, layer_of, layer_words, layers_of, listed_number, pairs_of, room_for, seconds_of, spec_in}
use Rattle.vsw_config.specs.List.{fresh_number, items_after, items_in}
use Rattle.vsw_config.specs.Object.{object_among, read_in}
use Rattle.vsw_config.specs.Policy.{controllers_in, few_in, file_words, of_part, policy_file_of, policy_of, ports_in}
use Rattle.vsw_config.specs.Port.{fresh_mac, fresh_port, port_of, port_words, rows_of}
use Rattle.vsw_config.specs.Rule.{dir_of, fresh_group, fresh_rule, group_of, group_words, groups_of, judged, rule_of, rule_words, rules_of}
use Rattle.vsw_config.specs.Value.{number_from, short_of, truth_of, whole_of}
use Rattle.vsw_config.specs.declared.fault.Fault.{Fault}
use Rattle.vsw_config.specs.declared.fault.Fault.TheVariants as fault
use Rattle.vsw_config.specs.declared.fault.Kind.TheVariants as kind
use Rattle.vsw_config.specs.declared.fault.Step.TheVariants.{Member}
use Rattle.vsw_config.specs.declared.file.ConfigFault.{ConfigFault}
use Rattle.vsw_config.specs.declared.file.ConfigFault.TheVariants.{ControllersLimit, PolicyLimit, PortsLimit}
use Rattle.vsw_config.specs.declared.file.LayerFile.{LayerFile}
use Rattle.vsw_config.specs.declared.file.PolicyFile.{PolicyFile}
use Rattle.vsw_config.specs.declared.file.PortFile.{PortFile}
use Rattle.vsw_config.specs.declared.word.Word.TheVariants as word
use Rattle.vsw_pcap.specs.Capture.{Splits}
use Rattle.vsw_pcap.specs.declared.capture.Form.{Form}
use Rattle.vsw_pcap.specs.declared.capture.Record.{Record}
use Rattle.vsw_policy.specs.Sound.{Each}
use Rattle.vsw_policy.specs.declared.command.Command.{Command}
use Rattle.vsw_policy.specs.declared.command.Part.{Part}
use Rattle.vsw_policy.specs.declared.layer.LayerSpec.{LayerSpec}
use Rattle.vsw_rule.specs.Check.{bad_rule_of}
use Rattle.vsw_rule.specs.declared.check.BadRule.{BadRule}
use Rattle.vsw_rule.specs.declared.rule.Group.{Group}
use Rattle.vsw_rule.specs.declared.rule.Rule.{Rule}
use Rattle.vsw_report_law.proofs.Layers.{each_append}
use Rattle.vsw_report_law.proofs.Outgoing.{front, rest}
use Rattle.vsw_report_law.specs.Fits.{FitsCommand, FitsGroup, FitsLayer, FitsLine, FitsPolicy, FitsPort, FitsRule}

push : {A : Type 0} (P : A → Type 0) (xs : List A) (x : A) → Each P xs → P x → Each P (xs ++ x ∷ [])
push P xs x e p = each_append P xs (x ∷ []) e (p, tt)

-- ---- numbers of 16 bits

short_small : (d : Data) (n : ℕ) → short_of d ≡ Ok n → n < 2 ^ 16
short_small d n h = omega (arith, (between 0 65535 d n h).1)

rule_number : (done : List Rule) (d : Data) (n : ℕ) → fresh_rule done d ≡ Ok n → n < 2 ^ 16
unfolding fresh_rule
rule_number done d n h =
    taken (short_of d) _ n h (λ m e h.
    let (none, same) = unless (list_any (λ r. r.number == m) done) m n _ h in
    subst (λ k. k < 2 ^ 16) same (short_small d m e))

group_number : (done : List Group) (d : Data) (n : ℕ) → fresh_group done d ≡ Ok n → n < 2 ^ 16
unfolding fresh_group
group_number done d n h =
    taken (short_of d) _ n h (λ m e h.
    let (none, same) = unless (list_any (λ g. g.number == m) done) m n _ h in
    subst (λ k. k < 2 ^ 16) same (short_small d m e))

layer_number : (c : ℕ) (done : List LayerFile) (d : Data) (n : ℕ) → fresh_layer c done d ≡ Ok n → n < 2 ^ 16
unfolding fresh_layer
layer_number c done d n h =
    taken (short_of d) _ n h (λ m e h.
    let (none, same) = unless (list_any (λ l. (l.controller == c) && (l.spec.layer == m)) done) m n _ h in
    subst (λ k. k < 2 ^ 16) same (short_small d m e))

port_small : (done : List PortFile) (d : Data) (n : ℕ) → fresh_port done d ≡ Ok n → n < 2 ^ 16
unfolding fresh_port
port_small done d n h =
    taken (short_of d) _ n h (λ m e h.
    let (none, same) = unless (list_any (λ p. p.port == m) done) m n _ h in
    subst (λ k. k < 2 ^ 16) same (short_small d m e))

listed_small : (known : List ℕ) (d : Data) (c : ℕ) → listed_number known d ≡ Ok c → c < 2 ^ 16
unfolding listed_number
listed_small known d c h =
    taken (short_of d) _ c h (λ m e h.
    let (found, same) = passed (list_any (λ k. k == m) known) m c _ h in
    subst (λ k. k < 2 ^ 16) same (short_small d m e))

-- ---- rules and groups

if_same : (r s : Rule) (o : Option BadRule) → ◌≡◌ {A = Result Rule Fault} (elim o [ None ↦ Ok r | Some why ↦ bad kind.BadRule ]) (Ok s) → r ≡ s
if_same r s None h = same_value r s h
if_same r s (Some why) h = cc

judged_same : (r s : Rule) → judged r ≡ Ok s → r ≡ s
unfolding judged
judged_same r s h = if_same r s (bad_rule_of r) h

rule_fits : (version : ℕ) (done : List Rule) (d : Data) (r : Rule) → rule_of version done d ≡ Ok r → FitsRule r
unfolding rule_of
rule_fits version done d r h =
    taken (object_among rule_words d) _ r h (λ o e h.
    taken (read_in word.Rule o (fresh_rule done)) _ r h (λ number here h.
    taken (read_in word.Priority o short_of) _ r h (λ priority e h.
    taken (read_in word.When o (conds_of version)) _ r h (λ when e h.
    taken (read_in word.Action o (action_of version)) _ r h (λ action e h.
    taken (read_in word.Stateful o truth_of) _ r h (λ stateful e h.
    taken (read_in word.Last o truth_of) _ r h (λ last e h.
    read word.Rule o (fresh_rule done) number here (λ place fresh.
    subst FitsRule (judged_same _ r h) (rule_number done place number fresh)))))))))

rules_fit : (version : ℕ) (d : Data) (rs : List Rule) → rules_of version d ≡ Ok rs → Each FitsRule rs
unfolding rules_of
rules_fit version d rs h = kept_in 1024 d (Each FitsRule) (rule_of version) (λ done d r q h. push FitsRule done r q (rule_fits version done d r h)) rs tt h

group_fits : (version : ℕ) (done : List Group) (d : Data) (g : Group) → group_of version done d ≡ Ok g → FitsGroup g
unfolding group_of
group_fits version done d g h =
    taken (object_among group_words d) _ g h (λ o e h.
    taken (read_in word.Group o (fresh_group done)) _ g h (λ number here h.
    taken (read_in word.Dir o dir_of) _ g h (λ dir e h.
    taken (read_in word.When o (conds_of version)) _ g h (λ when e h.
    taken (read_in word.Rules o (rules_of version)) _ g h (λ rules there h.
    read word.Group o (fresh_group done) number here (λ place fresh.
    read word.Rules o (rules_of version) rules there (λ list value.
    subst FitsGroup (same_value _ g h) (group_number done place number fresh, rules_fit version list rules value))))))))

groups_fit : (version : ℕ) (d : Data) (gs : List Group) → groups_of version d ≡ Ok gs → Each FitsGroup gs
unfolding groups_of
groups_fit version d gs h = kept_in 32 d (Each FitsGroup) (group_of version) (λ done d g q h. push FitsGroup done g q (group_fits version done d g h)) gs tt h

-- ---- layers and ports

spec_layer : (layer : ℕ) (o : Data) (s : LayerSpec) → spec_in layer o ≡ Ok s → layer ≡ s.layer
unfolding spec_in
spec_layer layer o s h =
    taken (read_in word.Order o short_of) _ s h (λ order e h.
    taken (read_in word.DefaultOut o allows_of) _ s h (λ allow_out e h.
    taken (read_in word.DefaultIn o allows_of) _ s h (λ allow_in e h.
    taken (read_in word.Pairs o pairs_of) _ s h (λ pairs e h.
    taken (read_in word.Idle o seconds_of) _ s h (λ idle e h.
    taken (read_in word.Linger o seconds_of) _ s h (λ linger e h.
    ap (λ (s : LayerSpec). s.layer) (same_value _ s h)))))))

layer_fits : (version : ℕ) (known : List ℕ) (done : List LayerFile) (d : Data) (l : LayerFile) → layer_of version known done d ≡ Ok l → FitsLayer l
unfolding layer_of
layer_fits version known done d l h =
    taken (object_among layer_words d) _ l h (λ o e h.
    taken (read_in word.Controller o (listed_number known)) _ l h (λ controller here h.
    taken (room_for controller done) _ l h (λ u room h.
    taken (read_in word.Layer o (fresh_layer controller done)) _ l h (λ layer there h.
    taken (spec_in layer o) _ l h (λ spec part h.
    taken (read_in word.Groups o (groups_of version)) _ l h (λ groups list h.
    read word.Controller o (listed_number known) controller here (λ place number.
    read word.Layer o (fresh_layer controller done) layer there (λ spot fresh.
    read word.Groups o (groups_of version) groups list (λ items value.
    subst FitsLayer (same_value _ l h) (
      listed_small known place controller number,
      subst (λ k. k < 2 ^ 16) (spec_layer layer o spec part) (layer_number controller done spot layer fresh),
      groups_fit version items groups value,
    ))))))))))

layers_fit : (version : ℕ) (known : List ℕ) (d : Data) (ls : List LayerFile) → layers_of version known d ≡ Ok ls → Each FitsLayer ls
unfolding layers_of
layers_fit version known d ls h =
    taken (items_in d) _ ls h (λ ds e h.
    kept (Each FitsLayer) (layer_of version known) (λ done d l q h. push FitsLayer done l q (layer_fits version known done d l h)) [] ds ls tt h)

port_fits : (version : ℕ) (known : List ℕ) (done : List PortFile) (d : Data) (p : PortFile) → port_of version known done d ≡ Ok p → FitsPort p
unfolding port_of
port_fits version known done d p h =
    taken (object_among port_words d) _ p h (λ o e h.
    taken (read_in word.Port o (fresh_port done)) _ p h (λ number here h.
    taken (read_in word.Mac o (fresh_mac done)) _ p h (λ mac e h.
    taken (read_in word.Rows o rows_of) _ p h (λ rows e h.
    taken (read_in word.Layers o (layers_of version known)) _ p h (λ layers list h.
    read word.Port o (fresh_port done) number here (λ place fresh.
    read word.Layers o (layers_of version known) layers list (λ items value.
    subst FitsPort (same_value _ p h) (port_small done place number fresh, layers_fit version known items layers value))))))))

-- ---- a policy

number_small : (done : List ℕ) (d : Data) (n : ℕ) → fresh_number done d ≡ Ok n → n < 2 ^ 16
number_small done d n h =
    taken (short_of d) _ n h (λ m e h.
    let (none, same) = unless (list_any (λ k. k == m) done) m n _ h in
    subst (λ k. k < 2 ^ 16) same (short_small d m e))

controllers_fit : (o : Data) (cs : List ℕ) → controllers_in o ≡ Ok cs → Each (λ c. c < 2 ^ 16) cs
unfolding controllers_in
controllers_fit o cs h =
    taken (few_in ControllersLimit 8 word.Controllers o) _ cs h (λ ds e h.
    let items = from_under (Member word.Controllers) (items_after fresh_number [] ds) cs (from_part _ cs h) in
    kept (Each (λ c. c < 2 ^ 16)) fresh_number (λ done d n q h. push (λ c. c < 2 ^ 16) done n q (number_small done d n h)) [] ds cs tt items)

ports_fit : (version : ℕ) (known : List ℕ) (o : Data) (ps : List PortFile) → ports_in version known o ≡ Ok ps → Each FitsPort ps
unfolding ports_in
ports_fit version known o ps h =
    taken (few_in PortsLimit 16 word.Ports o) _ ps h (λ ds e h.
    let items = from_under (Member word.Ports) (items_after (port_of version known) [] ds) ps (from_part _ ps h) in
    kept (Each FitsPort) (port_of version known) (λ done d p q h. push FitsPort done p q (port_fits version known done d p h)) [] ds ps tt items)

data_fits : (d : Data) (p : PolicyFile) → policy_of d ≡ Ok p → FitsPolicy p
unfolding policy_of
data_fits d p h =
    taken (of_part (object_among file_words d)) _ p h (λ o e h.
    taken (of_part (read_in word.Version o (number_from 1 2))) _ p h (λ version e h.
    taken (controllers_in o) _ p h (λ controllers here h.
    taken (ports_in version controllers o) _ p h (λ ports there h.
    subst FitsPolicy (same_value _ p h) (controllers_fit o controllers here, ports_fit version controllers o ports there)))))

within_limit : (b : Bool) (r : Result PolicyFile ConfigFault) (p : PolicyFile) → (if b then Err PolicyLimit else r) ≡ Ok p → r ≡ Ok p
within_limit true r p h = cc
within_limit false r p h = h

pub policy_fits : (bytes : List ℕ) (p : PolicyFile) → policy_file_of bytes ≡ Ok p → FitsPolicy p
policy_fits bytes p h = taken (of_part (json_of bytes)) policy_of p (within_limit (nat_lt 4194304 (length bytes)) _ p h) (λ d e h. data_fits d p h)

-- ---- commands

command_rules : (version : ℕ) (d : Data) (rs : List Rule) → command.rules_of version d ≡ Ok rs → Each FitsRule rs
unfolding command.rules_of
command_rules version d rs h =
    taken (items_in d) _ rs h (λ ds e h.
    kept (Each FitsRule) (λ done. rule_of version []) (λ done d r q h. push FitsRule done r q (rule_fits version [] d r h)) [] ds rs tt h)

add_layer_fits : (o : Data) (c : Command) → add_layer o ≡ Ok c → FitsCommand c
unfolding add_layer
add_layer_fits o c h =
    taken (read_in word.Layer o short_of) _ c h (λ layer here h.
    taken (spec_in layer o) _ c h (λ spec part h.
    read word.Layer o short_of layer here (λ place number.
    subst FitsCommand (same_value _ c h) (subst (λ k. k < 2 ^ 16) (spec_layer layer o spec part) (short_small place layer number)))))

remove_layer_fits : (o : Data) (c : Command) → remove_layer o ≡ Ok c → FitsCommand c
unfolding remove_layer
remove_layer_fits o c h = taken (read_in word.Layer o short_of) _ c h (λ layer e h. subst FitsCommand (same_value _ c h) tt)

add_group_fits : (version : ℕ) (o : Data) (c : Command) → add_group version o ≡ Ok c → FitsCommand c
unfolding add_group
add_group_fits version o c h =
    taken (read_in word.Layer o short_of) _ c h (λ layer e h.
    taken (read_in word.Group o short_of) _ c h (λ group here h.
    taken (read_in word.Dir o dir_of) _ c h (λ dir e h.
    taken (read_in word.WhenAll o (conds_of version)) _ c h (λ when e h.
    read word.Group o short_of group here (λ place number.
    subst FitsCommand (same_value _ c h) (short_small place group number))))))

remove_group_fits : (o : Data) (c : Command) → remove_group o ≡ Ok c → FitsCommand c
unfolding remove_group
remove_group_fits o c h =
    taken (read_in word.Layer o short_of) _ c h (λ layer e h.
    taken (read_in word.Group o short_of) _ c h (λ group e h.
    subst FitsCommand (same_value _ c h) tt))

put_rules_fits : (version : ℕ) (o : Data) (c : Command) → put_rules version o ≡ Ok c → FitsCommand c
unfolding put_rules
put_rules_fits version o c h =
    taken (read_in word.Layer o short_of) _ c h (λ layer e h.
    taken (read_in word.Group o short_of) _ c h (λ group e h.
    taken (read_in word.Rules o (command.rules_of version)) _ c h (λ rules there h.
    read word.Rules o (command.rules_of version) rules there (λ list value.
    subst FitsCommand (same_value _ c h) (command_rules version list rules value)))))

part_fits : (version : ℕ) (d : Data) (p : Part) → part_of version d ≡ Ok p → Each FitsRule p.rules
unfolding part_of
part_fits version d p h =
    taken (object_among part_words d) _ p h (λ o e h.
    taken (read_in word.Layer o short_of) _ p h (λ layer e h.
    taken (read_in word.Group o short_of) _ p h (λ group e h.
    taken (read_in word.Rules o (command.rules_of version)) _ p h (λ rules there h.
    read word.Rules o (command.rules_of version) rules there (λ list value.
    subst (λ (q : Part). Each FitsRule q.rules) (same_value _ p h) (command_rules version list rules value))))))

parts_fit : (version : ℕ) (d : Data) (ps : List Part) → parts_of version d ≡ Ok ps → Each (λ p. Each FitsRule p.rules) ps
unfolding parts_of
parts_fit version d ps h =
    taken (items_in d) _ ps h (λ ds e h.
    kept (Each (λ p. Each FitsRule p.rules)) (λ done. part_of version) (λ done d p q h. push (λ p. Each FitsRule p.rules) done p q (part_fits version d p h)) [] ds ps tt h)

put_many_fits : (version : ℕ) (o : Data) (c : Command) → put_many version o ≡ Ok c → FitsCommand c
unfolding put_many
put_many_fits version o c h =
    taken (read_in word.Parts o (parts_of version)) _ c h (λ parts there h.
    read word.Parts o (parts_of version) parts there (λ list value.
    subst FitsCommand (same_value _ c h) (parts_fit version list parts value)))

add_rule_fits : (version : ℕ) (o : Data) (c : Command) → add_rule version o ≡ Ok c → FitsCommand c
unfolding add_rule
add_rule_fits version o c h =
    taken (read_in word.Layer o short_of) _ c h (λ layer e h.
    taken (read_in word.Group o short_of) _ c h (λ group e h.
    taken (read_in word.Rule o (rule_of version [])) _ c h (λ rule there h.
    read word.Rule o (rule_of version []) rule there (λ place value.
    subst FitsCommand (same_value _ c h) (rule_fits version [] place rule value)))))

remove_rule_fits : (o : Data) (c : Command) → remove_rule o ≡ Ok c → FitsCommand c
unfolding remove_rule
remove_rule_fits o c h =
    taken (read_in word.Layer o short_of) _ c h (λ layer e h.
    taken (read_in word.Group o short_of) _ c h (λ group e h.
    taken (read_in word.Rule o short_of) _ c h (λ number e h.
    subst FitsCommand (same_value _ c h) tt)))

set_default_fits : (o : Data) (c : Command) → set_default o ≡ Ok c → FitsCommand c
unfolding set_default
set_default_fits o c h =
    taken (read_in word.Layer o short_of) _ c h (λ layer e h.
    taken (read_in word.Dir o dir_of) _ c h (λ dir e h.
    taken (read_in word.Default o allows_of) _ c h (λ allow e h.
    subst FitsCommand (same_value _ c h) tt)))

sweep_fits : (o : Data) (c : Command) → sweep o ≡ Ok c → FitsCommand c
unfolding sweep
sweep_fits o c h =
    taken (read_in word.Layer o short_of) _ c h (λ layer e h.
    taken (read_in word.Now o whole_of) _ c h (λ now e h.
    subst FitsCommand (same_value _ c h) tt))

command_fits : (version : ℕ) (v : Verb) (o : Data) (c : Command) → command_of version v o ≡ Ok c → FitsCommand c
command_fits version verb.AddLayer o c h = add_layer_fits o c h
command_fits version verb.RemoveLayer o c h = remove_layer_fits o c h
command_fits version verb.AddGroup o c h = add_group_fits version o c h
command_fits version verb.RemoveGroup o c h = remove_group_fits o c h
command_fits version verb.PutRules o c h = put_rules_fits version o c h
command_fits version verb.PutMany o c h = put_many_fits version o c h
command_fits version verb.AddRule o c h = add_rule_fits version o c h
command_fits version verb.RemoveRule o c h = remove_rule_fits o c h
command_fits version verb.SetDefault o c h = set_default_fits o c h
command_fits version verb.Sweep o c h = sweep_fits o c h

-- ---- lines

-- but for the line's own number
abbrev FitsBut : Line → Type 0
FitsBut l = (l.at < 2 ^ 32) × FitsCommand l.command

packet_small : (d : Data) (n : ℕ) → packet_of d ≡ Ok n → n < 2 ^ 32
packet_small d n h = omega (arith, (between 0 4294967295 d n h).1)

line_fits : (policy : PolicyFile) (n : ℕ) (d : Data) (l : Line) → line_of policy n d ≡ Ok l → FitsBut l
unfolding line_of
line_fits policy n d l h =
    taken (read_in word.At d packet_of) _ l h (λ at here h.
    taken (read_in word.When d during_of) _ l h (λ during e h.
    taken (read_in word.Controller d (listed_number policy.controllers)) _ l h (λ controller e h.
    taken (read_in word.Port d (port_number policy.ports)) _ l h (λ port e h.
    taken (read_in word.Do d (verb_of policy.version)) _ l h (λ verb e h.
    taken (object_among (names_of verb) d) _ l h (λ o e h.
    taken (command_of policy.version verb o) _ l h (λ asked there h.
    read word.At d packet_of at here (λ place number.
    subst FitsBut (same_value _ l h) (packet_small place at number, command_fits policy.version verb o asked there)))))))))

from_line : {A : Type 0} (n : ℕ) (r : Result A Fault) (x : A) → of_line n r ≡ Ok x → r ≡ Ok x
from_line n (Ok y) x h = cc
from_line n (Err (fault.Bad kind path)) x h = cc
from_line n (Err fault.Memory) x h = cc

text_fits : (policy : PolicyFile) (n : ℕ) (bytes : List ℕ) (l : Line) → line_in policy n bytes ≡ Ok l → FitsBut l
unfolding line_in
text_fits policy n bytes l h = taken (json_of bytes) (line_of policy n) l h (λ d e h. line_fits policy n d l h)

unless_blank : (b : Bool) (r : Result (Option Line) CommandsFault) (o : Option Line) → (r ≡ Ok o → IfSome o FitsBut) → (if b then Ok None else r) ≡ Ok o → IfSome o FitsBut
unless_blank true r o k h = subst (λ o. IfSome o FitsBut) (same_value None o h) tt
unless_blank false r o k h = k h

at_fits : (policy : PolicyFile) (n : ℕ) (bytes : List ℕ) (o : Option Line) → line_at policy n bytes ≡ Ok o → IfSome o FitsBut
unfolding line_at
at_fits policy n bytes o h =
    unless_blank (is_blank bytes) _ o (λ h.
    taken (of_line n (line_in policy n bytes)) _ o h (λ l e h.
    subst (λ o. IfSome o FitsBut) (same_value (Some l) o h) (text_fits policy n bytes l (from_line n _ l e)))) h

one_fits : (o : Option Line) (ls : List Line) → IfSome o FitsBut → Each FitsBut ls → Each FitsBut (option_to_list o ++ ls)
one_fits None ls h e = e
one_fits (Some l) ls h e = (h, e)

from_fit : (policy : PolicyFile) (n : ℕ) (ls : List (List ℕ)) (lines : List Line) → lines_from policy n ls ≡ Ok lines → Each FitsBut lines
from_fit policy n [] lines h = subst (Each FitsBut) (same_value [] lines h) tt
from_fit policy n (l ∷ ls) lines h =
    taken (line_at policy n l) _ lines h (λ o e h.
    taken (lines_from policy (suc n) ls) _ lines h (λ rest f h.
    subst (Each FitsBut) (same_value _ lines h) (one_fits o rest (at_fits policy n l o e) (from_fit policy (suc n) ls rest f))))

within_limits : (b t : Bool) (r : Result (List Line) CommandsFault) (lines : List Line) → (if b then Err CommandsLimit else if t then Err LinesLimit else r) ≡ Ok lines → r ≡ Ok lines
within_limits true t r lines h = cc
within_limits false true r lines h = cc
within_limits false false r lines h = h

-- with its own number, which is at most 65,536
numbered : (ls : List Line) → Each FitsBut ls → ((i : ℕ) (d : Line) → i < length ls → (get_or ls i d).number ≤ 65536) → Each FitsLine ls
numbered [] e f = tt
numbered (l ∷ ls) e f = ((omega (arith, f 0 l (omega arith)), e.0.0, e.0.1), numbered ls e.1 (λ i d lt. f (suc i) d (omega (arith, lt))))

pub commands_fit : (policy : PolicyFile) (bytes : List ℕ) (lines : List Line) → commands_file_of policy bytes ≡ Ok lines → Each FitsLine lines
commands_fit policy bytes lines h =
    let there = within_limits (nat_lt 16777216 (length bytes)) (nat_lt 65536 (length (lines_of bytes))) (lines_from policy 1 (lines_of bytes)) lines h in
    let good = each_is_good policy bytes lines h in
    numbered lines (from_fit policy 1 (lines_of bytes) lines there) (λ i d lt. (good.numbers i d lt).1)

-- ---- records

pub records_are_bytes : (form : Form) (bytes : List ℕ) (records : List Record) (back : List ℕ) → IsBytes bytes → Splits form bytes records back → Each (λ r. IsBytes r.bytes) records
records_are_bytes form bytes [] back h s = tt
records_are_bytes form bytes (r ∷ rs) back h s = (
  subst (λ (w : Record). IsBytes w.bytes) (sym s.2) (front s.0 (drop 16 bytes) (rest 16 bytes h)),
  records_are_bytes form (drop (16 + s.0) bytes) rs back (rest (16 + s.0) bytes h) s.3,
)
