-- What holds of every commands file that is read.
use Rattle.std.specs.Prelude.{◌≡◌, ◌≢◌, ◌⊎◌, ℕ, ◌≤◌, ◌<◌, List, [], ◌∷◌, ◌++◌, true, length, Ok, All}
use Rattle.std.specs.List.{AllPairs}
use Rattle.vsw_policy.specs.Numbers.{IsGoodSpec}
use Rattle.vsw_policy.specs.declared.command.Command.{Command}
use Rattle.vsw_policy.specs.declared.command.Command.TheVariants.{AddLayer, RemoveLayer, AddGroup, RemoveGroup, PutRules, PutMany, AddRule, RemoveRule, SetDefault, Sweep}
use Rattle.vsw_policy.specs.Obey.{rules_given}
use Rattle.vsw_policy.specs.Sound.{Each, IsGoodRule, is_listed}
use Rattle.vsw_config.specs.declared.file.PolicyFile.{PolicyFile}
use Rattle.vsw_config.specs.Value.{value_for}
use Rattle.vsw_config.specs.Good.{AreGoodConds}
use Rattle.vsw_commandfile.specs.declared.line.Line.{Line}
use Rattle.vsw_commandfile.specs.Verb.{verb_names, verb_for}
use Rattle.vsw_commandfile.specs.Line.{is_port}
use Rattle.vsw_commandfile.specs.Lines.{lines_of}
use Rattle.vsw_commandfile.specs.Commands.{commands_file_of}

-- numbers of a new layer and conditions are those that a policy may have
abbrev pub IsWithin : Command → Type 0
IsWithin (AddLayer s) = IsGoodSpec s
IsWithin (RemoveLayer n) = Unit {0}
IsWithin (AddGroup n g dir when) = AreGoodConds when
IsWithin (RemoveGroup n g) = Unit {0}
IsWithin (PutRules n g rs) = Each (λ r. AreGoodConds r.when) rs
IsWithin (PutMany ps) = Each (λ p. Each (λ r. AreGoodConds r.when) p.rules) ps
IsWithin (AddRule n g r) = AreGoodConds r.when
IsWithin (RemoveRule n g k) = Unit {0}
IsWithin (SetDefault n dir allow) = Unit {0}
IsWithin (Sweep n now) = Unit {0}

-- what a line asks may be asked: the controller is listed, the port is one of the policy's, nothing is wrong with the rules, and all is within its bounds
abbrev pub CanAsk : PolicyFile → Line → Type 0
CanAsk policy l = (is_listed policy.controllers l.controller ≡ true) × (is_port l.port policy.ports ≡ true) × Each IsGoodRule (rules_given l.command) × IsWithin l.command

-- at most 65,536 lines, with ascending numbers
pub record AreGood (policy : PolicyFile) (lines : List Line) : Type 0 where
  pub few : length lines ≤ 65536
  pub numbers : All (λ l. (1 ≤ l.number) × (l.number ≤ 65536)) lines
  pub in_order : AllPairs (λ l m. l.number < m.number) lines
  pub can_ask : All (CanAsk policy) lines

abbrev pub EachIsGood : Type 0
EachIsGood = (policy : PolicyFile) (bytes : List ℕ) (lines : List Line) → commands_file_of policy bytes ≡ Ok lines → AreGood policy lines

-- beside a policy of version 1, a line may do nothing that version 2 adds
abbrev pub FirstIsOld : Type 0
FirstIsOld = (name : List ℕ) → verb_for 1 name ≡ value_for verb_names name

-- lines, each with a line feed behind it
abbrev pub with_feeds : List (List ℕ) → List ℕ
with_feeds [] = []
with_feeds (l ∷ ls) = l ++ 10 ∷ with_feeds ls

-- no line has a line feed in it, and together they are the bytes, which may lack the last line feed
pub record AreLines (bytes : List ℕ) (ls : List (List ℕ)) : Type 0 where
  pub no_feeds : All (All (λ b. b ≢ 10)) ls
  pub whole : (with_feeds ls ≡ bytes) ⊎ (with_feeds ls ≡ bytes ++ 10 ∷ [])

abbrev pub EachIsCut : Type 0
EachIsCut = (bytes : List ℕ) → AreLines bytes (lines_of bytes)
