-- The files of a run, one after another, and how a run ends before its trace.
use Rattle.std.proofs.Common.{◌≡◌, ◌≤◌, ◌⊎◌, ◌+◌, ℕ, inl, inr, List, [], ◌∷◌, ◌++◌, Result, Ok, Err, length, refl, sym, ◌∙◌, subst, arith, append-nil}
use Rattle.vsw_commandfile.specs.Commands.{commands_file_of}
use Rattle.vsw_commandfile.specs.declared.fault.CommandsFault.{CommandsFault}
use Rattle.vsw_commandfile.specs.declared.fault.CommandsFault.TheVariants as commands
use Rattle.vsw_commandfile.specs.declared.line.Line.{Line}
use Rattle.vsw_host.specs.Outside.{Opened, Outside, SameOutputs, Rose}
use Rattle.vsw_host.specs.Reading.{ReadsFile}
use Rattle.vsw_host.specs.Told.{TellsHeld, TellsSince}
use Rattle.vsw_host.specs.declared.reading.ReadEnd.TheVariants.{Whole, Fault, Long, Memory}
use Rattle.vsw_host.proofs.CallerLemmas.{TellsSince-refl, TellsSince-trans, TellsHeld-before, SameOutputs-refl, SameOutputs-trans}
use Rattle.vsw_port.proofs.Calls.{each_append}
use Rattle.vsw_config.specs.Policy.{policy_file_of}
use Rattle.vsw_config.specs.declared.file.ConfigFault.{ConfigFault}
use Rattle.vsw_config.specs.declared.file.ConfigFault.TheVariants as policy
use Rattle.vsw_config.specs.declared.file.PolicyFile.{PolicyFile}
use Rattle.vsw_run.specs.Files.{InTurn, IsEarly, Opens, ShowsPolicy, ShowsCommands}
use Rattle.vsw_run.specs.declared.ending.Ending.{Ending}
use Rattle.vsw_run.specs.declared.ending.Ending.TheVariants as ending
use Rattle.vsw_run.specs.Words.{Request}
use Rattle.vsw_files.specs.Early.{EndsEarly, HasCommands, HasPolicy, JudgesCommands, JudgesPolicy, ReadsCommands, ReadsPolicy}
use Rattle.vsw_files.specs.Opened.{OpensFew, OpensOne}
use Rattle.vsw_files.proofs.Growing.{rose_from}
use Rattle.vsw_files.proofs.Limits.{policy_over, policy_long, commands_over, commands_long}
use Rattle.vsw_files.proofs.Reading.{IsLong, got_of, whole_read, long_read, fault_read, memory_read}

-- ---- files one after another

pub opens_none : (q : Request) (old : Outside) → Opens old old q []
opens_none q old = record { since = TellsSince-refl old.inputs; held = tt; within = tt; in_turn = tt }

-- one more file
pub opens_more : (q : Request) (old now new : Outside) (xs : List Opened) (name : List ℕ) (f : Opened) → Opens old now q xs → OpensOne now.inputs new.inputs name f → InTurn q (xs ++ f ∷ []) → Opens old new q (xs ++ f ∷ [])
opens_more q old now new xs name f p one turn = record {
  since = TellsSince-trans old.inputs now.inputs new.inputs xs (f ∷ []) p.since one.since;
  held = each_append (λ g. TellsHeld old.inputs g.name g.bytes) xs (f ∷ []) p.held (TellsHeld-before old.inputs now.inputs xs f.name f.bytes p.since one.held, tt);
  within = each_append (λ (g : Opened). g.read ≤ length g.bytes) xs (f ∷ []) p.within (one.within, tt);
  in_turn = turn;
}

-- or none
pub opens_same : (q : Request) (old now new : Outside) (xs : List Opened) → Opens old now q xs → TellsSince now.inputs new.inputs [] → Opens old new q xs
opens_same q old now new xs p none = record {
  since = subst (λ l. TellsSince old.inputs new.inputs l) (append-nil xs) (TellsSince-trans old.inputs now.inputs new.inputs xs [] p.since none);
  held = p.held;
  within = p.within;
  in_turn = p.in_turn;
}

-- ---- the ends of a run before its trace

-- nothing was put, and nothing complained
ended : (q : Request) (old new : Outside) (end : Ending) (files : List Opened) → SameOutputs old new → Opens old new q files → IsEarly old new files end → EndsEarly q old new end
ended q old new end files same opens why = record { files = files; opens = opens; outputs = same; why = why }

-- the files before the one that ended the run, and what this one did
record IsStage (q : Request) (old now : Outside) (files : List Opened) : Type 0 where
  opens : Opens old now q files
  outputs : SameOutputs old now
  later : old.input_faults ≤ now.input_faults

stage_none : (q : Request) (old : Outside) → IsStage q old old []
stage_none q old = record { opens = opens_none q old; outputs = SameOutputs-refl old; later = omega arith }

stage_policy : (q : Request) (old now : Outside) (p : PolicyFile) (h : HasPolicy q old now p) → IsStage q old now (h.file ∷ [])
stage_policy q old now p h = record { opens = h.read.opens; outputs = h.read.outputs; later = h.read.later }

-- memory was wanting for a file, or for what it says
memory_end : (q : Request) (old now new : Outside) (files : List Opened) (name : List ℕ) → IsStage q old now files → SameOutputs now new → ((f : Opened) → f.name ≡ name → InTurn q (files ++ f ∷ [])) → OpensFew now.inputs new.inputs name (λ f. Unit {0}) → EndsEarly q old new ending.Memory
memory_end q old now new files name s same turn (inl none) =
    let outputs = SameOutputs-trans old now new s.outputs same in
    ended q old new ending.Memory files outputs (opens_same q old now new files s.opens none) tt
memory_end q old now new files name s same turn (inr (f, one, u)) =
    let outputs = SameOutputs-trans old now new s.outputs same in
    ended q old new ending.Memory (files ++ f ∷ []) outputs (opens_more q old now new files name f s.opens one (turn f one.named)) tt

-- ---- the policy

pub policy_read : (q : Request) (old new : Outside) (name got bytes : List ℕ) (r : Result PolicyFile Ending) → q.policy ≡ name → ReadsFile 4194304 old new name got Whole → bytes ≡ got → JudgesPolicy bytes r → ReadsPolicy q old new r
policy_read q old new name got bytes r named reads same j =
    by r (subst (λ (t : List ℕ). JudgesPolicy t r) same j)
  where
    file : Opened
    file = got_of name got

    one : OpensOne old.inputs new.inputs name file
    one = whole_read 4194304 old new name got reads

    opens : Opens old new q (file ∷ [])
    opens = opens_more q old old new [] name file (opens_none q old) one (sym named)

    shown : (why : ConfigFault) → policy_file_of got ≡ Err why → ShowsPolicy why file
    shown policy.PolicyLimit e = absurd (let over = policy_over got e in omega (arith, over, reads.sized))
    shown (policy.Bad kind path) e = refl
    shown policy.PortsLimit e = refl
    shown policy.ControllersLimit e = refl
    shown policy.Memory e = refl

    by : (r : Result PolicyFile Ending) → JudgesPolicy got r → ReadsPolicy q old new r
    by (Ok p) e = record {
      file = file;
      read = record { opens = opens; short = omega (arith, reads.sized); outputs = reads.outputs; later = reads.later };
      is = record { named = sym named; whole = refl; good = e };
    }
    by (Err (ending.Policy why)) e = ended q old new (ending.Policy why) (file ∷ []) reads.outputs opens (record { policy = file; only = refl; shown = shown why e; bad = e })
    by (Err ending.Memory) e = ended q old new ending.Memory (file ∷ []) reads.outputs opens tt
    by (Err ending.Done) e = absurd e
    by (Err ending.Usage) e = absurd e
    by (Err ending.ReadFault) e = absurd e
    by (Err ending.WriteFault) e = absurd e
    by (Err (ending.Commands why)) e = absurd e
    by (Err (ending.Trace bad)) e = absurd e
    by (Err ending.Records) e = absurd e
    by (Err (ending.Report why)) e = absurd e
    by (Err ending.Illegal) e = absurd e
    by (Err (ending.Rows why)) e = absurd e

pub policy_fault : (q : Request) (old new : Outside) (name got : List ℕ) → q.policy ≡ name → ReadsFile 4194304 old new name got Fault → EndsEarly q old new ending.ReadFault
policy_fault q old new name got named reads = by (fault_read 4194304 old new name got reads)
  where
    by : OpensFew old.inputs new.inputs name (λ f. f.read ≤ 4194304) → EndsEarly q old new ending.ReadFault
    by (inl none) = ended q old new ending.ReadFault [] reads.outputs (opens_same q old old new [] (opens_none q old) none) (reads.fault refl, record { few = omega arith; cut_short = tt })
    by (inr (f, one, few)) = ended q old new ending.ReadFault (f ∷ []) reads.outputs (opens_more q old old new [] name f (opens_none q old) one (one.named ∙ sym named)) (reads.fault refl, record { few = omega arith; cut_short = omega (arith, few) })

pub policy_too_long : (q : Request) (old new : Outside) (name got : List ℕ) → q.policy ≡ name → ReadsFile 4194304 old new name got Long → EndsEarly q old new (ending.Policy policy.PolicyLimit)
policy_too_long q old new name got named reads =
    let l : IsLong 4194304 old.inputs new.inputs name = long_read 4194304 old new name got reads in
    ended q old new (ending.Policy policy.PolicyLimit) (l.file ∷ []) reads.outputs (opens_more q old old new [] name l.file (opens_none q old) l.opens (l.opens.named ∙ sym named))
    (record { policy = l.file; only = refl; shown = (l.over, l.short); bad = policy_long l.file.bytes (omega (arith, l.over, l.opens.within)) })

pub policy_memory : (q : Request) (old new : Outside) (name got : List ℕ) → q.policy ≡ name → ReadsFile 4194304 old new name got Memory → EndsEarly q old new ending.Memory
policy_memory q old new name got named reads = memory_end q old old new [] name (stage_none q old) reads.outputs (λ f e. e ∙ sym named) (memory_read 4194304 old new name got reads)

-- ---- the commands

-- they stand behind the policy
behind : (q : Request) (old now : Outside) (p : PolicyFile) (h : HasPolicy q old now p) (name : List ℕ) (f : Opened) → q.commands ≡ name → f.name ≡ name → InTurn q (h.file ∷ f ∷ [])
behind q old now p h name f named e = (p, h.is, e ∙ sym named)

pub commands_read : (q : Request) (old now new : Outside) (p : PolicyFile) (name got bytes : List ℕ) (r : Result (List Line) Ending) → q.commands ≡ name → HasPolicy q old now p → ReadsFile 16777216 now new name got Whole → bytes ≡ got → JudgesCommands p bytes r → ReadsCommands q old new p r
commands_read q old now new p name got bytes r named h reads same j =
    by r (subst (λ (t : List ℕ). JudgesCommands p t r) same j)
  where
    file : Opened
    file = got_of name got

    opens : Opens old new q (h.file ∷ file ∷ [])
    opens = opens_more q old now new (h.file ∷ []) name file h.read.opens (whole_read 16777216 now new name got reads) (behind q old now p h name file named refl)

    outputs : SameOutputs old new
    outputs = SameOutputs-trans old now new h.read.outputs reads.outputs

    shown : (why : CommandsFault) → commands_file_of p got ≡ Err why → ShowsCommands why file
    shown commands.CommandsLimit e = absurd (let over = commands_over p got e in omega (arith, over, reads.sized))
    shown (commands.Bad line kind path) e = refl
    shown commands.LinesLimit e = refl
    shown commands.Memory e = refl

    by : (r : Result (List Line) Ending) → JudgesCommands p got r → ReadsCommands q old new p r
    by (Ok lines) e = record {
      policy_file = h.file;
      file = file;
      read = record { opens = opens; short = (h.read.short, omega (arith, reads.sized)); outputs = outputs; later = omega (arith, h.read.later, reads.later) };
      policy_is = h.is;
      are = record { named = sym named; whole = refl; good = e };
    }
    by (Err (ending.Commands why)) e = ended q old new (ending.Commands why) (h.file ∷ file ∷ []) outputs opens (record { policy = h.file; commands = file; only = refl; shown = shown why e; given = p; good = h.is.good; bad = e })
    by (Err ending.Memory) e = ended q old new ending.Memory (h.file ∷ file ∷ []) outputs opens tt
    by (Err ending.Done) e = absurd e
    by (Err ending.Usage) e = absurd e
    by (Err ending.ReadFault) e = absurd e
    by (Err ending.WriteFault) e = absurd e
    by (Err (ending.Policy why)) e = absurd e
    by (Err (ending.Trace bad)) e = absurd e
    by (Err ending.Records) e = absurd e
    by (Err (ending.Report why)) e = absurd e
    by (Err ending.Illegal) e = absurd e
    by (Err (ending.Rows why)) e = absurd e

pub commands_fault : (q : Request) (old now new : Outside) (p : PolicyFile) (name got : List ℕ) → q.commands ≡ name → HasPolicy q old now p → ReadsFile 16777216 now new name got Fault → EndsEarly q old new ending.ReadFault
commands_fault q old now new p name got named h reads = by (fault_read 16777216 now new name got reads)
  where
    outputs : SameOutputs old new
    outputs = SameOutputs-trans old now new h.read.outputs reads.outputs

    rises : Rose old.input_faults new.input_faults
    rises = rose_from old.input_faults now.input_faults new.input_faults h.read.later (reads.fault refl)

    by : OpensFew now.inputs new.inputs name (λ f. f.read ≤ 16777216) → EndsEarly q old new ending.ReadFault
    by (inl none) = ended q old new ending.ReadFault (h.file ∷ []) outputs (opens_same q old now new (h.file ∷ []) h.read.opens none) (rises, record { few = omega arith; cut_short = h.read.short })
    by (inr (f, one, few)) = ended q old new ending.ReadFault (h.file ∷ f ∷ []) outputs (opens_more q old now new (h.file ∷ []) name f h.read.opens one (behind q old now p h name f named one.named)) (rises, record { few = omega arith; cut_short = (h.read.short, omega (arith, few)) })

pub commands_too_long : (q : Request) (old now new : Outside) (p : PolicyFile) (name got : List ℕ) → q.commands ≡ name → HasPolicy q old now p → ReadsFile 16777216 now new name got Long → EndsEarly q old new (ending.Commands commands.CommandsLimit)
commands_too_long q old now new p name got named h reads =
    let l : IsLong 16777216 now.inputs new.inputs name = long_read 16777216 now new name got reads in
    let outputs = SameOutputs-trans old now new h.read.outputs reads.outputs in
    ended q old new (ending.Commands commands.CommandsLimit) (h.file ∷ l.file ∷ []) outputs (opens_more q old now new (h.file ∷ []) name l.file h.read.opens l.opens (behind q old now p h name l.file named l.opens.named))
    (record { policy = h.file; commands = l.file; only = refl; shown = (l.over, l.short); given = p; good = h.is.good; bad = commands_long p l.file.bytes (omega (arith, l.over, l.opens.within)) })

pub commands_memory : (q : Request) (old now new : Outside) (p : PolicyFile) (name got : List ℕ) → q.commands ≡ name → HasPolicy q old now p → ReadsFile 16777216 now new name got Memory → EndsEarly q old new ending.Memory
commands_memory q old now new p name got named h reads = memory_end q old now new (h.file ∷ []) name (stage_policy q old now p h) reads.outputs (λ f e. behind q old now p h name f named e) (memory_read 16777216 now new name got reads)
