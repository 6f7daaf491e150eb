-- The rows of a run that answers a trace from them.
use Rattle.std.proofs.Common.{◌≡◌, ◌≤◌, ◌+◌, ℕ, inl, inr, List, [], ◌∷◌, Result, Ok, Err, length, refl, sym, subst, arith}
use Rattle.vsw_files.specs.Answering.{HasAnswered, HasRows, JudgesRows, ReadsRows}
use Rattle.vsw_files.specs.Opened.{OpensFew, OpensOne}
use Rattle.vsw_files.proofs.Growing.{grows_same}
use Rattle.vsw_files.proofs.Reading.{IsLong, fault_read, got_of, long_read, memory_read, whole_read}
use Rattle.vsw_host.specs.Outside.{Opened, Outside, Grows, SameOutputs}
use Rattle.vsw_host.specs.Reading.{ReadsFile}
use Rattle.vsw_host.specs.Told.{TellsSince}
use Rattle.vsw_host.specs.declared.reading.ReadEnd.TheVariants.{Whole, Fault, Long, Memory}
use Rattle.vsw_offload.specs.declared.port_rows.PortRows.{PortRows}
use Rattle.vsw_run.specs.ByRows.{Ends, InTurn, Opens}
use Rattle.vsw_run.specs.Words.{Query}
use Rattle.vsw_run.specs.declared.ending.Ending.{Ending}
use Rattle.vsw_run.specs.declared.ending.Ending.TheVariants as ending
use Rattle.vsw_run.specs.declared.ending.RowsFault.TheVariants as fault

-- the rows alone were opened
opens_one : (q : Query) (old new : Outside) (name : List ℕ) (f : Opened) → q.rows ≡ name → OpensOne old.inputs new.inputs name f → Opens old new q (f ∷ [])
opens_one q old new name f named one = record { since = one.since; held = (one.held, tt); within = (one.within, tt); in_turn = subst (λ n. f.name ≡ n) (sym named) one.named }

opens_none : (q : Query) (old new : Outside) → TellsSince old.inputs new.inputs [] → Opens old new q []
opens_none q old new since = record { since = since; held = tt; within = tt; in_turn = tt }

ends_so : (q : Query) (old new : Outside) (end : Ending) (files : List Opened) → SameOutputs old new → Opens old new q files → Ends q old new files end → HasAnswered q old new end
ends_so q old new end files same opens ends = record { runs = record { files = files; opens = opens; ends = ends }; complained = same.complained; complain_faults = same.complain_faults }

none_put : (old new : Outside) → SameOutputs old new → Grows old.put new.put []
none_put old new same = grows_same old.put new.put same.put

pub rows_read : (q : Query) (old new : Outside) (name got bytes : List ℕ) (r : Result (List PortRows) Ending) → q.rows ≡ name → ReadsFile 160000000 old new name got Whole → bytes ≡ got → JudgesRows bytes r → ReadsRows q old new r
rows_read q old new name got bytes r named reads same j = by r (subst (λ (t : List ℕ). JudgesRows t r) same j)
  where
    file : Opened
    file = got_of name got

    opens : Opens old new q (file ∷ [])
    opens = opens_one q old new name file named (whole_read 160000000 old new name got reads)

    so : (end : Ending) → Ends q old new (file ∷ []) end → HasAnswered q old new end
    so end ends = ends_so q old new end (file ∷ []) reads.outputs opens ends

    none : Grows old.put new.put []
    none = none_put old new reads.outputs

    by : (r : Result (List PortRows) Ending) → JudgesRows got r → ReadsRows q old new r
    by (Ok ports) j = record { file = file; opens = opens; is = record { named = sym named; whole = refl; few = reads.sized; are = j.0; is = j.1 }; outputs = reads.outputs; later = reads.later }
    by (Err (ending.Rows (fault.Bad why))) j = so (ending.Rows (fault.Bad why)) (inl (record { rows = file; only = refl; shown = (refl, reads.sized, j.0, j.1) }, none))
    by (Err (ending.Rows fault.RowsLimit)) j = absurd j
    by (Err ending.Memory) j = so ending.Memory (inl (tt, none))
    by (Err ending.Done) j = absurd j
    by (Err ending.Usage) j = absurd j
    by (Err ending.ReadFault) j = absurd j
    by (Err ending.WriteFault) j = absurd j
    by (Err (ending.Policy why)) j = absurd j
    by (Err (ending.Commands why)) j = absurd j
    by (Err (ending.Trace bad)) j = absurd j
    by (Err ending.Records) j = absurd j
    by (Err (ending.Report why)) j = absurd j
    by (Err ending.Illegal) j = absurd j

pub rows_fault : (q : Query) (old new : Outside) (name got : List ℕ) → q.rows ≡ name → ReadsFile 160000000 old new name got Fault → HasAnswered q old new ending.ReadFault
rows_fault q old new name got named reads = by (fault_read 160000000 old new name got reads)
  where
    none : Grows old.put new.put []
    none = none_put old new reads.outputs

    by : OpensFew old.inputs new.inputs name (λ f. f.read ≤ 160000000) → HasAnswered q old new ending.ReadFault
    by (inl since) = ends_so q old new ending.ReadFault [] reads.outputs (opens_none q old new since) (inl ((reads.fault refl, tt), none))
    by (inr (f, one, few)) = ends_so q old new ending.ReadFault (f ∷ []) reads.outputs (opens_one q old new name f named one) (inl ((reads.fault refl, omega (arith, few)), none))

pub rows_long : (q : Query) (old new : Outside) (name got : List ℕ) → q.rows ≡ name → ReadsFile 160000000 old new name got Long → HasAnswered q old new (ending.Rows fault.RowsLimit)
rows_long q old new name got named reads =
    let l : IsLong 160000000 old.inputs new.inputs name = long_read 160000000 old new name got reads in
    ends_so q old new (ending.Rows fault.RowsLimit) (l.file ∷ []) reads.outputs (opens_one q old new name l.file named l.opens) (inl (record { rows = l.file; only = refl; shown = (l.over, l.short) }, none_put old new reads.outputs))

pub rows_memory : (q : Query) (old new : Outside) (name got : List ℕ) → q.rows ≡ name → ReadsFile 160000000 old new name got Memory → HasAnswered q old new ending.Memory
rows_memory q old new name got named reads = by (memory_read 160000000 old new name got reads)
  where
    none : Grows old.put new.put []
    none = none_put old new reads.outputs

    by : OpensFew old.inputs new.inputs name (λ f. Unit {0}) → HasAnswered q old new ending.Memory
    by (inl since) = ends_so q old new ending.Memory [] reads.outputs (opens_none q old new since) (inl (tt, none))
    by (inr (f, one, u)) = ends_so q old new ending.Memory (f ∷ []) reads.outputs (opens_one q old new name f named one) (inl (tt, none))
