-- Packets that are taken from a workload.
use Rattle.std.specs.Prelude.{◌≡◌, ◌≤◌, ◌⊎◌, ◌+◌, ℕ, List, ◌++◌, length, map, Bool, true, false}
use Rattle.vsw_generate.specs.Workload.{packets_from}
use Rattle.vsw_pcap.specs.declared.capture.Record.{Record}
use Rattle.vsw_run.specs.Generated.{whole_record}

-- the records of the packets that are left
abbrev pub records_left : ℕ × ℕ × ℕ → List Record
records_left w = map whole_record (packets_from w.0 w.1 w.2)

-- the next packet, if there is one, went from the workload to the batch
abbrev pub DrawsOne : ℕ × ℕ × ℕ → ℕ × ℕ × ℕ → List Record → List Record → Bool → Type 0
DrawsOne old new before after true = (after ++ records_left new ≡ before ++ records_left old) × (length after ≡ length before + 1) × (new.2 + 1 ≡ old.2)
DrawsOne old new before after false = (new ≡ old) × (after ≡ before) × (old.2 ≡ 0)

-- the next 1,024 packets went to the batch, or all that were left
pub record Draws (old new : ℕ × ℕ × ℕ) (batch : List Record) : Type 0 where
  pub is : batch ++ records_left new ≡ records_left old
  pub count : length batch + new.2 ≡ old.2
  pub most : length batch ≤ 1024
  pub whole : (length batch ≡ 1024) ⊎ (new.2 ≡ 0)
