-- What was found in a trace, and what of it stays.
use Rattle.std.proofs.Common.{◌≡◌, ◌<◌, ◌≤◌, inl, inr, ℕ, Ok, List, ◌++◌, length, drop, sym, ◌∙◌, subst, arith}
use Rattle.std.proofs.lemmas.List.{drop-append-le}
use Rattle.vsw_pcap.specs.Capture.{header_of, Splits}
use Rattle.vsw_pcap.specs.Progress.{Progress}
use Rattle.vsw_pcap.specs.Reader.{Stands, Waits}
use Rattle.vsw_pcap.specs.declared.capture.Form.{Form}
use Rattle.vsw_pcap.specs.declared.capture.Record.{Record}
use Rattle.vsw_pcap.proofs.Format.{header_of-append, accepted_long, Splits-append}
use Rattle.vsw_reading.specs.Passed.{IsPassed}
use Rattle.vsw_reading.proofs.Splitting.{splits_at, stands_passed}

-- a reader that gave a record has passed the header and the records that it gave
pub passed_read : (p : Progress) (bytes : List ℕ) (records : List Record) → 0 < length records → Stands p bytes records → IsPassed bytes records
passed_read p bytes records some stands = let t = stands_passed p bytes records some stands in record { form = t.form; rest = p.left; header = t.header; splits = t.splits }

-- and so has one that waits for more bytes behind a header
pub waits_passed : (bytes : List ℕ) (all : List Record) → 24 ≤ length bytes → Waits bytes all → IsPassed bytes all
waits_passed bytes all long (inl short) = absurd (omega (arith, long, short.0))
waits_passed bytes all long (inr w) = record { form = w.1.form; rest = w.1.rest; header = w.1.header; splits = w.1.splits }

-- the first of the records
pub passed_first : (bytes : List ℕ) (rs qs : List Record) → IsPassed bytes (rs ++ qs) → IsPassed bytes rs
passed_first bytes rs qs p = let t = splits_at p.form (drop 24 bytes) rs qs p.rest p.splits in record { form = p.form; rest = t.mid; header = p.header; splits = t.first }

-- a good header and its records stay, whatever follows
pub splits_more : (bytes more : List ℕ) (form : Form) (rs : List Record) (rest : List ℕ) → header_of bytes ≡ Ok form → Splits form (drop 24 bytes) rs rest → Splits form (drop 24 (bytes ++ more)) rs (rest ++ more)
splits_more bytes more form rs rest h p = subst (λ b. Splits form b rs (rest ++ more)) (sym (drop-append-le 24 bytes more (accepted_long bytes form h))) (Splits-append form (drop 24 bytes) rs rest more p)

pub header_more : (bytes more : List ℕ) (form : Form) → header_of bytes ≡ Ok form → header_of (bytes ++ more) ≡ Ok form
header_more bytes more form h = header_of-append bytes more (accepted_long bytes form h) ∙ h

pub passed_more : (bytes more : List ℕ) (rs : List Record) → IsPassed bytes rs → IsPassed (bytes ++ more) rs
passed_more bytes more rs p = record { form = p.form; rest = p.rest ++ more; header = header_more bytes more p.form p.header; splits = splits_more bytes more p.form rs p.rest p.header p.splits }
