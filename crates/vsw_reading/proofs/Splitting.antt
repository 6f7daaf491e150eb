-- Records of a capture: more of them, fewer of them, and where they end.
use Rattle.std.proofs.Common.{◌≡◌, ℕ, zero, suc, ◌+◌, ◌-◌, ◌≤◌, ◌<◌, ◌⊎◌, inl, inr, List, [], ◌∷◌, ◌++◌, Option, Some, None, Ok, length, drop, refl, sym, ap, subst, arith, length-drop}
use Rattle.vsw_pcap.specs.Capture.{header_of, front_of, record_of, Splits, Stops}
use Rattle.vsw_pcap.specs.Progress.{Progress}
use Rattle.vsw_pcap.specs.Reader.{Stands, Gave}
use Rattle.vsw_pcap.specs.declared.capture.Form.{Form}
use Rattle.vsw_pcap.specs.declared.capture.Front.{Front}
use Rattle.vsw_pcap.specs.declared.capture.Front.TheVariants.{Whole, Part, Oversize}
use Rattle.vsw_pcap.specs.declared.capture.Record.{Record}

pub splits_append : (form : Form) (bytes : List ℕ) (rs qs : List Record) (mid rest : List ℕ) → Splits form bytes rs mid → Splits form mid qs rest → Splits form bytes (rs ++ qs) rest
splits_append form bytes [] qs mid rest s t = let P : List ℕ → Type 0 = λ b. Splits form b qs rest in subst P (sym s) t
splits_append form bytes (r ∷ rs) qs mid rest s t = (s.0, s.1, s.2, splits_append form (drop (16 + s.0) bytes) rs qs mid rest s.3 t)

-- what stands between the first records and the others
pub record Between (form : Form) (bytes : List ℕ) (rs qs : List Record) (rest : List ℕ) : Type 0 where
  pub mid : List ℕ
  pub first : Splits form bytes rs mid
  pub then_more : Splits form mid qs rest

pub splits_at : (form : Form) (bytes : List ℕ) (rs qs : List Record) (rest : List ℕ) → Splits form bytes (rs ++ qs) rest → Between form bytes rs qs rest
splits_at form bytes [] qs rest s = record { mid = bytes; first = refl; then_more = s }
splits_at form bytes (r ∷ rs) qs rest s = let t = splits_at form (drop (16 + s.0) bytes) rs qs rest s.3 in record { mid = t.mid; first = (s.0, s.1, s.2, t.first); then_more = t.then_more }

pub splits_shorter : (form : Form) (bytes : List ℕ) (rs : List Record) (rest : List ℕ) → Splits form bytes rs rest → length rest ≤ length bytes
splits_shorter form bytes [] rest s = omega (arith, ap length s)
splits_shorter form bytes (r ∷ rs) rest s = omega (arith, splits_shorter form (drop (16 + s.0) bytes) rs rest s.3, length-drop (16 + s.0) bytes)

abbrev pub NotWhole : Front → Type 0
NotWhole (Whole c) = ⊥
NotWhole Part = Unit {0}
NotWhole Oversize = Unit {0}

-- up to so many records stand at the front, and fewer only where no whole one follows
pub record Ends (n : ℕ) (form : Form) (bytes : List ℕ) : Type 0 where
  pub records : List Record
  pub rest : List ℕ
  pub splits : Splits form bytes records rest
  pub few : length records ≤ n
  pub last : (length records ≡ n) ⊎ NotWhole (front_of form rest)

more_last : (n m : ℕ) (f : Front) → (m ≡ n) ⊎ NotWhole f → (suc m ≡ suc n) ⊎ NotWhole f
more_last n m f (inl e) = inl (ap suc e)
more_last n m f (inr w) = inr w

pub ends_within : (n : ℕ) (form : Form) (bytes : List ℕ) → Ends n form bytes
ends_within zero form bytes = record { records = []; rest = bytes; splits = refl; few = omega arith; last = inl refl }
ends_within (suc n) form bytes = elim (front_of form bytes) as (λ f. front_of form bytes ≡ f → Ends (suc n) form bytes) [
  | Whole c ↦ λ e. let t = ends_within n form (drop (16 + c) bytes) in record {
    records = record_of form bytes c ∷ t.records;
    rest = t.rest;
    splits = (c, e, refl, t.splits);
    few = omega (arith, t.few);
    last = more_last n (length t.records) (front_of form t.rest) t.last;
  }
  | Part ↦ λ e. record { records = []; rest = bytes; splits = refl; few = omega arith; last = inr (subst NotWhole (sym e) tt) }
  | Oversize ↦ λ e. record { records = []; rest = bytes; splits = refl; few = omega arith; last = inr (subst NotWhole (sym e) tt) }
] refl

-- the records so far, and where they stop
pub stops_at : (bytes : List ℕ) (form : Form) (records : List Record) (rest : List ℕ) (front : Front) → header_of bytes ≡ Ok form → Splits form (drop 24 bytes) records rest → front_of form rest ≡ front → Stops bytes records (length bytes - length rest) front
stops_at bytes form records rest front h s b = record {
  form = form;
  rest = rest;
  header = h;
  splits = s;
  place = omega (arith, splits_shorter form (drop 24 bytes) records rest s, length-drop 24 bytes);
  begins = b;
}

-- a reader that gave a record has passed the header
pub record Passed (bytes : List ℕ) (records : List Record) (left : List ℕ) : Type 0 where
  pub form : Form
  pub header : header_of bytes ≡ Ok form
  pub splits : Splits form (drop 24 bytes) records left

gave_passed : (form : Option Form) (bytes : List ℕ) (records : List Record) (left : List ℕ) → 0 < length records → Gave form bytes records left → Passed bytes records left
gave_passed None bytes records left some g = absurd (omega (arith, ap length g.1, some))
gave_passed (Some form) bytes records left some g = record { form = form; header = g.0; splits = g.1 }

pub stands_passed : (p : Progress) (bytes : List ℕ) (records : List Record) → 0 < length records → Stands p bytes records → Passed bytes records p.left
stands_passed p bytes records some s = gave_passed p.form bytes records p.left some s.gave
