-- A frame is answered by the row of its key.
use Rattle.std.proofs.Common.{◌≡◌, ◌≤◌, ◌<◌, ℕ, zero, suc, List, [], ◌∷◌, ◌++◌, true, false, true≢false, length, inl, inr, ap, sym, ◌∙◌, subst}
use Rattle.std.specs.Prelude.{◌≢◌, IfNone, IfSome, None, Option, Some}
use Rattle.vsw_base.specs.declared.fate.Verdict.TheVariants.{Pass}
use Rattle.vsw_base.specs.declared.flow.Crossing.{Crossing}
use Rattle.vsw_base.specs.declared.flow.Ufid.{Ufid}
use Rattle.vsw_base.specs.declared.packet.Control.TheVariants as control
use Rattle.vsw_base.specs.Frame.{Parts}
use Rattle.vsw_offload.proofs.Judged.{key_part}
use Rattle.vsw_offload.specs.Answered.{Answered, IsUnanswered, One, SaysOne, bytes_by, bytes_given, bytes_told, fate_by, fate_given, rows_at}
use Rattle.vsw_offload.specs.declared.answer.Given.{Given}
use Rattle.vsw_offload.specs.Private.Finding.{HasNone, HasOne}
use Rattle.vsw_offload.specs.Rows.{AreRows, IsPortRows, IsRow, Rise, key_of}
use Rattle.vsw_offload.specs.declared.port_rows.PortRows.{PortRows}
use Rattle.vsw_policy.specs.Sound.{Each}
use Rattle.vsw_rows.specs.Good.{Row}
use Rattle.vsw_transpose.specs.Fits as fit
use Rattle.vsw_words.proofs.Decoded.{apart}
use Rattle.vsw_words.specs.Key.{key_words}
use Rattle.vsw_words.specs.Law.{IsId}

-- ---- the rows of a port

pub each_at : {A : Type 0} (P : A → Type 0) (front : List A) (x : A) (back : List A) → Each P (front ++ x ∷ back) → P x
each_at P [] x back e = e.0
each_at P (f ∷ fs) x back e = each_at P fs x back e.1

rows_of : (ps : List PortRows) (n : ℕ) → Each IsPortRows ps → Each IsRow (rows_at ps n) × Rise (rows_at ps n)
rows_of [] n e = (tt, tt)
rows_of (p ∷ ps) zero e = (e.0.each, e.0.rise)
rows_of (p ∷ ps) (suc n) e = rows_of ps n e.1

pub rows_are : (ps : List PortRows) (n : ℕ) → AreRows ps → Each IsRow (rows_at ps n)
rows_are ps n are = (rows_of ps n are.each).0

pub rows_rise : (ps : List PortRows) (n : ℕ) → AreRows ps → Rise (rows_at ps n)
rows_rise ps n are = (rows_of ps n are.each).1

pub row_among : (ps : List PortRows) (n : ℕ) (words : List ℕ) → AreRows ps → HasOne (rows_at ps n) words → IsRow words
row_among ps n words are one = each_at IsRow one.front words one.back (subst (Each IsRow) one.is (rows_of ps n are.each).0)

-- the row of a key is of its identity
pub of_id : (words : List ℕ) (id : Ufid) (r : IsRow words) → IsId id → key_of words ≡ key_words id.dir id.stack → id ≡ r.row.id
of_id words id r is same = apart id r.row.id is r.says.id (sym same ∙ key_part words r.row r.says)

pub fits_frame : (words : List ℕ) (id : Ufid) (r : IsRow words) → IsId id → key_of words ≡ key_words id.dir id.stack → r.row.verdict ≡ Pass → fit.fits r.row.acts id.stack ≡ true
fits_frame words id r is same pass = (λ z. fit.fits r.row.acts (of_id words id r is same z).stack) ∙ r.fits pass

-- ---- what is answered

pub has_control : (rows : List (List ℕ)) (x : Crossing) → (x.control ≡ control.None → false ≡ true) → IsUnanswered rows x
has_control rows x back = inl (λ e. true≢false (sym (back e)))

pub none_of : (rows : List (List ℕ)) (x : Crossing) (key : List ℕ) → key ≡ key_words x.id.dir x.id.stack → HasNone rows key → IsUnanswered rows x
none_of rows x key is none = inr (inl of)
  where
    of : (r : Row) → SaysOne rows r → r.id ≢ x.id
    of r (One words front back among says) e =
        let never : key_of words ≡ key → ⊥ = each_at (λ w. key_of w ≡ key → ⊥) front words back (subst (λ rs. HasNone rs key) among none) in never (key_part words r says ∙ (ap (λ (i : Ufid). key_words i.dir i.stack) e ∙ sym is))

pub by_found : (rows : List (List ℕ)) (x : Crossing) (p : Parts) (words out : List ℕ) (moment : ℕ) (id : Ufid) (result : Option Given) → HasOne rows words → (r : IsRow words) → IsId id → key_of words ≡ key_words id.dir id.stack → x.id ≡ id → x.control ≡ control.None → x.moment ≡ moment
    → IfSome result (λ g. moment ≤ r.row.until) → IfSome result (λ g. g.fate ≡ fate_by r.row.acts p r.row.verdict) → IfSome result (λ g. bytes_told g.own p g.fate out ≡ bytes_by r.row.acts p g.fate) → IfNone result (r.row.until < moment)
    → Answered rows x p (fate_given result) (bytes_given p result out)
by_found rows x p words out moment id None one r is same i control at early fate bytes late =
    inr (inr (r.row, One words one.front one.back one.is r.says, sym (i ∙ of_id words id r is same), subst (λ n. r.row.until < n) (sym at) late))
by_found rows x p words out moment id (Some g) one r is same i control at early fate bytes late = record {
  row = r.row;
  says = One words one.front one.back one.is r.says;
  may = record { id = i ∙ of_id words id r is same; control = control; moment = subst (λ n. n ≤ r.row.until) (sym at) early };
  fate_is = fate;
  bytes_are = bytes;
}

-- no port has more rows than it may have
pub all_few : (ps : List PortRows) → Each IsPortRows ps → Each (λ p. length p.rows ≤ 16384) ps
all_few [] e = tt
all_few (p ∷ ps) e = (e.0.few, all_few ps e.1)
