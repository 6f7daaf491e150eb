-- What the words of a row's body make of a frame.
use Rattle.std.proofs.Common.{◌≡◌, ◌≤◌, ◌-◌, ℕ, List, true, drop, length, refl, ap, subst, sym, ◌∙◌, arith}
use Rattle.vsw_base.specs.declared.fate.Fate.{Fate}
use Rattle.vsw_base.specs.declared.fate.Fate.TheVariants.{Pass, Drop}
use Rattle.vsw_base.specs.declared.header.Header.{Header}
use Rattle.vsw_base.specs.Shape.{encaps, is_stack}
use Rattle.vsw_frame.proofs.Fitting.{fits_edit}
use Rattle.vsw_frame.specs.Bytes.{IsEdit}
use Rattle.vsw_base.specs.Frame.{Parts}
use Rattle.vsw_offload.proofs.Judged.{body_part}
use Rattle.vsw_offload.specs.Answered.{bytes_by}
use Rattle.vsw_offload.specs.Private.Saying.{SaysOf, SaysRow, bytes_with}
use Rattle.vsw_rows.specs.Good.{Row}
use Rattle.vsw_transpose.specs.Apply.{apply}
use Rattle.vsw_transpose.specs.Fits.{fits, kept}
use Rattle.vsw_transpose.specs.Form.{is_form}
use Rattle.vsw_transpose.specs.declared.act.Act.{Act}

-- of no encapsulation none is kept
pub none_kept : (by : List Act) (hs : List Header) → is_form by ≡ true → is_stack hs ≡ true → fits by hs ≡ true → encaps hs ≡ 0 → 0 ≡ kept by
none_kept by hs form shape fit none = let few : kept by ≤ encaps hs = (fits_edit by hs form shape fit).of_stack in omega (arith, few, none)

-- what the acts make of a stack is an edit
pub edited_by : (by : List Act) (hs stack edited : List Header) (left : ℕ) → is_form by ≡ true → is_stack hs ≡ true → fits by hs ≡ true → stack ≡ hs → edited ≡ apply by stack → left ≡ kept by → IsEdit hs edited left
edited_by by hs stack edited left form shape fit same made is =
    let all : edited ≡ apply by hs = made ∙ ap (apply by) same in subst (λ (gs : List Header). IsEdit hs gs left) (sym all) (subst (λ k. IsEdit hs (apply by hs) k) (sym is) (fits_edit by hs form shape fit))

-- the bytes of the acts' headers are those of the acts
pub same_bytes : (by : List Act) (p : Parts) (f : Fate) → bytes_with p (apply by p.stack) (kept by) f ≡ bytes_by by p f
same_bytes by p (Pass len) = refl
same_bytes by p (Drop why) = refl

-- the last 57 words of a row are those of its body
pub body_is : (words body : List ℕ) (r : Row) (p : Parts) → length words ≡ 73 → body ≡ drop (length words - 57) words → SaysRow words r p → SaysOf body r p
body_is words body r p long same row =
    let sixteen : length words - 57 ≡ 16 = omega (arith, long) in record { are = (row.says.body, same ∙ (ap (λ n. drop n words) sixteen ∙ body_part words r row.says)); fits = row.fits }
