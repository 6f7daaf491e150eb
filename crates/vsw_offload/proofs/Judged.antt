-- Words that say a row, and where they are refused.
use Rattle.std.proofs.Common.{◌≡◌, ◌++◌, ℕ, List, Bool, true, length, take, drop, ap, sym, ◌∙◌}
use Rattle.std.proofs.Math.Seq.{drop-append_seam, take-append_seam}
use Rattle.vsw_base.specs.declared.fate.Verdict.{Verdict}
use Rattle.vsw_base.specs.declared.fate.Verdict.TheVariants.{Pass}
use Rattle.vsw_base.specs.declared.flow.Ufid.{Ufid}
use Rattle.vsw_offload.specs.Rows.{AreWords, IsRow}
use Rattle.vsw_rows.specs.Good.{Row}
use Rattle.vsw_rows.specs.Rows.{Says}
use Rattle.vsw_rows.proofs.Answers.{key_length, words_are}
use Rattle.vsw_transpose.specs.declared.act.Act.{Act}
use Rattle.vsw_transpose.specs.Fits as fit
use Rattle.vsw_words.specs.Key.{key_words}
use Rattle.vsw_words.specs.Law.{IsId}
use Rattle.vsw_words.specs.Reading.{IsBody}
use Rattle.vsw_words.specs.Row.{body_words, row_words}
use Rattle.vsw_words.specs.declared.row.Body.{Body}

pub key_part : (words : List ℕ) (r : Row) → Says words r → take 16 words ≡ key_words r.id.dir r.id.stack
key_part words r s =
    let ks : List ℕ = key_words r.id.dir r.id.stack in
    let bs : List ℕ = body_words r.verdict r.acts r.until in
    ap (take 16) (s.words_is ∙ words_are r) ∙ (ap (λ n. take n (ks ++ bs)) (sym (key_length r.id.dir r.id.stack)) ∙ take-append_seam ks bs)

pub body_part : (words : List ℕ) (r : Row) → Says words r → drop 16 words ≡ body_words r.verdict r.acts r.until
body_part words r s =
    let ks : List ℕ = key_words r.id.dir r.id.stack in
    let bs : List ℕ = body_words r.verdict r.acts r.until in
    ap (drop 16) (s.words_is ∙ words_are r) ∙ (ap (λ n. drop n (ks ++ bs)) (sym (key_length r.id.dir r.id.stack)) ∙ drop-append_seam ks bs)

-- what was read of the words
abbrev Backs : List ℕ → Bool → Ufid → Type 0
Backs words result out = (id : Ufid) → IsId id → take 16 words ≡ key_words id.dir id.stack → (result ≡ true) × (out ≡ id)

abbrev Tells : List ℕ → Bool → Body → Type 0
Tells words result out = (verdict : Verdict) (by : List Act) (until : ℕ) → IsBody verdict by → drop 16 words ≡ body_words verdict by until → (result ≡ true) × (out.verdict ≡ verdict) × (out.by ≡ by) × (out.until ≡ until)

pub id_read : (words : List ℕ) (result : Bool) (out : Ufid) → Backs words result out → (r : IsRow words) → (result ≡ true) × (out ≡ r.row.id)
id_read words result out back r = back r.row.id r.says.id (key_part words r.row r.says)

pub body_read : (words : List ℕ) (result : Bool) (out : Body) → Tells words result out → (r : IsRow words) → (result ≡ true) × (out.verdict ≡ r.row.verdict) × (out.by ≡ r.row.acts) × (out.until ≡ r.row.until)
body_read words result out back r = back r.row.verdict r.row.acts r.row.until r.says.body (body_part words r.row r.says)

pub fits_read : (words : List ℕ) (x y : Bool) (id : Ufid) (body : Body) → Backs words x id → Tells words y body → (r : IsRow words) → body.verdict ≡ Pass → fit.fits body.by id.stack ≡ true
fits_read words x y id body back tells r pass =
    let i : id ≡ r.row.id = (id_read words x id back r).1 in
    let b = body_read words y body tells r in
    (λ z. fit.fits (b.2 z) (i z).stack) ∙ r.fits (sym b.1 ∙ pass)

pub words_read : (words : List ℕ) (x y : Bool) (id : Ufid) (body : Body) → Backs words x id → Tells words y body → (r : IsRow words) → row_words id body.verdict body.by body.until ≡ words
words_read words x y id body back tells r =
    let i : id ≡ r.row.id = (id_read words x id back r).1 in
    let b = body_read words y body tells r in
    (λ z. row_words (i z) (b.1 z) (b.2 z) (b.3 z)) ∙ sym r.says.words_is

pub row_made : (words : List ℕ) (id : Ufid) (body : Body) → length words ≡ 73 → AreWords words → IsId id → IsBody body.verdict body.by → (body.verdict ≡ Pass → fit.fits body.by id.stack ≡ true) → row_words id body.verdict body.by body.until ≡ words → IsRow words
row_made words id body long below is good fits same = record {
  long = long;
  below = below;
  row = record { id = id; verdict = body.verdict; acts = body.by; until = body.until };
  says = record { words_is = sym same; id = is; body = good };
  fits = fits;
}
