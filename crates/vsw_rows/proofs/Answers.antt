-- A good row answers the packets of its key.
use Rattle.std.proofs.Common.{◌≡◌, ℕ, List, ◌++◌, refl, sym, ◌∙◌, ap, subst, length, take, drop}
use Rattle.std.proofs.Math.Seq.{take-append_seam, drop-append_seam}
use Rattle.vsw_base.specs.declared.flow.Ufid.{Ufid}
use Rattle.vsw_base.specs.declared.header.Header.{Header}
use Rattle.vsw_base.specs.declared.packet.Dir.{Dir}
use Rattle.vsw_port.specs.Cross.{cross_of}
use Rattle.vsw_port.specs.History.{replay}
use Rattle.vsw_rows.specs.Good.{MayAnswer, Row}
use Rattle.vsw_rows.specs.LeanLaw.{answer_by}
use Rattle.vsw_rows.proofs.Answered.{row_answers}
use Rattle.vsw_rows.specs.Law.{RowAnswers}
use Rattle.vsw_rows.specs.GoodRows.{words_of}
use Rattle.vsw_words.specs.Key.{key_words}
use Rattle.vsw_words.specs.Row.{body_words, row_words}
use Rattle.vsw_words.proofs.Decoded.{apart}
use Rattle.vsw_words.proofs.Used as used

-- an identity has sixteen words
pub key_length : (dir : Dir) (hs : List Header) → length (key_words dir hs) ≡ 16
key_length = used.key_length

-- lists of sixteen words with others behind them are the same in both parts
pub fronts : (ks ls ms ns : List ℕ) → length ks ≡ 16 → length ms ≡ 16 → ks ++ ls ≡ ms ++ ns → ks ≡ ms
fronts ks ls ms ns a c e = sym (take-append_seam ks ls) ∙ ap (λ n. take n (ks ++ ls)) a ∙ ap (take 16) e ∙ ap (λ n. take n (ms ++ ns)) (sym c) ∙ take-append_seam ms ns

rests : (ks ls ms ns : List ℕ) → length ks ≡ 16 → length ms ≡ 16 → ks ++ ls ≡ ms ++ ns → ls ≡ ns
rests ks ls ms ns a c e = sym (drop-append_seam ks ls) ∙ ap (λ n. drop n (ks ++ ls)) a ∙ ap (drop 16) e ∙ ap (λ n. drop n (ms ++ ns)) (sym c) ∙ drop-append_seam ms ns

pub words_are : (row : Row) → words_of row ≡ key_words row.id.dir row.id.stack ++ body_words row.verdict row.acts row.until
unfolding row_words
words_are row = refl

with_id : Row → Ufid → Row
with_id row id = record { id = id; verdict = row.verdict; acts = row.acts; until = row.until }

pub answers : RowAnswers
unfolding with_id
answers o h x body is good =
    let row : Row = good.row in
    let key : List ℕ = key_words x.id.dir x.id.stack in
    let other : List ℕ = key_words row.id.dir row.id.stack in
    let said : List ℕ = body_words row.verdict row.acts row.until in
    let all : key ++ body ≡ other ++ said = good.words_is ∙ words_are row in
    let same : key ≡ other = fronts key body other said (key_length x.id.dir x.id.stack) (key_length row.id.dir row.id.stack) all in
    let rest : body ≡ said = rests key body other said (key_length x.id.dir x.id.stack) (key_length row.id.dir row.id.stack) all in
    let id : x.id ≡ row.id = apart x.id row.id is good.id same in
    (row.verdict, row.acts, row.until, rest, subst (λ r. MayAnswer r x → cross_of (replay o h) x ≡ answer_by (replay o h) r x) (sym (ap (with_id row) id)) (row_answers (replay o h) row x good.good))
