-- What good rows answer is what the layers answer.
use Rattle.std.proofs.Common.{◌≡◌, ℕ, List, [], ◌∷◌, ◌++◌, length, Bool, true, false, nat_lt, if◌then◌else◌, refl, ap, sym, ◌∙◌, subst}
use Rattle.std.specs.Prelude.{Option, Some, None, Ok}
use Rattle.vsw_base.specs.declared.fate.Cause.TheVariants as cause
use Rattle.vsw_base.specs.declared.fate.Fate.{Fate}
use Rattle.vsw_base.specs.declared.fate.Fate.TheVariants.{Pass, Drop}
use Rattle.vsw_base.specs.declared.fate.Verdict.{Verdict}
use Rattle.vsw_base.specs.declared.fate.Verdict.TheVariants as verdict
use Rattle.vsw_base.specs.declared.flow.Crossing.{Crossing}
use Rattle.vsw_base.specs.declared.header.Header.{Header}
use Rattle.vsw_base.specs.Frame.{Parts, frame_of, sizes_of}
use Rattle.vsw_base.specs.Shape.{is_stack}
use Rattle.vsw_frame.specs.Bytes as bytes
use Rattle.vsw_policy.specs.Layer.{LayerSeen}
use Rattle.vsw_policy.specs.Sound.{Each}
use Rattle.vsw_port.specs.declared.stop.Stop.{Stop}
use Rattle.vsw_port.specs.declared.stop.Stop.TheVariants.{Long}
use Rattle.vsw_port.specs.Admit.{on_pass}
use Rattle.vsw_port.specs.Calls.{Carried, Reads, Shows, ShowsAt}
use Rattle.vsw_port.specs.Cross.{Passing, cross_of, fate_after}
use Rattle.vsw_port.specs.Fate as port
use Rattle.vsw_port.specs.History.{replay}
use Rattle.vsw_port.specs.Long.{is_long, outgoing_size}
use Rattle.vsw_port.specs.Walk.{walk_of}
use Rattle.vsw_port.proofs.Alike.{long_alike, sized}
use Rattle.vsw_rows.proofs.Answered.{row_answers}
use Rattle.vsw_rows.specs.Good.{Good, Row}
use Rattle.vsw_rows.specs.GoodRows.{IsGoodRow}
use Rattle.vsw_rows.specs.LeanLaw.{answer_by}
use Rattle.vsw_transpose.specs.Apply.{apply}
use Rattle.vsw_transpose.specs.Fits.{kept}
use Rattle.vsw_offload.specs.Answered.{One, RowsAnswerAsLayers, SaysOne, WordsSayOne, bytes_by, fate_by}

-- one of them
one_of : (P : List ℕ → Type 0) (front : List (List ℕ)) (words : List ℕ) (back : List (List ℕ)) → Each P (front ++ words ∷ back) → P words
one_of P [] words back e = e.0
one_of P (f ∷ front) words back e = one_of P front words back e.1

-- a packet that passes leaves with the stack of its walk
passes_with : (v : Verdict) (stop : Option Stop) (hs : List Header) (k : ℕ) (w : Passing) → fate_after v stop hs k ≡ Ok w → (hs ≡ w.stack) × (k ≡ w.kept)
passes_with verdict.Pass None hs k w e = let f : record { stack = hs; kept = k } ≡ w = cc e in (ap (λ u. u.stack) f, ap (λ u. u.kept) f)
passes_with verdict.Pass (Some stop) hs k w e = absurd (cc e)
passes_with (verdict.Rule controller layer group rule) stop hs k w e = absurd (cc e)
passes_with (verdict.Default controller layer dir) stop hs k w e = absurd (cc e)

told : (ls : List LayerSeen) (x : Crossing) (frame : List ℕ) (parts : Parts) (r : Row) (fate : Fate) (out : List ℕ) → frame_of frame ≡ Ok parts → is_stack parts.stack ≡ true → x.id.stack ≡ parts.stack → x.sizes ≡ sizes_of parts.levels → (v : Verdict)
    → fate ≡ fate_by r.acts parts v → out ≡ bytes_by r.acts parts fate
    → (cross_of ls x).fate ≡ fate_after v (on_pass v (if is_long x (apply r.acts parts.stack) (kept r.acts) then Some Long else None)) (apply r.acts parts.stack) (kept r.acts)
    → (fate ≡ port.fate_at ls x) × Shows ls x parts fate out
told ls x frame parts r fate out is good stack sizes (verdict.Rule controller layer group rule) f b c = (f ∙ sym (ap (port.fate_by x) c), subst (λ w. Shows ls x parts w out) (sym f) (b ∙ ap (bytes_by r.acts parts) f))
told ls x frame parts r fate out is good stack sizes (verdict.Default controller layer dir) f b c = (f ∙ sym (ap (port.fate_by x) c), subst (λ w. Shows ls x parts w out) (sym f) (b ∙ ap (bytes_by r.acts parts) f))
told ls x frame parts r fate out is good stack sizes verdict.Pass f b c = by (is_long x hs k) refl c
  where
    hs : List Header
    hs = apply r.acts parts.stack

    k : ℕ
    k = kept r.acts

    alike : is_long x hs k ≡ nat_lt 65535 (bytes.outer_total parts hs k)
    alike = ap (nat_lt 65535) (long_alike parts x hs k good stack sizes)

    by : (l : Bool) → is_long x hs k ≡ l → (cross_of ls x).fate ≡ fate_after verdict.Pass (on_pass verdict.Pass (if l then Some Long else None)) hs k → (fate ≡ port.fate_at ls x) × Shows ls x parts fate out
    by true l c =
        let t : nat_lt 65535 (bytes.outer_total parts hs k) ≡ true = sym alike ∙ l in
        let g : fate ≡ Drop cause.Long = f ∙ rw t refl in
        (g ∙ sym (ap (port.fate_by x) c), subst (λ w. Shows ls x parts w out) (sym g) (b ∙ ap (bytes_by r.acts parts) g))
    by false l c =
        let t : nat_lt 65535 (bytes.outer_total parts hs k) ≡ false = sym alike ∙ l in
        let g : fate ≡ Pass (length_of hs k) = f ∙ rw t refl in
        let w = passes_with (walk_of ls x).verdict _ (walk_of ls x).stack (walk_of ls x).kept (record { stack = hs; kept = k }) c in
        let long : length_of hs k ≡ outgoing_size x hs k = subst (λ n. length_of hs n ≡ outgoing_size x hs n) w.1 (subst (λ s. length_of s (walk_of ls x).kept ≡ outgoing_size x s (walk_of ls x).kept) w.0 (sized ls x parts frame is stack sizes)) in (
          g ∙ (ap Pass long ∙ sym (ap (port.fate_by x) c)),
          subst (λ w. Shows ls x parts w out) (sym g) ((b ∙ ap (bytes_by r.acts parts) g) ∙ (ap (λ s. bytes.outgoing parts s k) (sym w.0) ∙ ap (bytes.outgoing parts (walk_of ls x).stack) (sym w.1))),
        )
      where
        length_of : List Header → ℕ → ℕ
        length_of hs k = length (bytes.outgoing parts hs k)

pub rows_answer_as_layers : WordsSayOne → RowsAnswerAsLayers
rows_answer_as_layers one o h rows x frame parts fate out all is good stack sizes a = by a.says
  where
    ls : List LayerSeen
    ls = replay o h

    by : SaysOne rows a.row → Reads ls (Carried x parts fate out) × ShowsAt ls (Carried x parts fate out)
    by (One words front back among says) =
        let theirs : IsGoodRow o h words = one_of (IsGoodRow o h) front words back (subst (Each (IsGoodRow o h)) among all) in
        let same : theirs.row ≡ a.row = one words theirs.row a.row (record { words_is = theirs.words_is; id = theirs.id; body = theirs.body }) says in
        let crossed : cross_of ls x ≡ answer_by ls a.row x = row_answers ls a.row x (subst (Good ls) same theirs.good) a.may in
        let at : (cross_of ls x).fate ≡ fate_after a.row.verdict (on_pass a.row.verdict (if is_long x (apply a.row.acts parts.stack) (kept a.row.acts) then Some Long else None)) (apply a.row.acts parts.stack) (kept a.row.acts) =
        subst (λ s. (cross_of ls x).fate ≡ fate_after a.row.verdict (on_pass a.row.verdict (if is_long x (apply a.row.acts s) (kept a.row.acts) then Some Long else None)) (apply a.row.acts s) (kept a.row.acts)) stack (ap (λ c. c.fate) crossed) in
        let t = told ls x frame parts a.row fate out is good stack sizes a.row.verdict a.fate_is a.bytes_are at in
        ((t.0, ap (λ c. c.changed) crossed), t.1)
