-- From a good row that was found to what it says of the packet.
use Rattle.std.proofs.Common.{◌≡◌, ◌≤◌, ◌<◌, ℕ, List, [], ◌++◌, true, false, true≢false, Bool, refl, sym, ◌∙◌, ap, subst, length, drop, Option, Some, None, Result, Ok, Err}
use Rattle.std.proofs.Math.Seq.{drop-append_seam}
use Rattle.vsw_port.specs.declared.stop.Stop.{Stop}
use Rattle.vsw_port.specs.Admit.{stop_of}
use Rattle.vsw_answer.specs.Private.Said.{AreEdited, AreWordsOf, IfPasses, IsBodyOf, IsEdited, IsFound, IsOf, Said, SaidLate, fate_said, row_with}
use Rattle.vsw_base.specs.declared.fate.Cause.{Cause}
use Rattle.vsw_base.specs.declared.fate.Fate.{Fate}
use Rattle.vsw_base.specs.declared.fate.Fate.TheVariants.{Pass, Drop}
use Rattle.vsw_base.specs.declared.fate.Verdict.{Verdict}
use Rattle.vsw_base.specs.declared.fate.Verdict.TheVariants as verdict
use Rattle.vsw_base.specs.declared.flow.Crossing.{Crossing}
use Rattle.vsw_base.specs.declared.header.Header.{Header}
use Rattle.vsw_base.specs.declared.packet.Control.TheVariants as control
use Rattle.vsw_port.specs.Cross.{Crossed, Passing, cross_of, fate_after}
use Rattle.vsw_port.specs.Fate.{fate_by}
use Rattle.vsw_walk.specs.Walk.{walk_of}
use Rattle.vsw_port.specs.declared.event.Event.{Event}
use Rattle.vsw_port.specs.History.{Opening, replay}
use Rattle.vsw_policy.specs.Layer.{LayerSeen}
use Rattle.vsw_rows.specs.Good.{Good, Row}
use Rattle.vsw_rows.specs.LeanLaw.{answer_by, stop_by}
use Rattle.vsw_rows.proofs.Answered.{row_answers}
use Rattle.vsw_port.specs.declared.crossing.Outcome.{Outcome}
use Rattle.vsw_port.specs.Crossed.{EditsPass, IsOwn}
use Rattle.vsw_rows.proofs.Answers.{fronts, key_length, words_are}
use Rattle.vsw_transpose.specs.Apply.{apply}
use Rattle.vsw_transpose.specs.Fits as fit
use Rattle.vsw_words.specs.declared.row.Body.{Body}
use Rattle.vsw_words.specs.Key.{key_words}
use Rattle.vsw_words.specs.Law.{IsId}
use Rattle.vsw_words.specs.Row.{body_words}
use Rattle.vsw_words.proofs.Decoded.{apart}

-- lists of sixteen words with others behind them are the same in the second part, too
rests : (ks ls ms ns : List ℕ) → length ks ≡ 16 → length ms ≡ 16 → ks ++ ls ≡ ms ++ ns → ls ≡ ns
rests ks ls ms ns a c e = sym (drop-append_seam ks ls) ∙ ap (λ n. drop n (ks ++ ls)) a ∙ ap (drop 16) e ∙ ap (λ n. drop n (ms ++ ns)) (sym c) ∙ drop-append_seam ms ns

-- the words behind an identity's key, where a row was found, are those of that row's body, and the row is of the identity
found_is : (o : Opening) (h : List Event) (x : Crossing) (words : List ℕ) → IsId x.id → (found : IsFound o h x.id words) → (x.id ≡ found.row.id) × (words ≡ body_words found.row.verdict found.row.acts found.row.until)
found_is o h x words is found =
    let row : Row = found.row in
    let key : List ℕ = key_words x.id.dir x.id.stack in
    let other : List ℕ = key_words row.id.dir row.id.stack in
    let said : List ℕ = body_words row.verdict row.acts row.until in
    let all : key ++ words ≡ other ++ said = found.words_is ∙ words_are row in
    let same : key ≡ other = fronts key words other said (key_length x.id.dir x.id.stack) (key_length row.id.dir row.id.stack) all in
    (apart x.id row.id is found.id same, rests key words other said (key_length x.id.dir x.id.stack) (key_length row.id.dir row.id.stack) all)

-- what the row that was found says
abbrev pub says_of : Row → Body
says_of r = record { verdict = r.verdict; by = r.acts; until = r.until }

row_is : (o : Opening) (h : List Event) (x : Crossing) (words : List ℕ) → IsId x.id → (found : IsFound o h x.id words) → row_with x (says_of found.row) ≡ found.row
row_is o h x words is found = let f = found_is o h x words is found in λ i. record { id = f.0 i; verdict = found.row.verdict; acts = found.row.acts; until = found.row.until }

pub found_good : (o : Opening) (h : List Event) (x : Crossing) (words : List ℕ) → IsId x.id → (found : IsFound o h x.id words) → IsBodyOf o h x (says_of found.row)
found_good o h x words is found = subst (Good (replay o h)) (sym (row_is o h x words is found)) found.good

pub found_whole : (o : Opening) (h : List Event) (x : Crossing) (words : List ℕ) → IsId x.id → (found : IsFound o h x.id words) → AreWordsOf x words (row_with x (says_of found.row))
found_whole o h x words is found = subst (AreWordsOf x words) (sym (row_is o h x words is found)) found.words_is

-- its words are those of what it says
pub found_of : (o : Opening) (h : List Event) (x : Crossing) (words : List ℕ) → IsId x.id → (found : IsFound o h x.id words) → IsOf x words (says_of found.row)
found_of o h x words is found = ((found.body, (found_is o h x words is found).1), (found_good o h x words is found).fits)

is_pass : Fate → Bool
is_pass (Pass len) = true
is_pass (Drop cause) = false

-- where a packet passes, its headers are these
passes_with : (x : Crossing) (v : Verdict) (stop : Option Stop) (hs : List Header) (kept n : ℕ) → Pass n ≡ fate_by x (fate_after v stop hs kept) → fate_after v stop hs kept ≡ Ok (record { stack = hs; kept = kept })
unfolding is_pass
passes_with x verdict.Pass None hs kept n e = refl
passes_with x verdict.Pass (Some stop) hs kept n e = absurd (true≢false (ap is_pass e))
passes_with x (verdict.Rule controller layer group rule) stop hs kept n e = absurd (true≢false (ap is_pass e))
passes_with x (verdict.Default controller layer dir) stop hs kept n e = absurd (true≢false (ap is_pass e))

stack_of : Result Passing Cause → List Header
stack_of (Ok way) = way.stack
stack_of (Err cause) = []

kept_of : Result Passing Cause → ℕ
kept_of (Ok way) = way.kept
kept_of (Err cause) = 0

-- the edited headers are those with which the walk ends
edits_as : (ls : List LayerSeen) (x : Crossing) (b : Body) (edited : List Header) (kept : ℕ) (fate : Fate) → cross_of ls x ≡ answer_by ls (row_with x b) x → fate ≡ fate_said x b → IfPasses fate (AreEdited x b.by edited kept) → EditsPass ls x edited kept fate
unfolding stack_of kept_of
edits_as ls x b edited kept (Drop cause) same e edits = tt
edits_as ls x b edited kept (Pass n) same e edits =
    let w = walk_of ls x in
    let mine = passes_with x b.verdict (stop_by (row_with x b) x) (apply b.by x.id.stack) (fit.kept b.by) n e in
    let walked = passes_with x w.verdict (stop_of ls x w) w.stack w.kept n (e ∙ ap (fate_by x) (sym (ap (λ (c : Crossed). c.fate) same))) in
    let all = sym mine ∙ sym (ap (λ (c : Crossed). c.fate) same) ∙ walked in
    record { stack = edits.stack ∙ ap stack_of all; kept = edits.kept_is ∙ ap kept_of all }

pub said : (o : Opening) (h : List Event) (x : Crossing) (words : List ℕ) (b : Body) (edited : List Header) (outcome : Outcome) (count : ℕ) → x.control ≡ control.None → IsBodyOf o h x b → AreWordsOf x words (row_with x b) → x.moment ≤ b.until → count ≡ length h
    → outcome.fate ≡ fate_said x b → IsEdited x b.by edited outcome → (outcome.own ≡ true → IsOwn x edited outcome.kept) → outcome.entry ≡ false → Said o h x words edited outcome count
said o h x words b edited outcome count plain good whole time many fate edits own entry =
    let same = row_answers (replay o h) (row_with x b) x good (record { id = refl; control = plain; moment = time }) in record {
      row = row_with x b;
      whole = whole;
      id = refl;
      good = good;
      in_time = time;
      count_is = many;
      reads = λ p bytes. (fate ∙ ap (fate_by x) (sym (ap (λ (c : Crossed). c.fate) same)), ap (λ (c : Crossed). c.changed) same);
      edits = edits_as (replay o h) x b edited outcome.kept outcome.fate same fate edits;
      own = own;
      entry = entry;
    }

pub said_late : (o : Opening) (h : List Event) (x : Crossing) (words : List ℕ) (b : Body) → IsBodyOf o h x b → AreWordsOf x words (row_with x b) → b.until < x.moment → SaidLate o h x words
said_late o h x words b good whole late = record { row = row_with x b; whole = whole; id = refl; good = good; late = late }
