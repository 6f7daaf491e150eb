-- What heads tell of their rows.
use Rattle.std.proofs.Common.{◌≡◌, ◌≤◌, ◌<◌, ℕ, zero, suc, List, [], ◌∷◌, ◌++◌, true, get_or, take, drop, length, nat_eq, bit_or, ap, subst, sym, ◌∙◌, arith}
use Rattle.std.specs.Prelude.{IfSome, None, Option, Some}
use Rattle.std.proofs.lemmas.Bool.{eqb-true}
use Rattle.std.proofs.lemmas.Nat.{le_or_l, le_or_r}
use Rattle.vsw_base.specs.declared.fate.Verdict.{Verdict}
use Rattle.vsw_base.specs.declared.fate.Verdict.TheVariants.{Pass}
use Rattle.vsw_base.specs.declared.flow.Crossing.{Crossing}
use Rattle.vsw_base.specs.declared.flow.Ufid.{Ufid}
use Rattle.vsw_base.specs.declared.header.Header.{Header}
use Rattle.vsw_base.specs.declared.packet.Control.TheVariants as control
use Rattle.vsw_base.specs.Frame.{Parts}
use Rattle.vsw_base.specs.Shape.{is_stack}
use Rattle.vsw_offload.proofs.ByRow.{by_found, each_at, fits_frame}
use Rattle.vsw_offload.proofs.Judged.{body_part}
use Rattle.vsw_offload.specs.Answered.{Answered, bytes_by, bytes_given, bytes_told, fate_by, fate_given, rows_at}
use Rattle.vsw_offload.specs.declared.answer.Given.{Given}
use Rattle.vsw_offload.specs.declared.heads.Head.{Head}
use Rattle.vsw_offload.specs.declared.making.Edits.{Edits}
use Rattle.vsw_offload.specs.declared.port_rows.PortRows.{PortRows}
use Rattle.vsw_offload.specs.Private.Finding.{HasNone, HasOne}
use Rattle.vsw_offload.specs.Private.Heading.{AllMade, AreHeads, AreMade, AtPlace, IsByHead, IsHeadFor, IsHeadOf, PassesBy, PassesFrame, bare_of, made_at, no_head}
use Rattle.vsw_offload.specs.Private.Making.{IsPlaceOf}
use Rattle.vsw_offload.specs.Rows.{IsRow, key_of}
use Rattle.vsw_policy.specs.Sound.{Each}
use Rattle.vsw_transpose.specs.Apply.{apply}
use Rattle.vsw_transpose.specs.Fits as fit
use Rattle.vsw_words.specs.Doing.{AreOf}
use Rattle.vsw_words.specs.Key.{key_words}
use Rattle.vsw_words.specs.Law.{IsId}

-- ---- keys

-- of numbers whose bits come to nothing each is 0
both : (a b : ℕ) → bit_or a b ≡ 0 → (a ≡ 0) × (b ≡ 0)
both a b e =
    let left : a ≤ bit_or a b = le_or_l a b in
    let right : b ≤ bit_or a b = le_or_r a b in
    (omega (arith, left, e), omega (arith, right, e))

-- the other words of a key
abbrev first_rest : List ℕ → ℕ
first_rest k = bit_or (bit_or (bit_or (bit_or (bit_or (bit_or (get_or k 1 0) (get_or k 4 0)) (get_or k 5 0)) (get_or k 6 0)) (get_or k 7 0)) (get_or k 9 0)) (get_or k 10 0)

abbrev last_rest : List ℕ → ℕ
last_rest k = bit_or (bit_or (bit_or (bit_or (get_or k 11 0) (get_or k 12 0)) (get_or k 13 0)) (get_or k 14 0)) (get_or k 15 0)

-- a key of sixteen words of which the others are 0
spread : (k : List ℕ) → length k ≡ 16 → get_or k 1 0 ≡ 0 → get_or k 4 0 ≡ 0 → get_or k 5 0 ≡ 0 → get_or k 6 0 ≡ 0 → get_or k 7 0 ≡ 0 → get_or k 9 0 ≡ 0 → get_or k 10 0 ≡ 0 → get_or k 11 0 ≡ 0 → get_or k 12 0 ≡ 0 → get_or k 13 0 ≡ 0 → get_or k 14 0 ≡ 0 → get_or k 15 0 ≡ 0 → k ≡ bare_of k
spread (a ∷ b ∷ c ∷ d ∷ e ∷ f ∷ g ∷ h ∷ i ∷ j ∷ k ∷ l ∷ m ∷ n ∷ o ∷ p ∷ []) long eb ee ef eg eh ej ek el em en eo ep =
    λ z. a ∷ eb z ∷ c ∷ d ∷ ee z ∷ ef z ∷ eg z ∷ eh z ∷ i ∷ ej z ∷ ek z ∷ el z ∷ em z ∷ en z ∷ eo z ∷ ep z ∷ []
spread t long eb ee ef eg eh ej ek el em en eo ep = absurd (omega (arith, long))

pub is_bare : (k : List ℕ) → length k ≡ 16 → nat_eq (bit_or (first_rest k) (last_rest k)) 0 ≡ true → k ≡ bare_of k
is_bare k long test =
    let none : bit_or (first_rest k) (last_rest k) ≡ 0 = eqb-true (bit_or (first_rest k) (last_rest k)) 0 test in
    let (front, back) = both (first_rest k) (last_rest k) none in
    let (f9, e10) = both _ (get_or k 10 0) front in
    let (f7, e9) = both _ (get_or k 9 0) f9 in
    let (f6, e7) = both _ (get_or k 7 0) f7 in
    let (f5, e6) = both _ (get_or k 6 0) f6 in
    let (f4, e5) = both _ (get_or k 5 0) f5 in
    let (e1, e4) = both (get_or k 1 0) (get_or k 4 0) f4 in
    let (b14, e15) = both _ (get_or k 15 0) back in
    let (b13, e14) = both _ (get_or k 14 0) b14 in
    let (b12, e13) = both _ (get_or k 13 0) b13 in
    let (e11, e12) = both (get_or k 11 0) (get_or k 12 0) b12 in
    spread k long e1 e4 e5 e6 e7 e9 e10 e11 e12 e13 e14 e15

-- ---- heads in slots

-- the row of a head that is a key's
pub passes : (rows : List (List ℕ)) (stacks : List (List Header)) (hs : List Head) (slot : ℕ) (key : List ℕ) (moment : ℕ) (h : Head) → AreHeads rows stacks hs → key ≡ bare_of key → (h ≡ get_or hs slot no_head) × IsHeadFor h key moment → PassesBy rows stacks key moment h.place
passes rows stacks hs slot key moment h are bare (at, f) =
    let of : IsHeadOf rows stacks h = subst (IsHeadOf rows stacks) (sym at) (are slot) in
    let (words, one, is) = of f.is in
    record { words = words; one = one; same = is.key ∙ (f.same ∙ sym bare); pass = is.pass; early = λ r says. subst (λ n. moment ≤ n) (sym (is.until r says)) f.early; none = is.none; made = is.made }

-- ---- ports

pub port_more : (ps : List PortRows) (place : ℕ) (p : PortRows) (edits : List Edits) (e : Edits) → length edits ≡ place → place < length ps → AllMade (take place ps) edits → AreMade (get_or ps place p).rows e → AllMade (take (suc place) ps) (edits ++ e ∷ [])
port_more [] place p edits e l below a m = absurd (grind (arith, below))
port_more (w ∷ ws) zero p [] e l below a m = (m, tt)
port_more (w ∷ ws) zero p (x ∷ edits) e l below a m = absurd (grind (arith, l))
port_more (w ∷ ws) (suc k) p [] e l below a m = absurd (grind (arith, l))
port_more (w ∷ ws) (suc k) p (x ∷ edits) e l below a m = (a.0, port_more ws k p edits e (omega (arith, l)) (omega (arith, below)) a.1 m)

-- those of one port
pub of_port : (ps : List PortRows) (edits : List Edits) (n : ℕ) (e : Edits) → AllMade ps edits → made_at edits n ≡ Some e → AreMade (rows_at ps n) e
of_port [] [] n e a is = absurd (cc is)
of_port [] (x ∷ es) n e a is = absurd a
of_port (p ∷ ps) [] n e a is = absurd a
of_port (p ∷ ps) (x ∷ es) zero e a is = let same : x ≡ e = cc is in subst (AreMade p.rows) same a.0
of_port (p ∷ ps) (x ∷ es) (suc n) e a is = of_port ps es n e a.1 is

-- a port of which nothing is made is none
pub no_port : (ps : List PortRows) (edits : List Edits) (n : ℕ) (key : List ℕ) → AllMade ps edits → made_at edits n ≡ None → HasNone (rows_at ps n) key
no_port [] es n key a is = tt
no_port (p ∷ ps) [] n key a is = absurd a
no_port (p ∷ ps) (x ∷ es) zero key a is = absurd (cc is)
no_port (p ∷ ps) (x ∷ es) (suc n) key a is = no_port ps es n key a.1 is

-- ---- what is answered

pub row_in : (rows : List (List ℕ)) (words : List ℕ) → Each IsRow rows → HasOne rows words → IsRow words
row_in rows words each one = each_at IsRow one.front words one.back (subst (Each IsRow) one.is each)

-- what is known of the row of a key is so of a frame
pub of_frame : (p : Parts) (rows : List (List ℕ)) (stacks : List (List Header)) (key : List ℕ) (moment : ℕ) (place : Option ℕ) (id : Ufid) (o : PassesBy rows stacks key moment place) (r : IsRow o.words) → IsId id → key ≡ key_words id.dir id.stack → id.stack ≡ p.stack → PassesFrame p stacks place r.row
of_frame p rows stacks key moment place id o r is same stack = record {
  pass = pass;
  form = r.says.body.form;
  fits = fits;
  none = λ e. o.none e r.row.acts r.row.until p.stack of shape fits;
  made = at place o.made;
}
  where
    here : key_of o.words ≡ key_words id.dir id.stack
    here = o.same ∙ same

    pass : r.row.verdict ≡ Pass
    pass = o.pass r.row r.says

    of : AreOf (drop 16 o.words) Pass r.row.acts r.row.until
    of = subst (λ (v : Verdict). AreOf (drop 16 o.words) v r.row.acts r.row.until) pass (r.says.body, body_part o.words r.row r.says)

    shape : is_stack p.stack ≡ true
    shape = ap is_stack (sym stack) ∙ is.stack

    fits : fit.fits r.row.acts p.stack ≡ true
    fits = ap (fit.fits r.row.acts) (sym stack) ∙ fits_frame o.words id r is here pass

    at : (q : Option ℕ) → IsPlaceOf o.words stacks q → AtPlace stacks q (apply r.row.acts p.stack)
    at None i = tt
    at (Some n) i = (i.0, i.1 id r.row.acts r.row.until is here of ∙ ap (apply r.row.acts) stack)

pub by_head_is : (p : Parts) (rows : List (List ℕ)) (stacks : List (List Header)) (key : List ℕ) (moment : ℕ) (place : Option ℕ) (result : Option Given) (out : List ℕ) (o : PassesBy rows stacks key moment place) (r : IsRow o.words)
    → IfSome result (λ g. g.fate ≡ fate_by r.row.acts p r.row.verdict) → IfSome result (λ g. bytes_told g.own p g.fate out ≡ bytes_by r.row.acts p g.fate) → IfSome result (λ g. IsByHead rows key moment p g out)
by_head_is p rows stacks key moment place None out o r fate bytes = tt
by_head_is p rows stacks key moment place (Some g) out o r fate bytes = record { words = o.words; one = o.one; same = o.same; is = r; early = o.early r.row r.says; fate = fate; bytes = bytes }

pub found_by_head : (rows : List (List ℕ)) (x : Crossing) (p : Parts) (key out : List ℕ) (moment : ℕ) (id : Ufid) (g : Given) → IsByHead rows key moment p g out → IsId id → key ≡ key_words id.dir id.stack → x.id ≡ id → x.control ≡ control.None → x.moment ≡ moment → Answered rows x p (fate_given (Some g)) (bytes_given p (Some g) out)
found_by_head rows x p key out moment id g h is same i control at = by_found rows x p h.words out moment id (Some g) h.one h.is is (h.same ∙ same) i control at h.early h.fate h.bytes tt
