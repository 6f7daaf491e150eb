-- A row that is put: it has the words and a stamp, and stands where it leans; the others stand as they did.
use Rattle.std.proofs.Common.{◌≡◌, ◌≢◌, ◌+◌, ◌<◌, ℕ, Bool, true, false, List, [], length, slice_set, get_or-set_same, get_or-set_other, length-set, inl, inr, refl, sym, ap, subst, ◌∙◌, arith, true≢false}
use Rattle.std.specs.Prelude.{Some, None, if◌then◌else◌}
use native.Mathlib.Decide.{ℕ_discrete}
use mathlib.Core.Logic.{dite}
use Rattle.vsw_policy.specs.Layers.{PolicySeen}
use Rattle.vsw_rows.specs.Good.{IsGoodLeaning}
use Rattle.vsw_rows.specs.GoodRows.{IsGoodRow, opening_of}
use Rattle.vsw_rows.specs.Rows.{IsFormed, IsFresh, Says, layers_after}
use Rattle.vsw_table.specs.Held.{has_stamps, put_in}
use Rattle.vsw_table.specs.Rules.{row_at, stamp_at}
use Rattle.vsw_table.specs.Steps.{restamped}
use Rattle.vsw_walk.specs.declared.scratch.Looked.{Looked}
use Rattle.vsw_flows.specs.Flows.{Any, Falls, IsCurrent, OrFell, Puts, Writing}
use Rattle.vsw_flows.specs.Leant.{Leant, kept_at}
use Rattle.vsw_flows.specs.Standing.{AreFormed, AreStanding, Settles, Stand, StandsAll, StandsAt}
use Rattle.vsw_flows.proofs.Standings.{fallen}

-- a fresh row is good
pub fresh_good : (p : PolicySeen) (v x : Writing) (words : List ℕ) (qs : List Looked) → Falls Any v x → IsFresh (layers_after p v.view.history) words qs → IsGoodRow (opening_of p) x.view.history words
fresh_good p v x words qs f h = subst (λ u. IsGoodRow (opening_of p) u words) (sym (ap (λ (u : Writing). u.view.history) f.same)) (record { row = h.row; words_is = h.says.words_is; id = h.says.id; body = h.says.body; good = h.good.good })

-- the writer with the row's stamp taken away and its words there
emptied : Writing → ℕ → List ℕ → Writing
emptied x row words = record x { view = record x.view { stamps = slice_set x.view.stamps row 0; rows = slice_set x.view.rows row words } }

stamp_given : Bool → Writing → ℕ → Writing
stamp_given b u row = record u { view = if b then restamped u.view row else u.view }

given_stamp : (b : Bool) (u : Writing) (row place : ℕ) → place ≢ row → stamp_at (stamp_given b u row).view.stamps place ≡ stamp_at u.view.stamps place
unfolding stamp_given
given_stamp true u row place ne = get_or-set_other u.view.stamps row place (u.view.given + 1) 0 ne
given_stamp false u row place ne = refl

given_rows : (b : Bool) (u : Writing) (row : ℕ) → (stamp_given b u row).view.rows ≡ u.view.rows
unfolding stamp_given
given_rows true u row = refl
given_rows false u row = refl

given_opening : (b : Bool) (u : Writing) (row : ℕ) → (stamp_given b u row).view.opening ≡ u.view.opening
unfolding stamp_given
given_opening true u row = refl
given_opening false u row = refl

given_history : (b : Bool) (u : Writing) (row : ℕ) → (stamp_given b u row).view.history ≡ u.view.history
unfolding stamp_given
given_history true u row = refl
given_history false u row = refl

one_isn't : (n : ℕ) → n + 1 ≢ 0
one_isn't n e = absurd (grind (arith, e))

given_current : (u : Writing) (row : ℕ) → row < length u.view.stamps → IsCurrent (stamp_given true u row) row
unfolding stamp_given
given_current u row lt z = one_isn't u.view.given (sym (get_or-set_same u.view.stamps row (u.view.given + 1) 0 lt) ∙ z)

-- what a put leaves is such a writer
put_is : (w x : Writing) (row : ℕ) (words : List ℕ) → w ≡ record x { view = put_in x.view row words } → w ≡ stamp_given (has_stamps x.view) (emptied x row words) row
unfolding stamp_given emptied
put_is w x row words is = is

-- the row that was put stands, and so do the others
stands_on : (p : PolicySeen) (x w : Writing) (k : Leant) (row : ℕ) (words : List ℕ) (qs : List Looked) → row < length x.view.rows → w.view.rows ≡ slice_set x.view.rows row words → w.view.history ≡ x.view.history → w.view.opening ≡ x.view.opening
    → ((place : ℕ) → place ≢ row → stamp_at w.view.stamps place ≡ stamp_at x.view.stamps place) → IsFresh (layers_after p x.view.history) words qs → kept_at k.kept row ≡ qs → StandsAll k row qs → Stand (layers_after p x.view.history) x k × AreFormed x → Stand (layers_after p w.view.history) w k × AreFormed w
stands_on p x w k row words qs lt rows same opened stamps fresh kept there s = (subst (λ h. Stand (layers_after p h) w k) (sym same) stand, formed)
  where
    here : row_at w.view.rows row ≡ words
    here = ap (λ rs. row_at rs row) rows ∙ get_or-set_same x.view.rows row words [] lt

    else_where : (place : ℕ) → place ≢ row → row_at w.view.rows place ≡ row_at x.view.rows place
    else_where place ne = ap (λ rs. row_at rs place) rows ∙ get_or-set_other x.view.rows row place words [] ne

    mine : StandsAt (layers_after p x.view.history) w k row
    mine = record {
      row = fresh.row;
      says = subst (λ ws. Says ws fresh.row) (sym here) fresh.says;
      good = subst (λ us. IsGoodLeaning (layers_after p x.view.history) (record { row = fresh.row; looks = us })) (sym kept) fresh.good;
      there = subst (StandsAll k row) (sym kept) there;
    }

    other : (place : ℕ) → place ≢ row → StandsAt (layers_after p x.view.history) x k place → StandsAt (layers_after p x.view.history) w k place
    other place ne at = record { row = at.row; says = subst (λ ws. Says ws at.row) (sym (else_where place ne)) at.says; good = at.good; there = at.there }

    stand : Stand (layers_after p x.view.history) w k
    stand place c = dite (ℕ_discrete place row)
        (λ e. subst (StandsAt (layers_after p x.view.history) w k) (sym e) mine)
        (λ ne. other place ne (s.0 place (λ z. c (stamps place ne ∙ z))))

    formed : AreFormed w
    formed place = dite (ℕ_discrete place row)
        (λ e. subst (λ j. IsFormed (row_at w.view.rows j)) (sym e) (subst IsFormed (sym here) (inr (fresh.row, fresh.says))))
        (λ ne. subst IsFormed (sym (else_where place ne)) (s.1 place))

some_is : {A : Type 0} (a b : A) → Some a ≡ Some b → b ≡ a
some_is a b e = sym (ap (λ o. elim o [ None ↦ a | Some y ↦ y ]) e)

emptied_stamp : (x : Writing) (row place : ℕ) (words : List ℕ) → place ≢ row → stamp_at (emptied x row words).view.stamps place ≡ stamp_at x.view.stamps place
unfolding emptied
emptied_stamp x row place words ne = get_or-set_other x.view.stamps row place 0 0 ne

emptied_rows : (x : Writing) (row : ℕ) (words : List ℕ) → (emptied x row words).view.rows ≡ slice_set x.view.rows row words
unfolding emptied
emptied_rows x row words = refl

emptied_history : (x : Writing) (row : ℕ) (words : List ℕ) → (emptied x row words).view.history ≡ x.view.history
unfolding emptied
emptied_history x row words = refl

emptied_opening : (x : Writing) (row : ℕ) (words : List ℕ) → (emptied x row words).view.opening ≡ x.view.opening
unfolding emptied
emptied_opening x row words = refl

emptied_long : (x : Writing) (row : ℕ) (words : List ℕ) → length (emptied x row words).view.stamps ≡ length x.view.stamps
unfolding emptied
emptied_long x row words = length-set x.view.stamps row 0

put_stamp : (w x : Writing) (row : ℕ) (words : List ℕ) → w ≡ record x { view = put_in x.view row words } → (place : ℕ) → place ≢ row → stamp_at w.view.stamps place ≡ stamp_at x.view.stamps place
put_stamp w x row words is place ne =
    ap (λ (u : Writing). stamp_at u.view.stamps place) (put_is w x row words is) ∙ (given_stamp (has_stamps x.view) (emptied x row words) row place ne ∙ emptied_stamp x row place words ne)

put_rows : (w x : Writing) (row : ℕ) (words : List ℕ) → w ≡ record x { view = put_in x.view row words } → w.view.rows ≡ slice_set x.view.rows row words
put_rows w x row words is = ap (λ (u : Writing). u.view.rows) (put_is w x row words is) ∙ (given_rows (has_stamps x.view) (emptied x row words) row ∙ emptied_rows x row words)

put_history : (w x : Writing) (row : ℕ) (words : List ℕ) → w ≡ record x { view = put_in x.view row words } → w.view.history ≡ x.view.history
put_history w x row words is = ap (λ (u : Writing). u.view.history) (put_is w x row words is) ∙ (given_history (has_stamps x.view) (emptied x row words) row ∙ emptied_history x row words)

put_opening : (w x : Writing) (row : ℕ) (words : List ℕ) → w ≡ record x { view = put_in x.view row words } → w.view.opening ≡ x.view.opening
put_opening w x row words is = ap (λ (u : Writing). u.view.opening) (put_is w x row words is) ∙ (given_opening (has_stamps x.view) (emptied x row words) row ∙ emptied_opening x row words)

-- after a row settled and was put, all stand
pub put_stand : (p : PolicySeen) (row : ℕ) (words : List ℕ) (qs : List Looked) (v x w : Writing) (l k : Leant) → v.view.opening ≡ Some p → row < length x.view.rows → IsFresh (layers_after p v.view.history) words qs → Settles row v x l k
    → kept_at k.kept row ≡ qs → StandsAll k row qs → w ≡ record x { view = put_in x.view row words } → AreStanding v l → AreStanding w k
put_stand p row words qs v x w l k opens lt fresh settles kept there is s q opened =
    let before = fallen Any v x l k settles.falls settles.stands s in
    let x_opens : x.view.opening ≡ v.view.opening = ap (λ (u : Writing). u.view.opening) settles.falls.same in
    let same : q ≡ p = some_is p q (sym opens ∙ (sym x_opens ∙ (sym (put_opening w x row words is) ∙ opened))) in
    let fresh_x : IsFresh (layers_after p x.view.history) words qs = subst (λ h. IsFresh (layers_after p h) words qs) (sym (ap (λ (u : Writing). u.view.history) settles.falls.same)) fresh in
    subst (λ o. Stand (layers_after o w.view.history) w k × AreFormed w) (sym same)
    (stands_on p x w k row words qs lt (put_rows w x row words is) (put_history w x row words is) (put_opening w x row words is) (put_stamp w x row words is) fresh_x kept there (before p (x_opens ∙ opens)))

-- what its caller sees
fell_others : (v x w : Writing) (row : ℕ) → Falls Any v x → ((place : ℕ) → place ≢ row → stamp_at w.view.stamps place ≡ stamp_at x.view.stamps place) → (place : ℕ) → place ≢ row → OrFell Any v w place
fell_others v x w row f stamps place ne = by (f.each place)
  where
    by : OrFell Any v x place → OrFell Any v w place
    by (inl e) = inl (stamps place ne ∙ e)
    by (inr h) = inr (stamps place ne ∙ h.0, tt)

-- the view of a writer with other stamps, rows and count of stamps
with_rows : Writing → Writing → Writing
with_rows u w = record u { view = record u.view { given = w.view.given; stamps = w.view.stamps; rows = w.view.rows } }

with_rows_of : (b : Bool) (x : Writing) (row : ℕ) (words : List ℕ) → stamp_given b (emptied x row words) row ≡ with_rows x (stamp_given b (emptied x row words) row)
unfolding stamp_given emptied with_rows
with_rows_of true x row words = refl
with_rows_of false x row words = refl

with_rows_fell : (v x w : Writing) → x ≡ record v { view = record v.view { stamps = x.view.stamps } } → with_rows x w ≡ record v { view = record v.view { given = w.view.given; stamps = w.view.stamps; rows = w.view.rows } }
unfolding with_rows
with_rows_fell v x w e = ap (λ (u : Writing). record u { view = record u.view { given = w.view.given; stamps = w.view.stamps; rows = w.view.rows } }) e

put_same : (v x w : Writing) (row : ℕ) (words : List ℕ) → x ≡ record v { view = record v.view { stamps = x.view.stamps } } → w ≡ record x { view = put_in x.view row words } → w ≡ record v { view = record v.view { given = w.view.given; stamps = w.view.stamps; rows = w.view.rows } }
put_same v x w row words e is =
    let made = put_is w x row words is in
    made ∙ (with_rows_of (has_stamps x.view) x row words ∙ (ap (with_rows x) (sym made) ∙ with_rows_fell v x w e))

pub puts : (row : ℕ) (words : List ℕ) (v x w : Writing) (done : Bool) → done ≡ true → row < length x.view.stamps → row < length x.view.rows → Falls Any v x → w ≡ record x { view = put_in x.view row words } → Puts v w row words done
puts row words v x w done d lt wide f is = record {
  same = put_same v x w row words f.same is;
  put = λ e. (put_rows w x row words is ∙ ap (λ (u : Writing). slice_set u.view.rows row words) f.same, current);
  reads = λ e. ap (λ rs. row_at rs row) (put_rows w x row words is) ∙ get_or-set_same x.view.rows row words [] wide;
  left = λ e. absurd (true≢false (sym d ∙ e));
  others = fell_others v x w row f (put_stamp w x row words is);
}
  where
    current : has_stamps v.view ≡ true → IsCurrent w row
    current has =
        let there : w ≡ stamp_given true (emptied x row words) row = put_is w x row words is ∙ ap (λ b. stamp_given b (emptied x row words) row) (ap (λ (u : Writing). has_stamps u.view) f.same ∙ has) in
        subst (λ u. IsCurrent u row) (sym there) (given_current (emptied x row words) row (subst (λ n. row < n) (sym (emptied_long x row words)) lt))

pub puts_nothing : (row : ℕ) (words : List ℕ) (v x : Writing) (l k : Leant) (done : Bool) → done ≡ false → Settles row v x l k → Puts v x row words done
puts_nothing row words v x l k done d s = record {
  same = s.falls.same ∙ (λ j. record v { view = record v.view { given = sym (ap (λ (u : Writing). u.view.given) s.falls.same) j; stamps = x.view.stamps; rows = sym (ap (λ (u : Writing). u.view.rows) s.falls.same) j } });
  put = λ e. absurd (true≢false (sym e ∙ d));
  reads = λ e. absurd (true≢false (sym e ∙ d));
  left = λ e. (ap (λ (u : Writing). u.view.rows) s.falls.same, s.gone);
  others = λ place ne. s.falls.each place;
}
