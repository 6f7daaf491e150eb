-- What each call keeps of the rows: those that are current are good, and stand where they lean.
use Rattle.std.proofs.Common.{◌≡◌, ℕ, true, false, List, [], ◌∷◌, ◌++◌, inl, inr, refl, sym, ap, subst, ◌∙◌, true≢false}
use Rattle.std.specs.Prelude.{Some, None}
use Rattle.vsw_policy.specs.declared.command.Command.{Command}
use Rattle.vsw_policy.specs.Layer.{LayerSeen}
use Rattle.vsw_policy.specs.Layers.{PolicySeen}
use Rattle.vsw_port.specs.declared.event.Event.{Event}
use Rattle.vsw_port.specs.History as history
use Rattle.vsw_rows.specs.Good.{IsGoodLeaning, LeaningRow, Row}
use Rattle.vsw_rows.specs.GoodRows.{IsGoodRow, opening_of}
use Rattle.vsw_rows.specs.Rows.{IsFormed, Says, layers_after}
use Rattle.vsw_rows.specs.Shaken.{shake}
use Rattle.vsw_rows.specs.Way.{looks}
use Rattle.vsw_rows.proofs.Keeps.{one_id, then}
use Rattle.vsw_spares.specs.Entry.{EntrySpares, entry_shakes}
use Rattle.vsw_spares.specs.Spared.{spares}
use Rattle.vsw_table.specs.Rules.{row_at, stamp_at}
use Rattle.vsw_walk.specs.declared.scratch.Wanted.{Wanted}
use Rattle.vsw_flows.specs.Flows.{AllSpared, Any, Falls, IsCurrent, NoneShaken, OrFell, OthersStay, Spares, Writing}
use Rattle.vsw_flows.specs.Leant.{Leant, kept_at}
use Rattle.vsw_flows.specs.Shaking.{IsShaken, NoneLeft}
use Rattle.vsw_flows.specs.Standing.{AreFormed, AreStanding, Lessens, Stand, StandsAt, Thins}
use Rattle.vsw_flows.proofs.Thinned.{stays_at}

-- rows that fell leave what stands
pub fallen : (P : ℕ → Type 0) (v w : Writing) (l m : Leant) → Falls P v w → ((ls : List LayerSeen) → Stand ls v l → Stand ls w m) → AreStanding v l → AreStanding w m
fallen P v w l m f keeps s p opens =
    let opened = ap (λ (u : Writing). u.view.opening) f.same in
    let before = s p (sym opened ∙ opens) in
    let same = ap (λ (u : Writing). u.view.history) f.same in
    (subst (λ h. Stand (layers_after p h) w m) (sym same) (keeps (layers_after p v.view.history) before.0), λ place. subst (λ rs. IsFormed (row_at rs place)) (sym (ap (λ (u : Writing). u.view.rows) f.same)) (before.1 place))

pub thinned : (P : ℕ → Type 0) (v w : Writing) (l m : Leant) → Thins P v w l m → AreStanding v l → AreStanding w m
thinned P v w l m t s = fallen P v w l m t.falls t.stands s

pub lessened : (v w : Writing) (l m : Leant) → Lessens v w l m → AreStanding v l → AreStanding w m
lessened v w l m t s = fallen Any v w l m t.falls t.stands s

-- where no row is current, none need stand
pub none_stand : (v : Writing) (l : Leant) → ((place : ℕ) → IsCurrent v place → ⊥) → AreFormed v → AreStanding v l
none_stand v l none formed p opens = (λ place c. absurd (none place c), formed)

pub all_fell : (v w : Writing) (l m : Leant) → Falls Any v w → ((place : ℕ) → IsCurrent w place → ⊥) → AreStanding v l → AreStanding w m
all_fell v w l m f none s = fallen Any v w l m f (λ ls old place c. absurd (none place c)) s

-- permits don't matter
pub same_rows : (v w : Writing) (l m : Leant) → w.view.opening ≡ v.view.opening → w.view.history ≡ v.view.history → w.view.stamps ≡ v.view.stamps → w.view.rows ≡ v.view.rows → m ≡ l → AreStanding v l → AreStanding w m
same_rows v w l m opened same stamps rows leant s = subst (AreStanding w) (sym leant) go
  where
    go : AreStanding w l
    go p opens =
        let before = s p (sym opened ∙ opens) in
        (subst (λ h. Stand (layers_after p h) w l) (sym same) (λ place c. stays_at (layers_after p v.view.history) v w l l place rows refl (λ t h. h) (before.0 place (λ z. c (ap (λ ns. stamp_at ns place) stamps ∙ z)))), λ place. subst (λ rs. IsFormed (row_at rs place)) (sym rows) (before.1 place))

-- what is kept of a current row is what its packets look for
kept_looks : (ls : List LayerSeen) (w : Writing) (m : Leant) (place : ℕ) (r : Row) → StandsAt ls w m place → Says (row_at w.view.rows place) r → kept_at m.kept place ≡ looks ls r.id
kept_looks ls w m place r s says = s.good.leans ∙ ap (looks ls) (one_id (row_at w.view.rows place) s.row r s.says says)

-- changes shake no row that is left
pub none_shaken : (p : PolicySeen) (ws : List Wanted) (v w : Writing) (l m : Leant) → Thins (IsShaken (layers_after p v.view.history) ws l.kept) v w l m → ((as_of : List LayerSeen) → Stand as_of v l → NoneLeft (layers_after p v.view.history) ws l.kept w) → v.view.opening ≡ Some p → AreStanding v l → NoneShaken (layers_after p v.view.history) ws w
none_shaken p ws v w l m t none opens s place r one =
    let ls = layers_after p v.view.history in
    let before = (s p opens).0 in
    let at = t.stands ls before place one.current in
    ap (shake ls ws) (sym (ap (λ ks. kept_at ks place) (sym t.kept) ∙ kept_looks ls w m place r at one.says)) ∙ none ls before place one.current

pub others_stay : (p : PolicySeen) (ws : List Wanted) (v w : Writing) (l m : Leant) → Thins (IsShaken (layers_after p v.view.history) ws l.kept) v w l m → v.view.opening ≡ Some p → AreStanding v l → OthersStay (layers_after p v.view.history) ws v w
others_stay p ws v w l m t opens s place r one calm = by (t.falls.each place)
  where
    by : OrFell (IsShaken (layers_after p v.view.history) ws l.kept) v w place → stamp_at w.view.stamps place ≡ stamp_at v.view.stamps place
    by (inl e) = e
    by (inr h) =
        let ls = layers_after p v.view.history in
        let at = (s p opens).0 place one.current in
        absurd (true≢false (sym h.1 ∙ (ap (shake ls ws) (kept_looks ls v l place r at one.says) ∙ calm)))

-- a command spares each row that is left
pub all_spared : (p : PolicySeen) (c : ℕ) (command : Command) (v w : Writing) (l m : Leant) → Lessens v w l m → ((place : ℕ) → IsCurrent w place → spares (layers_after p v.view.history) c command (kept_at l.kept place) ≡ true) → v.view.opening ≡ Some p → AreStanding v l → AllSpared (layers_after p v.view.history) c command w
all_spared p c command v w l m t spared opens s place r one =
    let ls = layers_after p v.view.history in
    let at = t.stands ls (s p opens).0 place one.current in
    ap (spares ls c command) (sym (sym (t.kept place one.current) ∙ kept_looks ls w m place r at one.says)) ∙ spared place one.current

-- an entry that shakes no current row leaves them good
still_good : EntrySpares → (p : PolicySeen) (e : Event) (v : Writing) (l : Leant) → history.IsRight p.controllers (layers_after p v.view.history) e → Spares (layers_after p v.view.history) e v → v.view.opening ≡ Some p → AreStanding v l → (place : ℕ) → IsCurrent v place → StandsAt (layers_after p (v.view.history ++ e ∷ [])) v l place
still_good law p e v l right spared opens s place c =
    let ls = layers_after p v.view.history in
    let at : StandsAt ls v l place = (s p opens).0 place c in
    let k : LeaningRow = record { row = at.row; looks = kept_at l.kept place } in
    let calm : entry_shakes ls e k ≡ false = subst (λ qs. entry_shakes ls e (record { row = at.row; looks = qs }) ≡ false) (sym at.good.leans) (spared place at.row (record { current = c; says = at.says })) in
    record {
      row = at.row;
      says = at.says;
      good = subst (λ ks. IsGoodLeaning ks k) (sym (then p v.view.history e)) (law p.controllers ls e k right at.says.id.stack calm at.good);
      there = at.there;
    }

good_at : (p : PolicySeen) (h : List Event) (v : Writing) (l : Leant) (place : ℕ) → StandsAt (layers_after p h) v l place → IsGoodRow (opening_of p) h (row_at v.view.rows place)
good_at p h v l place s = record { row = s.row; words_is = s.says.words_is; id = s.says.id; body = s.says.body; good = s.good.good }

pub stays_good : EntrySpares → (p : PolicySeen) (e : Event) (v : Writing) (l : Leant) → history.IsRight p.controllers (layers_after p v.view.history) e → Spares (layers_after p v.view.history) e v → v.view.opening ≡ Some p → AreStanding v l → (place : ℕ) → IsCurrent v place → IsGoodRow (opening_of p) (v.view.history ++ e ∷ []) (row_at v.view.rows place)
stays_good law p e v l right spared opens s place c = good_at p (v.view.history ++ e ∷ []) v l place (still_good law p e v l right spared opens s place c)

pub current_good : (p : PolicySeen) (v : Writing) (l : Leant) → v.view.opening ≡ Some p → AreStanding v l → (place : ℕ) → IsCurrent v place → IsGoodRow (opening_of p) v.view.history (row_at v.view.rows place)
current_good p v l opens s place c = good_at p v.view.history v l place ((s p opens).0 place c)

some_is : {A : Type 0} (a b : A) → Some a ≡ Some b → b ≡ a
some_is a b e = sym (ap (λ o. elim o [ None ↦ a | Some x ↦ x ]) e)

-- and so they go on standing
pub enters : EntrySpares → (p : PolicySeen) (e : Event) (v w : Writing) (l m : Leant) → history.IsRight p.controllers (layers_after p v.view.history) e → Spares (layers_after p v.view.history) e v → v.view.opening ≡ Some p
    → w.view.opening ≡ v.view.opening → w.view.history ≡ v.view.history ++ e ∷ [] → w.view.stamps ≡ v.view.stamps → w.view.rows ≡ v.view.rows → m ≡ l → AreStanding v l → AreStanding w m
enters law p e v w l m right spared opens opened grown stamps rows leant s = subst (AreStanding w) (sym leant) go
  where
    go : AreStanding w l
    go q is =
        let same : q ≡ p = some_is p q (sym opens ∙ (sym opened ∙ is)) in
        subst (λ o. Stand (layers_after o w.view.history) w l × AreFormed w) (sym same) (
          subst (λ h. Stand (layers_after p h) w l) (sym grown)
              (λ place c. stays_at (layers_after p (v.view.history ++ e ∷ [])) v w l l place rows refl (λ t h. h) (still_good law p e v l right spared opens s place (λ z. c (ap (λ ns. stamp_at ns place) stamps ∙ z)))),
          λ place. subst (λ rs. IsFormed (row_at rs place)) (sym rows) ((s p opens).1 place),
        )
