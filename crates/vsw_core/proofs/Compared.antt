-- A row that was compared with the walk of its packets.
use Rattle.std.proofs.Common.{◌≡◌, ◌-◌, ◌++◌, ℕ, zero, suc, List, [], ◌∷◌, Bool, true, false, true≢false, refl, sym, ap, subst, ◌∙◌, arith, inl, inr, length, take, drop}
use Rattle.std.specs.Prelude.{not, nat_le}
use Rattle.std.proofs.Math.Seq.{drop-append_seam}
use Rattle.vsw_base.specs.declared.fate.Verdict.{Verdict}
use Rattle.vsw_base.specs.declared.fate.Verdict.TheVariants.{Pass, Rule, Default}
use Rattle.vsw_base.specs.declared.flow.Crossing.{Crossing}
use Rattle.vsw_base.specs.declared.flow.Ufid.{Ufid}
use Rattle.vsw_base.specs.declared.packet.Control.TheVariants as control
use Rattle.vsw_port.specs.Cross.{makes}
use Rattle.vsw_core.specs.Private.Comparing.{IsCompared, IsRead, IsSame, row_by}
use Rattle.vsw_core.specs.Private.Steps.{wants_change}
use Rattle.vsw_core.specs.Reconciling.{Agrees, IsChanged, IsCleared, IsKept, IsOld, IsShort, OthersStay, WantsPair}
use Rattle.vsw_core.specs.Walks.{IsWholeWalk, SaysRowOf}
use Rattle.vsw_core.proofs.Published.{key_of, words_stay}
use Rattle.vsw_core.proofs.Walked.{ActsOf, fresh_row, row_said}
use Rattle.vsw_policy.specs.Layer.{LayerSeen}
use Rattle.vsw_rows.specs.Good.{Row}
use Rattle.vsw_rows.specs.LeanLaw.{wants_none}
use Rattle.vsw_rows.specs.Way.{plain, way_of}
use Rattle.vsw_rows.proofs.Answered.{quiet_until}
use Rattle.vsw_rows.proofs.Ways.{walk_makes}
use Rattle.vsw_table.specs.Rules.{row_at, stamp_at}
use Rattle.vsw_rows.specs.Rows.{IsEmpty, IsFormed, IsFresh, Says}
use Rattle.vsw_flows.specs.Flows.{Puts, Writing}
use Rattle.vsw_rows.proofs.Answers.{key_length, words_are}
use Rattle.vsw_walk.specs.declared.scratch.Wanted.{Wanted}
use Rattle.vsw_walk.specs.declared.walking.Walked.{Walked}
use Rattle.vsw_walk.specs.Walk.{Told, walk_of}
use Rattle.vsw_words.specs.declared.row.Body.{Body}
use Rattle.vsw_words.specs.Key.{key_words}
use Rattle.vsw_words.specs.Law.{IsId}
use Rattle.vsw_words.specs.Reading.{IsBody}
use Rattle.vsw_words.specs.Row.{body_words, row_words, IsBare}
use Rattle.vsw_transpose.specs.declared.act.Act.{Act}

-- ---- reading a row

key_part : (words : List ℕ) (r : Row) → Says words r → take 16 words ≡ key_words r.id.dir r.id.stack
key_part words r s = ap (take 16) s.words_is ∙ key_of r

body_part : (words : List ℕ) (r : Row) → Says words r → drop 16 words ≡ body_words r.verdict r.acts r.until
body_part words r s =
    let ks : List ℕ = key_words r.id.dir r.id.stack in
    let bs : List ℕ = body_words r.verdict r.acts r.until in
    ap (drop 16) (s.words_is ∙ words_are r) ∙ (ap (λ n. drop n (ks ++ bs)) (sym (key_length r.id.dir r.id.stack)) ∙ drop-append_seam ks bs)

-- a packet of this identity
pub packet_read : (words key : List ℕ) (result : Bool) (new : Ufid) (moment : ℕ) → key ≡ take 16 words → moment ≡ 0 → ((id : Ufid) → IsId id → key ≡ key_words id.dir id.stack → (result ≡ true) × (new ≡ id)) → (r : Row) → Says words r
    → ◌≡◌ {A = Crossing} (record { caller = 0; packet = 0; id = new; control = control.None; moment = moment; sizes = record { whole = 0; one = 0; two = 0 } }) (plain r.id)
packet_read words key result new moment same zeroth back r s =
    let e : new ≡ r.id = (back r.id s.id (same ∙ key_part words r s)).1 in
    (λ i. record { caller = 0; packet = 0; id = e i; control = control.None; moment = zeroth i; sizes = record { whole = 0; one = 0; two = 0 } })

pub body_read : (words body : List ℕ) (result : Bool) (new : Body) → body ≡ drop (length words - 57) words → length words ≡ 73
    → ((verdict : Verdict) (by : List Act) (until : ℕ) → IsBody verdict by → body ≡ body_words verdict by until → (result ≡ true) × (new.verdict ≡ verdict) × (new.by ≡ by) × (new.until ≡ until))
    → (r : Row) → Says words r → (new.verdict ≡ r.verdict) × (new.by ≡ r.acts) × (new.until ≡ r.until)
body_read words body result new same long back r s =
    let sixteen : length words - 57 ≡ 16 = omega (arith, long) in
    let told = back r.verdict r.acts r.until s.body (same ∙ (ap (λ n. drop n words) sixteen ∙ body_part words r s)) in
    (told.1, told.2, told.3)

pub row_read : (words : List ℕ) (x : Crossing) (b : Body) → IsFormed words → (IsEmpty words → ⊥) → ((r : Row) → Says words r → x ≡ plain r.id)
    → ((r : Row) → Says words r → (b.verdict ≡ r.verdict) × (b.by ≡ r.acts) × (b.until ≡ r.until)) → IsRead words x b
row_read words x b (inl e) some f g = absurd (some e)
row_read words x b (inr rs) some f g =
    let r : Row = rs.0 in
    let s : Says words r = rs.1 in
    let p : x ≡ plain r.id = f r s in
    let id : x.id ≡ r.id = ap (λ (y : Crossing). y.id) p in
    let same : row_by x b ≡ r = (λ i. record { id = id i; verdict = (g r s).0 i; acts = (g r s).1 i; until = (g r s).2 i }) in
    record { says = subst (Says words) (sym same) s; packet = p ∙ ap plain (sym id) }

-- ---- the walk of its packets

none_in : (ws : List Wanted) → not (wants_none ws) ≡ false → makes ws ≡ false
none_in [] e = refl
none_in (w ∷ ws) e = absurd (true≢false e)

pub none_made : (w : Walked) (t : Told) → wants_change w.verdict t.changes ≡ false → w.verdict ≡ Pass → makes t.changes ≡ false
none_made w t e p = none_in t.changes (subst (λ v. wants_change v t.changes ≡ false) p e)

pub plain_walk : (ls : List LayerSeen) (x : Crossing) (w : Walked) (t : Told) → x ≡ plain x.id → IsWholeWalk ls x w t → IsWholeWalk ls (plain x.id) w t
plain_walk ls x w t p h = subst (λ y. IsWholeWalk ls y w t) p h

from_none : (n : ℕ) → nat_le 0 n ≡ true
from_none n = grind arith

-- at moment 0 nothing but a pair that is made is wanted
pair_made : (ls : List LayerSeen) (id : Ufid) (ws : List Wanted) → ws ≡ (walk_of ls (plain id)).changes → (way_of ls id).verdict ≡ Pass → not (wants_none ws) ≡ true → (way_of ls id).makes ≡ true
pair_made ls id ws are passes wants = by (way_of ls id).makes refl
  where
    by : (b : Bool) → (way_of ls id).makes ≡ b → (way_of ls id).makes ≡ true
    by true e = e
    by false e =
        let quiet : wants_none ws ≡ true = ap wants_none are ∙ (quiet_until ls (plain id) refl (omega arith) passes e ∙ from_none (way_of ls id).until) in
        absurd (true≢false (sym wants ∙ ap not quiet))

wanted_by : (ls : List LayerSeen) (id : Ufid) (w : Walked) (t : Told) → IsWholeWalk ls (plain id) w t → (v : Verdict) → w.verdict ≡ v → wants_change v t.changes ≡ true → ((way_of ls id).verdict ≡ Pass) × ((way_of ls id).makes ≡ true)
unfolding way_of
wanted_by ls id w t h Pass e wants = let passes : (way_of ls id).verdict ≡ Pass = sym h.verdict ∙ e in (passes, pair_made ls id t.changes h.changes passes wants)
wanted_by ls id w t h (Rule controller layer group rule) e wants = absurd (true≢false (sym wants))
wanted_by ls id w t h (Default controller layer dir) e wants = absurd (true≢false (sym wants))

-- ---- what becomes of the row

pub pair_cleared : (ls : List LayerSeen) (v : Writing) (place : ℕ) (x : Crossing) (b : Body) (w : Walked) (t : Told) → IsOld v place → IsRead (row_at v.view.rows place) x b → IsWholeWalk ls x w t → wants_change w.verdict t.changes ≡ true
    → IsCleared ls v v place
pair_cleared ls v place x b w t old read h wants =
    let both = wanted_by ls x.id w t (plain_walk ls x w t read.packet h) w.verdict refl wants in
    record { old = old; why = inr (row_by x b, read.says, record { passes = both.0; makes = both.1 }); same = refl }

agrees_is : (ls : List LayerSeen) (x : Crossing) (b : Body) (w : Walked) (t : Told) → IsWholeWalk ls (plain x.id) w t → IsSame x.id.stack b w t → Agrees ls (row_by x b)
unfolding way_of
agrees_is ls x b w t h s = record {
  verdict = s.verdict ∙ h.verdict;
  fits = s.fits;
  stack = λ p. s.stack p ∙ h.stack (sym s.verdict ∙ p);
  kept = λ p. s.kept p ∙ h.kept (sym s.verdict ∙ p);
}

agrees_same : (ls : List LayerSeen) (x : Crossing) (b : Body) (w : Walked) (t : Told) → IsWholeWalk ls (plain x.id) w t → Agrees ls (row_by x b) → IsSame x.id.stack b w t
unfolding way_of
agrees_same ls x b w t h a =
    let verdict : b.verdict ≡ w.verdict = a.verdict ∙ sym h.verdict in
    record {
      verdict = verdict;
      fits = a.fits;
      stack = λ p. a.stack p ∙ sym (h.stack (sym verdict ∙ p));
      kept = λ p. a.kept p ∙ sym (h.kept (sym verdict ∙ p));
    }

no_pair : (ls : List LayerSeen) (x : Crossing) (b : Body) (w : Walked) (t : Told) → IsWholeWalk ls (plain x.id) w t → (w.verdict ≡ Pass → makes t.changes ≡ false) → WantsPair ls (row_by x b) → ⊥
unfolding way_of
no_pair ls x b w t h none wants = absurd (true≢false (sym wants.makes ∙ (ap makes (sym h.changes) ∙ none (h.verdict ∙ wants.passes))))

same_acts : (x : Crossing) (b : Body) (w : Walked) (t : Told) → IsSame x.id.stack b w t → IsBare b.verdict b.by → ActsOf x w t b.by
same_acts x b w t s bare = record {
  bare = subst (λ v. IsBare v b.by) s.verdict bare;
  fits = λ p. s.fits (s.verdict ∙ p);
  stack = λ p. s.stack (s.verdict ∙ p);
  kept = λ p. s.kept (s.verdict ∙ p);
}

-- a row that still says what is so is fresh once it has the until of now
pub kept_fresh : (ls : List LayerSeen) (words : List ℕ) (x : Crossing) (b : Body) (w : Walked) (t : Told) (new : List ℕ) → IsCompared ls words x b w t → IsSame x.id.stack b w t → new ≡ row_words x.id b.verdict b.by w.until → IsFresh ls new t.looked
kept_fresh ls words x b w t new c s are =
    let said : SaysRowOf ls x new =
    row_said x w t b.by new (ap (λ (y : Crossing). y.control) c.read.packet) c.quiet c.read.says.id.stack c.read.says.id.fit (subst (λ v. IsBody v b.by) s.verdict c.read.says.body)
    (same_acts x b w t s c.read.says.body.bare) (are ∙ ap (λ v. row_words x.id v b.by w.until) s.verdict) ls c.walk in
    fresh_row ls x w t new c.walk said

-- what a put makes of it
pub kept_is : (ls : List LayerSeen) (v u : Writing) (place : ℕ) (x : Crossing) (b : Body) (w : Walked) (t : Told) (new : List ℕ) (done : Bool) → done ≡ true → Puts v u place new done → IsOld v place → IsCompared ls (row_at v.view.rows place) x b w t → IsSame x.id.stack b w t
    → Says new (record (row_by x b) { until = w.until }) → IsKept ls v u place
unfolding way_of
kept_is ls v u place x b w t new done d puts old c s says =
    let h : IsWholeWalk ls (plain x.id) w t = plain_walk ls x w t c.read.packet c.walk in
    let until : w.until ≡ (way_of ls x.id).until = h.until in
    record {
      row = row_by x b;
      old = old;
      says = c.read.says;
      agrees = agrees_is ls x b w t h s;
      wants = no_pair ls x b w t h c.quiet;
      current = (puts.put d).1;
      written = subst (λ row. Says row (record (row_by x b) { until = (way_of ls x.id).until })) (sym (puts.reads d)) (subst (λ n. Says new (record (row_by x b) { until = n })) until says);
    }

pub changed_is : (ls : List LayerSeen) (v u : Writing) (place : ℕ) (x : Crossing) (b : Body) (w : Walked) (t : Told) (new : List ℕ) (done : Bool) → done ≡ true → Puts v u place new done → IsOld v place → IsCompared ls (row_at v.view.rows place) x b w t → (IsSame x.id.stack b w t → ⊥)
    → SaysRowOf ls x new → IsChanged ls v u place
changed_is ls v u place x b w t new done d puts old c differs said =
    let h : IsWholeWalk ls (plain x.id) w t = plain_walk ls x w t c.read.packet c.walk in
    record {
      row = row_by x b;
      next = said.row;
      old = old;
      says = c.read.says;
      differs = λ a. differs (agrees_same ls x b w t h a);
      wants = no_pair ls x b w t h c.quiet;
      current = (puts.put d).1;
      id = said.walked.id;
      written = subst (λ row. Says row said.row) (sym (puts.reads d)) said.says;
      good = (walk_makes ls x said.row said.walked).good;
    }

zero_unless : (n : ℕ) → ((n ≡ 0 → ⊥) → ⊥) → n ≡ 0
zero_unless zero h = refl
zero_unless (suc n) h = absurd (h (λ e. absurd (grind (arith, e))))

-- there was no memory for it
pub short_is : (ls : List LayerSeen) (v u : Writing) (place : ℕ) (x : Crossing) (b : Body) (w : Walked) (t : Told) (new : List ℕ) (done : Bool) → done ≡ false → Puts v u place new done → IsOld v place → IsCompared ls (row_at v.view.rows place) x b w t → IsShort ls v u place
short_is ls v u place x b w t new done d puts old c = record {
  row = row_by x b;
  old = old;
  says = c.read.says;
  wants = no_pair ls x b w t (plain_walk ls x w t c.read.packet c.walk) c.quiet;
  still = zero_unless (stamp_at u.view.stamps place) (puts.left d).1;
  words = (puts.left d).0;
}

-- the others
pub others_stay : (v w : Writing) (place : ℕ) (words : List ℕ) (done : Bool) → Puts v w place words done → OthersStay v w place
others_stay v w place words done puts = record { stamps = puts.others; rows = words_stay v w place words done puts }

pub same_stay : (v : Writing) (place : ℕ) → OthersStay v v place
same_stay v place = record { stamps = λ k ne. inl refl; rows = λ k ne. refl }
