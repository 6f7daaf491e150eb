-- What a packet leaves for those of its identity that follow.
use Rattle.std.proofs.Common.{◌≡◌, ◌≢◌, ◌≤◌, ◌==◌, not, ℕ, suc, Bool, true, false, true≢false, List, [], ◌∷◌, ◌++◌, length, take, get_or-set_other, inl, inr, refl, sym, ap, subst, ◌∙◌, arith, Option, Some, None}
use Rattle.std.specs.Prelude.{nat_le}
use native.Mathlib.Decide.{ℕ_discrete}
use mathlib.Core.Logic.{dite}
use Rattle.std.proofs.Math.Seq.{take-append_seam}
use Rattle.vsw_port.specs.declared.stop.Stop.{Stop}
use Rattle.vsw_port.specs.declared.stop.Stop.TheVariants as stop
use Rattle.vsw_port.specs.Admit.{stop_of}
use Rattle.vsw_base.specs.declared.fate.Fate.{Fate}
use Rattle.vsw_base.specs.declared.fate.Verdict.{Verdict}
use Rattle.vsw_base.specs.declared.fate.Verdict.TheVariants.{Pass, Rule, Default}
use Rattle.vsw_base.specs.declared.flow.Crossing.{Crossing}
use Rattle.vsw_base.specs.declared.flow.Ufid.{Ufid}
use Rattle.vsw_base.specs.declared.header.Header.{Header}
use Rattle.vsw_base.specs.declared.packet.Control.TheVariants as control
use Rattle.vsw_port.specs.Cross.{fate_after, made_after, makes}
use Rattle.vsw_port.specs.Fate.{fate_by}
use Rattle.vsw_core.specs.Calls.{called, grown}
use Rattle.vsw_core.specs.Core.{IsOwned, total}
use Rattle.vsw_core.specs.Private.Steps.{Publishes, Steps, wants_change}
use Rattle.vsw_core.specs.Publishing.{IsByWalk, IsSettled, Leaves, NoneStands, Stands, StandsUntil, WritesOne}
use Rattle.vsw_core.specs.Publishing as publishing
use Rattle.vsw_core.specs.Walks.{IsWholeWalk, SaysRowOf}
use Rattle.vsw_port.specs.declared.event.Event.{Event}
use Rattle.vsw_port.specs.declared.event.Event.TheVariants as event
use Rattle.vsw_policy.specs.Layer.{LayerSeen}
use Rattle.vsw_rows.specs.Good.{Good, Row}
use Rattle.vsw_rows.specs.LeanLaw.{IsOfWay, wants_none}
use Rattle.vsw_rows.specs.Way.{way_of}
use Rattle.vsw_rows.proofs.Answered.{quiet_until}
use Rattle.vsw_rows.proofs.Ways.{moment_unseen, walk_makes}
use Rattle.vsw_table.specs.Rules.{row_at, stamp_at}
use Rattle.vsw_policy.specs.Layers.{PolicySeen}
use Rattle.vsw_port.specs.Ledger.{LedgerSeen}
use Rattle.vsw_rows.specs.Rows.{IsProbed, Says, layers_after}
use Rattle.vsw_flows.specs.declared.places.Found.TheVariants as found
use Rattle.vsw_flows.specs.Finding.{IsFound, NoneHasKey}
use Rattle.vsw_flows.specs.Flows.{IsCurrent, OrFell, Any, Puts, Writing}
use Rattle.vsw_rows.specs.GoodRows.{IsGoodRow, opening_of, words_of}
use Rattle.vsw_rows.proofs.Answers.{key_length, words_are}
use Rattle.vsw_walk.specs.declared.scratch.Wanted.{Wanted}
use Rattle.vsw_walk.specs.declared.walking.Walked.{Walked}
use Rattle.vsw_walk.specs.Walk.{Told, greatest, until_after, walk_of}
use Rattle.vsw_words.specs.Key.{key_words}
use Rattle.vsw_words.specs.Law.{IsId}
use Rattle.vsw_words.specs.Row.{body_words}
use Rattle.vsw_words.proofs.Decoded.{apart}

-- ---- when a packet wants nothing

is_some_more : (n : ℕ) → not (suc n == 0) ≡ true
is_some_more n = grind arith

-- a packet that has a fate of its walk, and changes nothing, wants nothing
pub settled_still : (ls : List LayerSeen) (x : Crossing) → IsSettled ls x → wants_change (walk_of ls x).verdict (walk_of ls x).changes ≡ false
settled_still ls x s = by (walk_of ls x).verdict (stop_of ls x (walk_of ls x)) (walk_of ls x).stack (walk_of ls x).kept (walk_of ls x).changes s.still s.fate
  where
    by : (v : Verdict) (stop : Option Stop) (hs : List Header) (kept : ℕ) (ws : List Wanted) → not (length (made_after v stop ws) == 0) ≡ false → IsByWalk (fate_by x (fate_after v stop hs kept)) → wants_change v ws ≡ false
    by Pass None hs kept [] c f = refl
    by Pass None hs kept (w ∷ ws) c f = absurd (true≢false (sym (is_some_more (length ws)) ∙ c))
    by Pass (Some stop.Long) hs kept ws c f = absurd f
    by Pass (Some (stop.Full controller layer)) hs kept ws c f = absurd f
    by Pass (Some (stop.Taken controller layer pair)) hs kept ws c f = absurd f
    by Pass (Some stop.Memory) hs kept ws c f = absurd f
    by (Rule controller layer group rule) stop hs kept ws c f = refl
    by (Default controller layer dir) stop hs kept ws c f = refl

none_wanted : (ws : List Wanted) → not (wants_none ws) ≡ false → ws ≡ []
none_wanted [] h = refl
none_wanted (w ∷ ws) h = absurd (true≢false h)

-- a pass that wants nothing makes no pair
pub makes_none : (v : Verdict) (ws : List Wanted) → wants_change v ws ≡ false → v ≡ Pass → makes ws ≡ false
makes_none v ws h p = ap makes (none_wanted ws (subst (λ u. wants_change u ws ≡ false) p h))

at_most : (a b : ℕ) → nat_le a b ≡ true → a ≤ b
at_most a b h = grind (arith, h)

-- a packet without a control that wants nothing isn't past the until of its way
pub in_time : (ls : List LayerSeen) (x : Crossing) → x.control ≡ control.None → x.moment ≤ greatest → wants_change (walk_of ls x).verdict (walk_of ls x).changes ≡ false → x.moment ≤ (way_of ls x.id).until
in_time ls x plain small still = by (walk_of ls x).verdict refl still
  where
    way : IsOfWay (walk_of ls x) (way_of ls x.id)
    way = (moment_unseen ls x plain).0

    last : (v : Verdict) → (walk_of ls x).verdict ≡ v → until_after v (walk_of ls x).due ≡ greatest → x.moment ≤ (way_of ls x.id).until
    last v e g = subst (λ n. x.moment ≤ n) (sym g ∙ (ap (λ u. until_after u (walk_of ls x).due) (sym e) ∙ way.until)) small

    by : (v : Verdict) → (walk_of ls x).verdict ≡ v → wants_change v (walk_of ls x).changes ≡ false → x.moment ≤ (way_of ls x.id).until
    by Pass e h =
        let none : (walk_of ls x).changes ≡ [] = none_wanted (walk_of ls x).changes h in
        let quiet = quiet_until ls x plain small (sym way.verdict ∙ e) (sym way.makes ∙ ap makes none) in
        at_most x.moment (way_of ls x.id).until (sym quiet ∙ ap wants_none none)
    by (Rule controller layer group rule) e h = last (Rule controller layer group rule) e refl
    by (Default controller layer dir) e h = last (Default controller layer dir) e refl

-- ---- what was found

-- the key words of a row are those of its identity
pub key_of : (row : Row) → take 16 (words_of row) ≡ key_words row.id.dir row.id.stack
key_of row =
    let ks = key_words row.id.dir row.id.stack in
    let bs = body_words row.verdict row.acts row.until in
    ap (take 16) (words_are row) ∙ (ap (λ n. take n (ks ++ bs)) (sym (key_length row.id.dir row.id.stack)) ∙ take-append_seam ks bs)

-- what is known where a row is looked for
pub record Looks (p : PolicySeen) (x : Crossing) (key : List ℕ) (v : Writing) : Type 0 where
  pub plain : x.control ≡ control.None
  pub small : x.moment ≤ greatest
  pub id : IsId x.id
  pub key_is : key ≡ key_words x.id.dir x.id.stack
  pub still : wants_change (walk_of (layers_after p v.view.history) x).verdict (walk_of (layers_after p v.view.history) x).changes ≡ false

-- a row of the identity that is current already is good, and lasts
pub own_stands : (p : PolicySeen) (rows : ℕ) (x : Crossing) (key : List ℕ) (place : ℕ) (v : Writing) → Looks p x key v → IsFound rows key v (found.Own place) → IsGoodRow (opening_of p) v.view.history (row_at v.view.rows place) → Publishes rows (layers_after p v.view.history) x v v true
own_stands p rows x key place v l f g = record { writes = publishing.None refl; stands = λ e. stands; wanting = λ c s e. absurd (true≢false e) }
  where
    row : Row
    row = g.row

    same : row.id ≡ x.id
    same = apart row.id x.id g.id l.id (sym (key_of row) ∙ (ap (take 16) (sym g.words_is) ∙ (f.2 ∙ l.key_is)))

    stands : StandsUntil rows (layers_after p v.view.history) v x.id x.moment
    stands = record {
      place = place;
      row = row;
      stands = record { probed = subst (λ k. IsProbed rows k place) l.key_is f.0; current = f.1; says = record { words_is = g.words_is; id = g.id; body = g.body }; same = same };
      good = g.good;
      lasts = subst (λ n. x.moment ≤ n) (sym (g.good.until ∙ ap (λ i. (way_of (layers_after p v.view.history) i).until) same)) (in_time (layers_after p v.view.history) x l.plain l.small l.still);
    }

-- the row of a walk is good
good_of : (ls : List LayerSeen) (x : Crossing) (words : List ℕ) (s : SaysRowOf ls x words) → Good ls s.row
good_of ls x words s = (walk_makes ls x s.row s.walked).good

-- such a row is put
pub one_written : (p : PolicySeen) (rows : ℕ) (x : Crossing) (key : List ℕ) (place : ℕ) (words : List ℕ) (done : Bool) (v w : Writing) → Looks p x key v → IsFound rows key v (found.Free place) → SaysRowOf (layers_after p v.view.history) x words → Puts v w place words done
    → WritesOne rows (layers_after p v.view.history) x v w
one_written p rows x key place words done v w l f s puts =
    publishing.One place words done (record { plain = l.plain; free = subst (λ k. IsFound rows k v (found.Free place)) l.key_is f; row = s.row; same = s.walked.id; says = s.says; good = good_of (layers_after p v.view.history) x words s }) puts

-- and stands, where it is current then
put_stands : (p : PolicySeen) (rows : ℕ) (x : Crossing) (key : List ℕ) (place : ℕ) (words : List ℕ) (v w : Writing) → Looks p x key v → IsFound rows key v (found.Free place) → SaysRowOf (layers_after p v.view.history) x words → Puts v w place words true → IsCurrent w place
    → StandsUntil rows (layers_after p v.view.history) w x.id x.moment
put_stands p rows x key place words v w l f s puts current = record {
  place = place;
  row = s.row;
  stands = record {
    probed = subst (λ k. IsProbed rows k place) l.key_is f.0;
    current = current;
    says = subst (λ ws. Says ws s.row) (sym (puts.reads refl)) s.says;
    same = s.walked.id;
  };
  good = good_of (layers_after p v.view.history) x words s;
  lasts = subst (λ n. x.moment ≤ n) (sym (s.walked.until ∙ (moment_unseen (layers_after p v.view.history) x l.plain).0.until)) (in_time (layers_after p v.view.history) x l.plain l.small l.still);
}

-- other rows keep their words
pub words_stay : (v w : Writing) (place : ℕ) (words : List ℕ) (done : Bool) → Puts v w place words done → (k : ℕ) → k ≢ place → row_at w.view.rows k ≡ row_at v.view.rows k
words_stay v w place words true puts k ne = ap (λ rs. row_at rs k) (puts.put refl).0 ∙ get_or-set_other v.view.rows place k words [] ne
words_stay v w place words false puts k ne = ap (λ rs. row_at rs k) (puts.left refl).0

-- where it isn't current none of the identity is
put_wanting : (rows : ℕ) (id : Ufid) (key : List ℕ) (place : ℕ) (words : List ℕ) (done : Bool) (v w : Writing) → key ≡ key_words id.dir id.stack → NoneHasKey rows key v → Puts v w place words done → (IsCurrent w place → ⊥) → NoneStands rows w id
put_wanting rows id key place words done v w is none puts gone k row st = dite (ℕ_discrete k place)
    (λ e. gone (subst (λ j. IsCurrent w j) e st.current))
    (λ ne. other ne (puts.others k ne))
  where
    other : k ≢ place → OrFell Any v w k → ⊥
    other ne (inr down) = st.current down.0
    other ne (inl same) =
        let words_is : row_at v.view.rows k ≡ words_of row = sym (words_stay v w place words done puts k ne) ∙ st.says.words_is in
        none k (subst (λ ws. IsProbed rows ws k) (sym is) st.probed) (λ z. st.current (same ∙ z)) (ap (take 16) words_is ∙ (key_of row ∙ (ap (λ (i : Ufid). key_words i.dir i.stack) st.same ∙ sym is)))

-- there was no memory for it
pub short_left : (p : PolicySeen) (rows : ℕ) (x : Crossing) (key : List ℕ) (place : ℕ) (words : List ℕ) (done : Bool) (v w : Writing) → Looks p x key v → IsFound rows key v (found.Free place) → SaysRowOf (layers_after p v.view.history) x words → done ≡ false → Puts v w place words done
    → Publishes rows (layers_after p v.view.history) x v w false
short_left p rows x key place words done v w l f s d puts = record {
  writes = one_written p rows x key place words done v w l f s puts;
  stands = λ e. absurd (true≢false (sym e));
  wanting = λ c settled e. put_wanting rows x.id key place words done v w l.key_is f.1 puts (puts.left d).1;
}

-- or there was, and it is current, if a stamp was left
pub row_left : (p : PolicySeen) (rows : ℕ) (x : Crossing) (key : List ℕ) (place : ℕ) (words : List ℕ) (done current : Bool) (v w : Writing) → Looks p x key v → IsFound rows key v (found.Free place) → SaysRowOf (layers_after p v.view.history) x words → done ≡ true → Puts v w place words done
    → (current ≡ true → IsCurrent w place) → (current ≡ false → stamp_at w.view.stamps place ≡ 0) → Publishes rows (layers_after p v.view.history) x v w current
row_left p rows x key place words done current v w l f s d puts told back = record {
  writes = one_written p rows x key place words done v w l f s puts;
  stands = λ e. put_stands p rows x key place words v w l f s (subst (λ b. Puts v w place words b) d puts) (told e);
  wanting = λ c settled e. put_wanting rows x.id key place words done v w l.key_is f.1 puts (λ z. z (back e));
}

-- a packet that wants something changed leaves nothing
pub wanting_stands : (rows : ℕ) (ls : List LayerSeen) (x : Crossing) (w : Walked) (t : Told) (v : Writing) → IsWholeWalk ls x w t → wants_change w.verdict t.changes ≡ true → Publishes rows ls x v v false
wanting_stands rows ls x w t v h wants = record {
  writes = publishing.None refl;
  stands = λ e. absurd (true≢false (sym e));
  wanting = λ c s e. absurd (true≢false (sym wants ∙ (λ i. wants_change (h.verdict i) (h.changes i)) ∙ settled_still ls x s));
}

-- neither does one that has a control
pub control_stands : (rows : ℕ) (ls : List LayerSeen) (x : Crossing) (v : Writing) → (x.control ≡ control.None → ⊥) → Publishes rows ls x v v false
control_stands rows ls x v other = record { writes = publishing.None refl; stands = λ e. absurd (true≢false (sym e)); wanting = λ c s e. absurd (other c) }

pub wants_as : (ls : List LayerSeen) (x : Crossing) (w : Walked) (t : Told) → IsWholeWalk ls x w t → wants_change w.verdict t.changes ≡ false → wants_change (walk_of ls x).verdict (walk_of ls x).changes ≡ false
wants_as ls x w t h e = (λ i. wants_change (sym h.verdict i) (sym h.changes i)) ∙ e

-- ---- the call as a whole

pub record Crossed (p : PolicySeen) (rows : ℕ) (x : Crossing) (e : Event) (es : List Event) (v w z s u : Writing) (left : Bool) : Type 0 where
  pub steps : Steps (layers_after p v.view.history) e es v w s u
  pub leaves : Publishes rows (layers_after p w.view.history) x w z left

-- a row that is put changes stamps and rows alone
same_but : (rows : ℕ) (ls : List LayerSeen) (x : Crossing) (w z : Writing) → WritesOne rows ls x w z → z ≡ record w { view = record w.view { given = z.view.given; stamps = z.view.stamps; rows = z.view.rows } }
same_but rows ls x w z (publishing.None e) = e ∙ (λ i. record w { view = record w.view { given = (sym e i).view.given; stamps = (sym e i).view.stamps; rows = (sym e i).view.rows } })
same_but rows ls x w z (publishing.One place words done may puts) = puts.same

crossed_same : (p : PolicySeen) (rows : ℕ) (x : Crossing) (e : Event) (es : List Event) (v w z s u : Writing) (left : Bool) → Crossed p rows x e es v w z s u left → z ≡ record w { view = record w.view { given = z.view.given; stamps = z.view.stamps; rows = z.view.rows } }
crossed_same p rows x e es v w z s u left c = same_but rows (layers_after p w.view.history) x w z c.leaves.writes

history_same : (p : PolicySeen) (rows : ℕ) (x : Crossing) (e : Event) (es : List Event) (v w z s u : Writing) (left : Bool) → Crossed p rows x e es v w z s u left → w.view.history ≡ z.view.history
history_same p rows x e es v w z s u left c = sym (ap (λ (q : Writing). q.view.history) (crossed_same p rows x e es v w z s u left c))

pub crossed_writer : (p : PolicySeen) (rows : ℕ) (x : Crossing) (e : Event) (es : List Event) (v w z s u : Writing) (left : Bool) → Crossed p rows x e es v w z s u left → z ≡ record v { view = grown v.view s.view es z.view }
crossed_writer p rows x e es v w z s u left c =
    let more = c.steps.writer in
    crossed_same p rows x e es v w z s u left c ∙ (λ i. record (more i) { view = record (more i).view { given = z.view.given; stamps = z.view.stamps; rows = z.view.rows } })

pub crossed_pass : (p : PolicySeen) (rows : ℕ) (x : Crossing) (e : Event) (es : List Event) (v w z s u : Writing) (left : Bool) → Crossed p rows x e es v w z s u left → u ≡ record s { view = called s.view z.view.history es }
crossed_pass p rows x e es v w z s u left c = let h = history_same p rows x e es v w z s u left c in c.steps.pass ∙ (λ i. record s { view = called s.view (h i) es })

pub crossed_rows : (p : PolicySeen) (rows : ℕ) (x : Crossing) (fate : Fate) (es : List Event) (v w z s u : Writing) (left : Bool) → Crossed p rows x (event.Crossing x fate) es v w z s u left → Leaves rows (layers_after p v.view.history) (layers_after p z.view.history) x fate v z
crossed_rows p rows x fate es v w z s u left c = record {
  between = w;
  falls = c.steps.falls;
  writes = subst (λ hs. WritesOne rows (layers_after p hs) x w z) (history_same p rows x (event.Crossing x fate) es v w z s u left c) c.leaves.writes;
}

pub crossed_stands : (p : PolicySeen) (rows : ℕ) (x : Crossing) (e : Event) (es : List Event) (v w z s u : Writing) (left : Bool) → Crossed p rows x e es v w z s u left → left ≡ true → StandsUntil rows (layers_after p z.view.history) z x.id x.moment
crossed_stands p rows x e es v w z s u left c told = subst (λ hs. StandsUntil rows (layers_after p hs) z x.id x.moment) (history_same p rows x e es v w z s u left c) (c.leaves.stands told)

pub crossed_wanting : (p : PolicySeen) (rows : ℕ) (x : Crossing) (e : Event) (es : List Event) (v w z s u : Writing) (left : Bool) → Crossed p rows x e es v w z s u left → x.control ≡ control.None → IsSettled (layers_after p z.view.history) x → left ≡ false → NoneStands rows z x.id
crossed_wanting p rows x e es v w z s u left c plain settled = c.leaves.wanting plain (subst (λ hs. IsSettled (layers_after p hs) x) (sym (history_same p rows x e es v w z s u left c)) settled)

pub crossed_owned : (p : PolicySeen) (rows : ℕ) (x : Crossing) (e : Event) (es : List Event) (k : LedgerSeen) (permits : ℕ) (v w z s u : Writing) (left : Bool) → Crossed p rows x e es v w z s u left → IsOwned k w permits → IsOwned k z permits
crossed_owned p rows x e es k permits v w z s u left c o =
    let same = crossed_same p rows x e es v w z s u left c in
    record {
      opening = λ q is. o.opening q (sym (ap (λ (r : Writing). r.view.opening) same) ∙ is);
      journal = o.journal ∙ history_same p rows x e es v w z s u left c;
      granted = subst (λ ks. total ks ≤ permits) (sym (ap (λ (r : Writing). r.view.kept) same)) o.granted;
      room = o.room;
    }
