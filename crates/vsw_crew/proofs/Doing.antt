-- Each caller does its share.
use Rattle.std.proofs.Common.{◌≡◌, ℕ, zero, suc, List, [], ◌∷◌, length, map, take, ◌==◌, Bool, true, false, subst, refl, ap, sym, ◌∙◌, arith, if◌then◌else◌, Vec}
use Rattle.vsw_harbour.specs.Placed.{Placed}
use Rattle.vsw_harbour.specs.Lane.{Lane}
use Rattle.vsw_harbour.specs.Actors.{AreMine, AtWorkOn, Begins, HasDone, placed_of}
use Rattle.vsw_harbour.specs.Lanes.{AreFit, AreTold, fronts_of}
use Rattle.vsw_harbour.specs.Rows.{HaveDone, MayBegin}
use Rattle.vsw_harbour.specs.Deal.{AreFew, AreWork, dealt, shared}
use Rattle.vsw_harbour.specs.Work.{IsWork, job_in}
use Rattle.vsw_harbour.specs.DealWork.{Work}
use Rattle.vsw_harbour.specs.Docks.{is_of, locals, pass_in, permits, port_in, takes, tells}
use Rattle.vsw_harbour.specs.HarbourOpening.{rows_in}
use Rattle.vsw_harbour.specs.Seen.{DockSeen, StationSeen}
use Rattle.vsw_harbour.specs.Harbour.{HarbourSeen, IsHarbour, callers, locals_in, ports_in}
use Rattle.vsw_harbour.specs.Meeting.{AllMeet, AreLanesAt}
use Rattle.vsw_harbour.specs.Standing.{RowStands, RowsMay, RowsStand, no_calls}
use Rattle.vsw_harbour.specs.Steps.{Did}
use Rattle.vsw_harbour.specs.Working.{AreWorking, RowWorks, RowsWork}
use Rattle.vsw_harbour.proofs.Asking.{harbour_own, harbour_takes, rows_at}
use Rattle.vsw_harbour.proofs.Held.{as_many}
use Rattle.vsw_harbour.proofs.Standing.{are_fit}
use Rattle.vsw_port.specs.Calls.{job_doer}
use Rattle.vsw_port.specs.Order.{counted}
use Rattle.vsw_port.specs.declared.event.Event.{Event}
use Rattle.vsw_history_law.proofs.Callers.{eqb_is}
use Rattle.vsw_harbour.specs.Passes.{AtRest}
use Rattle.vsw_harbour.specs.Phases.{Track}
use Rattle.vsw_policy.specs.Sound.{Each}
use Rattle.vsw_promise.specs.Jobs as jobs
use Rattle.vsw_many.specs.Dealing as dealing
use Rattle.vsw_promise.specs.Rounds.{opening_of}
use Rattle.vsw_promise.proofs.PortRounds.{take_whole}
use Rattle.vsw_crew.specs.Private.Round.{DidBeside}
use Rattle.vsw_crew.specs.Private.Rows.{needs_in}
use Rattle.vsw_crew.proofs.Meets.{all_met, met_many, only_met, worked_met}
use Rattle.vsw_crew.proofs.Quiet.{same_first}

-- ---- a row begins

pub fronts_are : (k : ℕ) (ds : List DockSeen) (hs : List (List Event)) (row : List (Lane StationSeen)) → RowStands k ds hs (no_calls ds) row → fronts_of pass_in row ≡ hs
fronts_are k [] [] [] s = refl
fronts_are k (d ∷ ds) (h ∷ hs) (l ∷ ls) s =
    let front : take l.base l.station.pass.view.front ≡ h = ap (λ f. take l.base f) s.0.rest.front ∙ (ap (λ n. take n h) s.0.base ∙ take_whole h) in
    λ i. front i ∷ fronts_are k ds hs ls s.1 i
fronts_are k [] [] (l ∷ ls) s = absurd s
fronts_are k [] (h ∷ hs) ls s = absurd s
fronts_are k (d ∷ ds) [] ls s = absurd s
fronts_are k (d ∷ ds) (h ∷ hs) [] s = absurd s

pub row_begins : (k : ℕ) (ds : List DockSeen) (hs : List (List Event)) (row : List (Lane StationSeen)) → RowStands k ds hs (no_calls ds) row → Begins port_in pass_in tells k ds row
row_begins k [] [] [] s = tt
row_begins k (d ∷ ds) (h ∷ hs) (l ∷ ls) s =
    let front : l.station.pass.view.front ≡ h = s.0.rest.front in
    (s.0.base ∙ ap length (sym front), subst (λ f. AtRest (opening_of (port_in d)) f k (pass_in l.station)) (sym front) s.0.rest, s.0.told, row_begins k ds hs ls s.1)
row_begins k [] [] (l ∷ ls) s = absurd s
row_begins k [] (h ∷ hs) ls s = absurd s
row_begins k (d ∷ ds) [] ls s = absurd s
row_begins k (d ∷ ds) (h ∷ hs) [] s = absurd s

pub as_long : (k : ℕ) (ds : List DockSeen) (hs : List (List Event)) (row : List (Lane StationSeen)) → RowStands k ds hs (no_calls ds) row → length ds ≡ length row
as_long k [] [] [] s = refl
as_long k (d ∷ ds) (h ∷ hs) (l ∷ ls) s = ap suc (as_long k ds hs ls s.1)
as_long k [] [] (l ∷ ls) s = absurd s
as_long k [] (h ∷ hs) ls s = absurd s
as_long k (d ∷ ds) [] ls s = absurd s
as_long k (d ∷ ds) (h ∷ hs) [] s = absurd s

-- those of a caller among jobs are the caller's
dealt_own : (cs : List ℕ) (k : ℕ) (js : List jobs.Placed) → Each (λ t. job_doer cs t.1 ≡ k) (dealing.deal cs k js)
dealt_own cs k [] = tt
dealt_own cs k (t ∷ js) = by (job_doer cs t.1 == k) refl (dealt_own cs k js)
  where
    by : (b : Bool) → (job_doer cs t.1 == k) ≡ b → Each (λ t. job_doer cs t.1 ≡ k) (dealing.deal cs k js) → Each (λ t. job_doer cs t.1 ≡ k) (if b then t ∷ dealing.deal cs k js else dealing.deal cs k js)
    by true e rest = (eqb_is (job_doer cs t.1) k e, rest)
    by false e rest = rest

mine : (h : HarbourSeen) (numbers macs listed asks : List ℕ) (k : ℕ) (share : List (Placed Work)) → IsHarbour h numbers macs listed asks → Each (λ t. job_doer h.controllers t.1 ≡ k) (map (placed_of job_in) share) → Each (IsWork (length h.docks) h.controllers) share → AreMine port_in job_in takes k h.docks share
mine h numbers macs listed asks k [] i o w = tt
mine h numbers macs listed asks k (a ∷ as_) i o w = (
  (harbour_own h numbers macs listed asks h.docks k (job_in a.job) i refl (sym o.0), harbour_takes h numbers macs listed asks h.docks a.place a.job i refl w.0.1 w.0.2, w.0.0),
  mine h numbers macs listed asks k as_ i o.1 w.1,
)

-- ---- a row that has done its share

pub worked_lanes : (k : ℕ) (ds : List DockSeen) (ts : List Track) (ls : List (Lane StationSeen)) → AreTold port_in pass_in tells ds ls ts → AreFit pass_in is_of permits k 0 ds ls → AreWorking k ds (no_calls ds) ts ls
worked_lanes k [] [] [] a f = tt
worked_lanes k (d ∷ ds) (t ∷ ts) (l ∷ ls) a f = (record { of = f.0.station; now = a.0.now; tells_all = a.0.calls }, worked_lanes k ds ts ls a.1 f.1)
worked_lanes k [] [] (l ∷ ls) a f = absurd f
worked_lanes k [] (t ∷ ts) [] a f = absurd a
worked_lanes k [] (t ∷ ts) (l ∷ ls) a f = absurd a
worked_lanes k (d ∷ ds) [] [] a f = absurd a
worked_lanes k (d ∷ ds) [] (l ∷ ls) a f = absurd a
worked_lanes k (d ∷ ds) (t ∷ ts) [] a f = absurd f

row_worked : (k : ℕ) (ds : List DockSeen) (hs : List (List Event)) (row after : List (Lane StationSeen)) (share : List (Placed Work)) → RowStands k ds hs (no_calls ds) row → AreFit pass_in is_of permits k 0 ds after → HasDone port_in locals pass_in job_in tells k ds (fronts_of pass_in row) after share
    → RowWorks k ds hs (no_calls ds) after (map (placed_of job_in) share)
row_worked k ds hs row after share s f d = record {
  tracks = d.0;
  work = subst (λ g. AtWorkOn (locals_in ds) k (ports_in ds) g d.0 (map (placed_of job_in) share)) (fronts_are k ds hs row s) d.2;
  lanes = worked_lanes k ds d.0 after d.1 f;
}

-- ---- all rows

head_is : {A : Type 0} (x y : A) (xs ys : List A) → x ∷ xs ≡ y ∷ ys → x ≡ y
head_is x y xs ys e = cc e

tail_is : {A : Type 0} (x y : A) (xs ys : List A) → x ∷ xs ≡ y ∷ ys → xs ≡ ys
tail_is x y xs ys e = cc e

-- the first share, and the others
shares_of : {G : Type 0} (cs : List ℕ) (k n : ℕ) (js : List jobs.Placed) (s : Vec (Placed Work) G) (ss : List (Vec (Placed Work) G)) → shared (s ∷ ss) ≡ map (λ i. dealing.deal cs i js) (counted k (suc n))
    → (map (placed_of job_in) s.items ≡ dealing.deal cs k js) × (shared ss ≡ map (λ i. dealing.deal cs i js) (counted (suc k) n))
shares_of cs k n js s ss e =
    (head_is (map (placed_of job_in) s.items) (dealing.deal cs k js) (shared ss) (map (λ i. dealing.deal cs i js) (counted (suc k) n)) e, tail_is (map (placed_of job_in) s.items) (dealing.deal cs k js) (shared ss) (map (λ i. dealing.deal cs i js) (counted (suc k) n)) e)

rows_begin : {F G : Type 0} (h : HarbourSeen) (numbers macs listed asks : List ℕ) (k n : ℕ) (hs : List (List Event)) (js : List jobs.Placed) (rows : List (Vec (Lane StationSeen) F)) (ss : List (Vec (Placed Work) G)) → IsHarbour h numbers macs listed asks → length rows ≡ n
    → shared ss ≡ map (λ i. dealing.deal h.controllers i js) (counted k n) → AreWork (length h.docks) h.controllers ss → AreFew ss → RowsStand k h.docks hs (no_calls h.docks) (rows_in rows) → RowsMay (needs_in ss) (rows_in rows) → MayBegin port_in locals pass_in job_in tells is_of permits takes k h.docks rows ss
rows_begin h numbers macs listed asks k zero hs js [] [] i size e w f s m = tt
rows_begin h numbers macs listed asks k (suc n) hs js (r ∷ rs) (s ∷ ss) i size e w f x m =
    let share = shares_of h.controllers k n js s ss e in
    let own : Each (λ t. job_doer h.controllers t.1 ≡ k) (map (placed_of job_in) s.items) = subst (Each (λ t. job_doer h.controllers t.1 ≡ k)) (sym share.0) (dealt_own h.controllers k js) in (
      record {
        alike = i.alike;
        same = as_long k h.docks hs r.items x.0;
        small = omega (arith, i.few);
        few = f.0;
        begins = row_begins k h.docks hs r.items x.0;
        fit = are_fit k (length s.items) h.docks hs (no_calls h.docks) r.items x.0 m.0;
        mine = mine h numbers macs listed asks k s.items i own w.0;
      },
      rows_begin h numbers macs listed asks (suc k) n hs js rs ss i (omega (arith, size)) share.1 w.1 f.1 x.1 m.1,
    )
rows_begin h numbers macs listed asks k n hs js [] (s ∷ ss) i size e w f x m = absurd m
rows_begin h numbers macs listed asks k n hs js (r ∷ rs) [] i size e w f x m = absurd m
rows_begin h numbers macs listed asks k (suc n) hs js [] [] i size e w f x m = absurd (omega (arith, size))
rows_begin h numbers macs listed asks k zero hs js (r ∷ rs) (s ∷ ss) i size e w f x m = absurd (omega (arith, size))

rows_worked : {F G H : Type 0} (cs : List ℕ) (k n : ℕ) (ds : List DockSeen) (hs : List (List Event)) (js : List jobs.Placed) (rows : List (Vec (Lane StationSeen) F)) (ss : List (Vec (Placed Work) G)) (afters : List (Vec (Lane StationSeen) H)) → length rows ≡ n
    → shared ss ≡ map (λ i. dealing.deal cs i js) (counted k n) → RowsStand k ds hs (no_calls ds) (rows_in rows) → HaveDone port_in locals pass_in job_in tells is_of permits k ds rows ss afters → RowsWork cs k ds hs (no_calls ds) js (rows_in afters)
rows_worked cs k n ds hs js [] [] [] size e s d = tt
rows_worked cs k (suc n) ds hs js (r ∷ rs) (s ∷ ss) (t ∷ ts) size e x d =
    let share = shares_of cs k n js s ss e in
    (subst (RowWorks k ds hs (no_calls ds) t.items) share.0 (row_worked k ds hs r.items t.items s.items x.0 d.0 d.1), rows_worked cs (suc k) n ds hs js rs ss ts (omega (arith, size)) share.1 x.1 d.2)
rows_worked cs k n ds hs js [] [] (t ∷ ts) size e s d = absurd d
rows_worked cs k n ds hs js [] (s ∷ ss) ts size e x d = absurd d
rows_worked cs k n ds hs js (r ∷ rs) [] ts size e x d = absurd d
rows_worked cs k n ds hs js (r ∷ rs) (s ∷ ss) [] size e x d = absurd d
rows_worked cs k zero ds hs js (r ∷ rs) (s ∷ ss) (t ∷ ts) size e x d = absurd (omega (arith, size))

done_many : {F G H : Type 0} (k : ℕ) (ds : List DockSeen) (rows : List (Vec (Lane StationSeen) F)) (ss : List (Vec (Placed Work) G)) (afters : List (Vec (Lane StationSeen) H)) → HaveDone port_in locals pass_in job_in tells is_of permits k ds rows ss afters → length (rows_in afters) ≡ length (rows_in rows)
done_many k ds [] [] [] d = refl
done_many k ds (r ∷ rs) (s ∷ ss) (t ∷ ts) d = ap suc (done_many (suc k) ds rs ss ts d.2)
done_many k ds [] [] (t ∷ ts) d = absurd d
done_many k ds [] (s ∷ ss) ts d = absurd d
done_many k ds (r ∷ rs) [] ts d = absurd d
done_many k ds (r ∷ rs) (s ∷ ss) [] d = absurd d

-- ---- between two meetings

pub may_work : {F G : Type 0} (h : HarbourSeen) (numbers macs listed asks : List ℕ) (hs : List (List Event)) (js : List jobs.Placed) (rows mids : List (Vec (Lane StationSeen) F)) (ss : List (Vec (Placed Work) G)) → IsHarbour h numbers macs listed asks → length (rows_in rows) ≡ callers h
    → RowsStand 0 h.docks hs (no_calls h.docks) (rows_in rows) → shared ss ≡ dealt h.controllers js → AreWork (length h.docks) h.controllers ss → AreFew ss → AllMeet h.docks (needs_in ss) (rows_in rows) (rows_in mids) → MayBegin port_in locals pass_in job_in tells is_of permits takes 0 h.docks mids ss
may_work h numbers macs listed asks hs js rows mids ss i size s e w f m =
    let a = all_met h (needs_in ss) hs (no_calls h.docks) (rows_in rows) (rows_in mids) size s m in
    rows_begin h numbers macs listed asks 0 (callers h) a.histories js mids ss i (sym (as_many mids) ∙ a.size) e w f a.stand a.may

-- what was done since all had met
record SinceMet (h : HarbourSeen) (hs : List (List Event)) (js : List jobs.Placed) (mids afters : List (List (Lane StationSeen))) : Type 0 where
  quiet : Did h hs (no_calls h.docks) [] mids
  works : RowsWork h.controllers 0 h.docks quiet.histories (no_calls h.docks) js afters
  size : length afters ≡ callers h

since_met : {F G H : Type 0} (h : HarbourSeen) (numbers macs listed asks : List ℕ) (hs : List (List Event)) (js : List jobs.Placed) (rows mids : List (Vec (Lane StationSeen) F)) (ss : List (Vec (Placed Work) G)) (afters : List (Vec (Lane StationSeen) H)) → IsHarbour h numbers macs listed asks → length (rows_in rows) ≡ callers h
    → RowsStand 0 h.docks hs (no_calls h.docks) (rows_in rows) → shared ss ≡ dealt h.controllers js → AllMeet h.docks (needs_in ss) (rows_in rows) (rows_in mids) → HaveDone port_in locals pass_in job_in tells is_of permits 0 h.docks mids ss afters → SinceMet h hs js (rows_in mids) (rows_in afters)
since_met h numbers macs listed asks hs js rows mids ss afters i size s e m d =
    let quiet : Did h hs (no_calls h.docks) [] (rows_in mids) = only_met h numbers macs listed asks (needs_in ss) hs (no_calls h.docks) (rows_in rows) (rows_in mids) i size s m in
    let a = all_met h (needs_in ss) hs (no_calls h.docks) (rows_in rows) (rows_in mids) size s m in
    let stand : RowsStand 0 h.docks quiet.histories (no_calls h.docks) (rows_in mids) = same_first h a.histories (no_calls h.docks) (rows_in mids) a.size a.stand quiet in
    record {
      quiet = quiet;
      works = rows_worked h.controllers 0 (callers h) h.docks quiet.histories js mids ss afters (sym (as_many mids) ∙ a.size) e stand d;
      size = done_many 0 h.docks mids ss afters d ∙ a.size;
    }

pub may_meet : {F G H : Type 0} (h : HarbourSeen) (numbers macs listed asks : List ℕ) (hs : List (List Event)) (js : List jobs.Placed) (rows mids : List (Vec (Lane StationSeen) F)) (ss : List (Vec (Placed Work) G)) (afters : List (Vec (Lane StationSeen) H)) → IsHarbour h numbers macs listed asks → length (rows_in rows) ≡ callers h
    → RowsStand 0 h.docks hs (no_calls h.docks) (rows_in rows) → shared ss ≡ dealt h.controllers js → AllMeet h.docks (needs_in ss) (rows_in rows) (rows_in mids) → HaveDone port_in locals pass_in job_in tells is_of permits 0 h.docks mids ss afters
    → Each (AreLanesAt h.docks) (rows_in afters) × (length (rows_in afters) ≡ callers h)
may_meet h numbers macs listed asks hs js rows mids ss afters i size s e m d =
    let x = since_met h numbers macs listed asks hs js rows mids ss afters i size s e m d in
    (rows_at h.controllers 0 h.docks x.quiet.histories (no_calls h.docks) js (rows_in afters) x.works, x.size)

pub did_beside : {F G H : Type 0} (h : HarbourSeen) (numbers macs listed asks needs : List ℕ) (hs : List (List Event)) (js : List jobs.Placed) (rows mids : List (Vec (Lane StationSeen) F)) (ss : List (Vec (Placed Work) G)) (afters lasts : List (Vec (Lane StationSeen) H)) → IsHarbour h numbers macs listed asks
    → length (rows_in rows) ≡ callers h → RowsStand 0 h.docks hs (no_calls h.docks) (rows_in rows) → shared ss ≡ dealt h.controllers js → AllMeet h.docks (needs_in ss) (rows_in rows) (rows_in mids) → HaveDone port_in locals pass_in job_in tells is_of permits 0 h.docks mids ss afters
    → AllMeet h.docks needs (rows_in afters) (rows_in lasts) → DidBeside h hs js (rows_in lasts)
did_beside h numbers macs listed asks needs hs js rows mids ss afters lasts i size s e m d n =
    let x = since_met h numbers macs listed asks hs js rows mids ss afters i size s e m d in record {
      met = rows_in mids;
      quiet = x.quiet;
      did = worked_met h numbers macs listed asks needs x.quiet.histories (no_calls h.docks) js (rows_in afters) (rows_in lasts) i x.size x.works n;
      size = met_many needs n.helds (rows_in afters) (rows_in lasts) n.meet ∙ x.size;
    }

-- ---- as many as there are callers

counted_many : {A : Type 0} (f : ℕ → A) (k n : ℕ) → length (map f (counted k n)) ≡ n
counted_many f k zero = refl
counted_many f k (suc n) = ap suc (counted_many f (suc k) n)

shared_many : {G : Type 0} (ss : List (Vec (Placed Work) G)) → length (shared ss) ≡ length ss
shared_many [] = refl
shared_many (s ∷ ss) = ap suc (shared_many ss)

pub shares_many : {G : Type 0} (h : HarbourSeen) (js : List jobs.Placed) (ss : List (Vec (Placed Work) G)) → shared ss ≡ dealt h.controllers js → length ss ≡ callers h
shares_many h js ss e = sym (shared_many ss) ∙ (ap length e ∙ counted_many (λ k. dealing.deal h.controllers k js) 0 (callers h))

pub needs_many : {G : Type 0} (ss : List (Vec (Placed Work) G)) → length (needs_in ss) ≡ length ss
needs_many [] = refl
needs_many (s ∷ ss) = ap suc (needs_many ss)

pub met_for : {G : Type 0} (h : HarbourSeen) (ss given : List (Vec (Placed Work) G)) (ls ms : List (List (Lane StationSeen))) → given ≡ ss → AllMeet h.docks (needs_in given) ls ms → AllMeet h.docks (needs_in ss) ls ms
met_for {G} h ss given ls ms e m = subst (λ (w : List (Vec (Placed Work) G)). AllMeet h.docks (needs_in w) ls ms) e m
