-- The workers' shares go out.
use Rattle.std.proofs.Common.{◌≡◌, ◌≤◌, ◌<◌, ℕ, zero, suc, ◌+◌, ◌-◌, ◌^◌, false, List, [], ◌∷◌, ◌++◌, length, map, take, drop, replicate, refl, ap, ap₂, sym, ◌∙◌, subst, arith, Global, Vec}
use Rattle.vsw_actors.specs.Picks.{ArePicks, AtMost, IsPick, dealt_to, picked, picked_jobs}
use Rattle.vsw_actors.specs.declared.pick.Pick.{Pick}
use Rattle.vsw_commandfile.specs.declared.line.Line.{Line}
use Rattle.vsw_actors.proofs.Doing.{nothing_done}
use Rattle.vsw_harbour.specs.Lane.{Lane}
use Rattle.vsw_harbour.specs.Work.{job_in}
use Rattle.vsw_harbour.specs.Lanes.{AreFit, fronts_of}
use Rattle.vsw_harbour.specs.Docks.{is_of, locals, pass_in, permits, port_in, tells}
use Rattle.vsw_harbour.specs.HarbourOpening.{rows_in}
use Rattle.vsw_harbour.specs.Seen.{DockSeen, StationSeen}
use Rattle.vsw_harbour.specs.Harbour.{HarbourSeen, IsHarbour, IsOfRun, MayAsk, callers}
use Rattle.vsw_harbour.specs.Meeting.{AllMeet}
use Rattle.vsw_harbour.specs.Standing.{RowsMay, RowsStand, no_calls}
use Rattle.vsw_harbour.specs.Steps.{Did}
use Rattle.vsw_harbour.proofs.Held.{as_many}
use Rattle.vsw_harbour.proofs.Standing.{are_fit}
use Rattle.vsw_port.proofs.Fronts.{append_end}
use Rattle.vsw_port.specs.Order.{counted, numbered}
use Rattle.vsw_port.specs.declared.event.Event.{Event}
use Rattle.vsw_pcap.specs.declared.capture.Record.{Record}
use Rattle.vsw_policy.specs.Sound.{Each}
use Rattle.vsw_promise.specs.Jobs.{Placed, placed_packets}
use Rattle.vsw_many.specs.Dealing.{deal}
use Rattle.vsw_crew.specs.Private.Round.{HasBegun, jobs_here, macs_in}
use Rattle.vsw_crew.specs.Private.Shifting.{AreShares, needs_of, picks_many, shares_of}
use Rattle.vsw_crew.specs.Shares.{IsShare, RowCarried, ShareSeen, share_of}
use Rattle.vsw_crew.specs.Shift.{AreOutAt, HasNoneBeside, IsOut, IsPicked}
use Rattle.vsw_crew.proofs.Doing.{as_long, fronts_are, row_begins}
use Rattle.vsw_crew.proofs.Meets.{all_met, back, only_met}
use Rattle.vsw_crew.proofs.Quiet.{same_first}
use Rattle.vsw_crew.proofs.Sharing.{idle_none, jobs_quiet}
use Rattle.vsw_crew.proofs.Joining.{is_with, run_with}
use Rattle.vsw_crew.proofs.Taking.{counts_are}
use Rattle.vsw_crew.specs.Crew.{AreReady, IsOfSome}
use Rattle.vsw_crew.specs.Private.Rows.{first_counts}
use Rattle.vsw_crew.specs.declared.picked.Picked.{Picked}
use Rattle.vsw_promise.specs.Jobs.{Setting}
use Rattle.vsw_report.specs.Line.{TextLine}

-- ---- lists

none_dropped : {A : Type 0} (xs : List A) → drop 0 xs ≡ xs
none_dropped [] = refl
none_dropped (x ∷ xs) = refl

none_taken : {A : Type 0} (xs : List A) → take 0 xs ≡ []
none_taken [] = refl
none_taken (x ∷ xs) = refl

-- ---- needs

pub needs_many : {G : Type 0} (picks : List (Vec Pick G)) (all : ℕ) → length picks ≤ all → length (needs_of picks all) ≡ all
needs_many {G} picks all le = append_many picks (replicate (all - length picks) 0) ∙ (ap (λ (m : ℕ). length picks + m) (none_many (all - length picks)) ∙ sum (length picks) all le)
  where
    sum : (a b : ℕ) → a ≤ b → a + (b - a) ≡ b
    sum a b le = omega (arith, le)

    none_many : (n : ℕ) → length {A = ℕ} (replicate n 0) ≡ n
    none_many zero = refl
    none_many (suc n) = ap suc (none_many n)

    append_many : (ps : List (Vec Pick G)) (rest : List ℕ) → length (picks_many ps ++ rest) ≡ length ps + length rest
    append_many [] rest = omega arith
    append_many (p ∷ ps) rest = ap suc (append_many ps rest) ∙ omega arith

-- ---- shares

-- a row that stands has carried none of its picks
begins : (k first : ℕ) (h : HarbourSeen) (numbers macs listed asks : List ℕ) (hs : List (List Event)) (packets : List Record) (row : List (Lane StationSeen)) (picks : List Pick) → IsHarbour h numbers macs listed asks → k < 16 → first + length packets < 2 ^ 32 → length picks ≤ length packets
    → Each (IsPick (length h.docks) packets) picks → RowsStand k h.docks hs (no_calls h.docks) (row ∷ []) → RowsMay (length picks ∷ []) (row ∷ []) → IsShare (share_of k h.docks row packets first picks)
begins k first h numbers macs listed asks hs packets row picks i low total few fit s m =
    let done = nothing_done port_in locals pass_in job_in tells k h.docks row (row_begins k h.docks hs row s.0) in record {
      wide = as_long k h.docks hs row s.0;
      small = omega (arith, i.few);
      few = omega (arith, few, total);
      within = omega arith;
      worker = low;
      numbers = total;
      alike = i.alike;
      fit = subst (λ (ps : List Pick). AreFit pass_in is_of permits k (length ps) h.docks row) (sym (none_dropped picks)) (are_fit k (length picks) h.docks hs (no_calls h.docks) row s.0 m.0);
      picks_fit = fit;
      carried = subst (λ (ps : List Pick). RowCarried k h.docks (fronts_of pass_in row) row (picked_jobs k first packets ps)) (sym (none_taken picks)) (record { tracks = done.0; told = done.1; work = done.2 });
    }

pub shares_begin : {F G : Type 0} (k first : ℕ) (h : HarbourSeen) (numbers macs listed asks rest : List ℕ) (hs : List (List Event)) (packets : List Record) (rows : List (Vec (Lane StationSeen) F)) (picks : List (Vec Pick G)) → IsHarbour h numbers macs listed asks → k + length picks ≤ 16 → length picks ≤ length rows
    → first + length packets < 2 ^ 32 → ArePicks (length h.docks) packets picks → AtMost (length packets) picks → RowsStand k h.docks hs (no_calls h.docks) (rows_in rows) → RowsMay (picks_many picks ++ rest) (rows_in rows) → AreShares k h.docks packets first rows picks
shares_begin k first h numbers macs listed asks rest hs packets rows [] i low many total fit few s m = tt
shares_begin k first h numbers macs listed asks rest hs packets [] (p ∷ picks) i low many total fit few s m = absurd (omega (arith, many))
shares_begin k first h numbers macs listed asks rest hs packets (r ∷ rows) (p ∷ picks) i low many total fit few s m =
    (begins k first h numbers macs listed asks hs packets r.items p.items i (omega (arith, low)) total few.0 fit.0 (s.0, tt) (m.0, tt), shares_begin (suc k) first h numbers macs listed asks rest hs packets rows picks i (omega (arith, low)) (omega (arith, many)) total fit.1 few.1 s.1 m.1)

pub shares_many : {F G : Type 0} (k first : ℕ) (ds : List DockSeen) (packets : List Record) (rows : List (Vec (Lane StationSeen) F)) (picks : List (Vec Pick G)) → AreShares k ds packets first rows picks → length (shares_of k ds packets first rows picks) ≡ length picks
shares_many k first ds packets [] [] a = refl
shares_many k first ds packets (r ∷ rows) [] a = refl
shares_many k first ds packets (r ∷ rows) (p ∷ picks) a = ap suc (shares_many (suc k) first ds packets rows picks a.1)
shares_many k first ds packets [] (p ∷ picks) a = absurd a

head_is : {A : Type 0} (x y : A) (xs ys : List A) → x ∷ xs ≡ y ∷ ys → x ≡ y
head_is x y xs ys e = cc e

tail_is : {A : Type 0} (x y : A) (xs ys : List A) → x ∷ xs ≡ y ∷ ys → xs ≡ ys
tail_is x y xs ys e = cc e

shares_out : {F G : Type 0} (k n first : ℕ) (h : HarbourSeen) (lines : List Line) (gs : List (List Event)) (js : List Placed) (packets : List Record) (rows : List (Vec (Lane StationSeen) F)) (picks : List (Vec Pick G)) → jobs_here h lines first packets ≡ js → length picks ≡ n
    → picked k first packets picks ≡ map (λ i. deal h.controllers i js) (counted k n) → RowsStand k h.docks gs (no_calls h.docks) (rows_in rows) → AreOutAt k h lines gs first packets (shares_of k h.docks packets first rows picks)
shares_out k n first h lines gs js packets [] [] same many e s = tt
shares_out k n first h lines gs js packets (r ∷ rows) [] same many e s = tt
shares_out k n first h lines gs js packets [] (p ∷ picks) same many e s = tt
shares_out k zero first h lines gs js packets (r ∷ rows) (p ∷ picks) same many e s = absurd (omega (arith, many))
shares_out k (suc n) first h lines gs js packets (r ∷ rows) (p ∷ picks) same many e s = (
  record {
    number = refl;
    docks = refl;
    histories = fronts_are k h.docks gs r.items s.0;
    jobs = head_is (picked_jobs k first packets p.items) (deal h.controllers k js) (picked (suc k) first packets picks) (map (λ i. deal h.controllers i js) (counted (suc k) n)) e ∙ ap (deal h.controllers k) (sym same);
  },
  shares_out (suc k) n first h lines gs js packets rows picks same (omega (arith, many)) (tail_is (picked_jobs k first packets p.items) (deal h.controllers k js) (picked (suc k) first packets picks) (map (λ i. deal h.controllers i js) (counted (suc k) n)) e) s.1,
)

-- ---- the other rows

pub stand_behind : {F : Type 0} (n k : ℕ) (ds : List DockSeen) (hs : List (List Event)) (rows : List (Vec (Lane StationSeen) F)) → RowsStand k ds hs (no_calls ds) (rows_in rows) → RowsStand (k + n) ds hs (no_calls ds) (rows_in (drop n rows))
stand_behind {F} n k ds hs [] s = subst (λ (w : List (Vec (Lane StationSeen) F)). RowsStand (k + n) ds hs (no_calls ds) (rows_in w)) (sym (nothing n)) tt
  where
    nothing : (n : ℕ) → drop {A = Vec (Lane StationSeen) F} n [] ≡ []
    nothing zero = refl
    nothing (suc n) = refl
stand_behind zero k ds hs (r ∷ rows) s = subst (λ (i : ℕ). RowsStand i ds hs (no_calls ds) (rows_in (r ∷ rows))) (at k) s
  where
    at : (k : ℕ) → k ≡ k + 0
    at k = omega arith
stand_behind (suc n) k ds hs (r ∷ rows) s = subst (λ (i : ℕ). RowsStand i ds hs (no_calls ds) (rows_in (drop n rows))) (at k n) (stand_behind n (suc k) ds hs rows s.1)
  where
    at : (k n : ℕ) → suc k + n ≡ k + suc n
    at k n = omega arith

-- ---- all of it

-- what is known of rows that stood and met, of which the first ones are to carry these picks
pub record AreGiven {F G : Type 0} (h : HarbourSeen) (lines : List Line) (hs : List (List Event)) (first : ℕ) (packets : List Record) (mids : List (Vec (Lane StationSeen) F)) (picks : List (Vec Pick G)) : Type 0 where
  pub quiet : Did h hs (no_calls h.docks) [] (rows_in mids)
  pub shares : AreShares 0 h.docks packets first mids picks
  pub out : AreOutAt 0 h lines quiet.histories first packets (shares_of 0 h.docks packets first mids picks)
  pub idle : RowsStand h.workers h.docks quiet.histories (no_calls h.docks) (rows_in (drop h.workers mids))
  pub size : length mids ≡ callers h

pub are_given : {F G : Type 0} (h : HarbourSeen) (numbers macs listed asks : List ℕ) (lines : List Line) (hs : List (List Event)) (first : ℕ) (packets : List Record) (rows mids : List (Vec (Lane StationSeen) F)) (picks : List (Vec Pick G)) → IsHarbour h numbers macs listed asks → length (rows_in rows) ≡ callers h
    → RowsStand 0 h.docks hs (no_calls h.docks) (rows_in rows) → AllMeet h.docks (needs_of picks (callers h)) (rows_in rows) (rows_in mids) → first + length packets < 2 ^ 32 → length picks ≡ h.workers
    → ((cs : List ℕ) → picked 0 first packets picks ≡ dealt_to h.workers cs (placed_packets h.workers false (macs_in h) [] (numbered first packets))) → ArePicks (length h.docks) packets picks → AtMost (length packets) picks → HasNoneBeside lines first → AreGiven h lines hs first packets mids picks
are_given h numbers macs listed asks lines hs first packets rows mids picks i size s m total many dealt fit few quiet =
    let a = all_met h (needs_of picks (callers h)) hs (no_calls h.docks) (rows_in rows) (rows_in mids) size s m in
    let did : Did h hs (no_calls h.docks) [] (rows_in mids) = only_met h numbers macs listed asks (needs_of picks (callers h)) hs (no_calls h.docks) (rows_in rows) (rows_in mids) i size s m in
    let stand : RowsStand 0 h.docks did.histories (no_calls h.docks) (rows_in mids) = same_first h a.histories (no_calls h.docks) (rows_in mids) a.size a.stand did in
    let mids_many : length mids ≡ callers h = sym (as_many mids) ∙ a.size in
    record {
      quiet = did;
      shares = shares_begin 0 first h numbers macs listed asks _ a.histories packets mids picks i (omega (arith, many, i.most)) (omega (arith, many, i.most, mids_many)) total fit few a.stand a.may;
      out = shares_out 0 h.workers first h lines did.histories (placed_packets h.workers false (macs_in h) [] (numbered first packets)) packets mids picks (jobs_quiet h lines first packets quiet) many (dealt h.controllers) stand;
      idle = subst (λ (n : ℕ). RowsStand n h.docks did.histories (no_calls h.docks) (rows_in (drop h.workers mids))) (at h.workers) (stand_behind h.workers 0 h.docks did.histories mids stand);
      size = mids_many;
    }
  where
    at : (n : ℕ) → 0 + n ≡ n
    at n = omega arith

-- ---- what goes out

pub none_given : {F G : Type 0} (k first : ℕ) (ds : List DockSeen) (packets : List Record) (rows : List (Vec (Lane StationSeen) F)) (picks : List (Vec Pick G)) (old : List ShareSeen) → length picks ≡ 0 → old ≡ old ++ shares_of k ds packets first rows picks
none_given k first ds packets [] [] old e = sym (append_end old)
none_given k first ds packets (r ∷ rows) [] old e = sym (append_end old)
none_given k first ds packets rows (p ∷ picks) old e = absurd (omega (arith, e))

few_each : {G : Type 0} (n : ℕ) (picks : List (Vec Pick G)) → n < 4294967296 → AtMost n picks → Each (λ p. length p.items < 4294967296) picks
few_each n [] low a = tt
few_each n (p ∷ picks) low a = (omega (arith, low, a.0), few_each n picks low a.1)

pub few_picks : {G : Type 0} (first : ℕ) (packets : List Record) (picks slice : List (Vec Pick G)) → slice ≡ picks → first + length packets < 2 ^ 32 → AtMost (length packets) picks → Each (λ p. length p.items < 4294967296) slice
few_picks {G} first packets picks slice e total a = subst (λ (w : List (Vec Pick G)). Each (λ p. length p.items < 4294967296) w) (sym e) (few_each (length packets) picks (omega (arith, total)) a)

pub met_by : {G : Type 0} (h : HarbourSeen) (picks slice : List (Vec Pick G)) (ls ms : List (List (Lane StationSeen))) → slice ≡ picks → AllMeet h.docks (needs_of slice (callers h)) ls ms → AllMeet h.docks (needs_of picks (callers h)) ls ms
met_by {G} h picks slice ls ms e m = subst (λ (w : List (Vec Pick G)). AllMeet h.docks (needs_of w (callers h)) ls ms) e m

pub shares_sent : {F G : Type 0} (ds docks : List DockSeen) (packets sent : List Record) (first : ℕ) (mids slice : List (Vec (Lane StationSeen) F)) (picks own : List (Vec Pick G)) → docks ≡ ds → sent ≡ packets → slice ≡ mids → own ≡ picks → AreShares 0 ds packets first mids picks → AreShares 0 docks sent first slice own
shares_sent {F} {G} ds docks packets sent first mids slice picks own d p m o a =
    subst (λ (w : List DockSeen). AreShares 0 w sent first slice own) (sym d) (subst (λ (w : List Record). AreShares 0 ds w first slice own) (sym p) (subst (λ (w : List (Vec (Lane StationSeen) F)). AreShares 0 ds packets first w own) (sym m) (subst (λ (w : List (Vec Pick G)). AreShares 0 ds packets first mids w) (sym o) a)))

pub out_is : {F G : Type 0} (ds : List DockSeen) (packets sent : List Record) (first : ℕ) (mids slice : List (Vec (Lane StationSeen) F)) (picks own : List (Vec Pick G)) (old new : List ShareSeen) → sent ≡ packets → slice ≡ mids → own ≡ picks → old ≡ [] → new ≡ old ++ shares_of 0 ds sent first slice own → new ≡ shares_of 0 ds packets first mids picks
out_is ds packets sent first mids slice picks own old new p m o none e =
    e ∙ (ap (λ (w : List ShareSeen). w ++ shares_of 0 ds sent first slice own) none ∙ (ap (λ (w : List Record). shares_of 0 ds w first slice own) p ∙ ap₂ (λ x y. shares_of 0 ds packets first x y) m o))

-- the rows as they are behind the call
pub left_many : {F : Type 0} (n : ℕ) (mids slice new : List (Vec (Lane StationSeen) F)) → n ≡ length mids → slice ≡ mids → length new ≡ length slice → length (take n (new ++ drop (length new) mids)) ≡ length mids
left_many n mids slice new many e same = ap length (back n mids new many (same ∙ ap length e)) ∙ (same ∙ ap length e)

pub left_behind : {F G : Type 0} (n : ℕ) (mids slice new : List (Vec (Lane StationSeen) F)) (picks own : List (Vec Pick G)) → n ≡ length mids → slice ≡ mids → own ≡ picks → length new ≡ length slice → drop (length own) new ≡ drop (length own) slice → drop (length picks) (take n (new ++ drop (length new) mids)) ≡ drop (length picks) mids
left_behind {F} {G} n mids slice new picks own many e o same left =
    ap (drop (length picks)) (back n mids new many (same ∙ ap length e)) ∙ (subst (λ (w : List (Vec Pick G)). drop (length w) new ≡ drop (length w) slice) o left ∙ ap (drop (length picks)) e)

-- what is known once the shares are out
pub record IsSent (h : HarbourSeen) (lines : List Line) (hs : List (List Event)) (first : ℕ) (packets : List Record) (befores : Vec ℕ Global) (firsts : Vec (List (List TextLine)) Global) (rows mids left : List (Vec (Lane StationSeen) Global)) (picked : Picked) (out : List ShareSeen) : Type 0 where
  pub ready : AreReady h hs (rows_in rows)
  pub may : Each (MayAsk h) lines
  pub quiet : HasNoneBeside lines first
  pub picks : IsPicked h first packets picked
  pub counts : befores.items ≡ first_counts (rows_in rows)
  pub out_are : out ≡ shares_of 0 h.docks packets first mids picked.picks.items
  pub behind : drop (length picked.picks.items) left ≡ drop (length picked.picks.items) mids
  pub many : length left ≡ length mids

pub is_out : (h : HarbourSeen) (numbers macs listed asks : List ℕ) (lines : List Line) (hs : List (List Event)) (first : ℕ) (packets : List Record) (befores : Vec ℕ Global) (firsts : Vec (List (List TextLine)) Global) (rows begun mids : List (Vec (Lane StationSeen) Global)) (left : Vec (Vec (Lane StationSeen) Global) Global) (picked : Picked) (out : List ShareSeen)
    → IsHarbour h numbers macs listed asks → IsOfSome h → IsSent h lines hs first packets befores firsts rows mids left.items picked out → ((s : Setting) (gs : List (List Event)) → IsOfRun h s → s.commands ≡ lines → AreReady h gs (rows_in rows) → HasBegun h s gs first firsts.items (rows_in begun))
    → AllMeet h.docks (needs_of picked.picks.items (callers h)) (rows_in begun) (rows_in mids) → IsOut (record { harbour = h; histories = hs }) lines first packets (record { first = first; befores = befores; firsts = firsts; loose = picked.loose; rows = left }) out
is_out h numbers macs listed asks lines hs first packets befores firsts rows begun mids left picked out i run x begins met =
    let given : (s : Setting) → IsOfRun h s → s.commands ≡ lines → (b : HasBegun h s hs first firsts.items (rows_in begun)) → AreGiven h lines b.middles first packets mids picked.picks.items =
    λ s r same b. are_given h numbers macs listed asks lines b.middles first packets begun mids picked.picks.items i b.size b.stand met x.picks.numbers x.picks.size x.picks.dealt x.picks.fit x.picks.few x.quiet in
    let some : 0 < length (rows_in rows) = omega (arith, x.ready.size) in
    let w = is_with h lines run.run run.is in
    let one = given (run_with lines run.run) w.0 w.1 (begins (run_with lines run.run) hs w.0 w.1 x.ready) in
    let sent : length out ≡ length picked.picks.items = ap length x.out_are ∙ shares_many 0 first h.docks packets mids picked.picks.items one.shares in
    record {
      run = run;
      may = x.may;
      journals = x.ready.journals;
      first_is = refl;
      workers = sent ∙ x.picks.size;
      size = x.many ∙ one.size;
      under = λ s r same.
          let b = begins s hs r same x.ready in
          let v = given s r same b in
          record {
            rows = rows_in begun;
            begun = b;
            met = rows_in mids;
            quiet = v.quiet;
            shares = subst (AreOutAt 0 h lines v.quiet.histories first packets) (sym x.out_are) v.out;
            idle = subst (λ (l : List (Vec (Lane StationSeen) Global)). RowsStand h.workers h.docks v.quiet.histories (no_calls h.docks) (rows_in l)) (sym (subst (λ (n : ℕ). drop n left.items ≡ drop n mids) x.picks.size x.behind)) v.idle;
            idle_jobs = λ k. idle_none h lines first packets k (omega (arith, i.more)) x.quiet;
            befores = x.counts ∙ counts_are 0 h.docks hs (no_calls h.docks) (rows_in rows) some x.ready.stand;
            loose = x.picks.loose;
          };
    }
