-- The workers' shares go out, each with the end of a ring.
use Rattle.std.proofs.Common.{◌≡◌, ◌≤◌, ◌<◌, ℕ, zero, suc, ◌+◌, ◌-◌, ◌^◌, List, [], ◌∷◌, ◌++◌, length, map, take, drop, replicate, refl, ap, ap₂, sym, ◌∙◌, subst, arith, Global, Vec, Option, Some, None, length-append}
use Rattle.vsw_actors.specs.Handed.{handed_job}
use Rattle.vsw_actors.specs.Picks.{picked, picked_jobs}
use Rattle.vsw_actors.specs.declared.handed.Handed.{Handed}
use Rattle.vsw_actors.specs.declared.pick.Pick.{Pick}
use Rattle.vsw_actors.proofs.Doing.{nothing_done}
use Rattle.vsw_actors.proofs.Picking.{none_fit, none_picked, none_size}
use Rattle.vsw_commandfile.specs.declared.line.Line.{Line}
use Rattle.vsw_harbour.specs.Lane.{Lane}
use Rattle.vsw_harbour.specs.Work.{job_in}
use Rattle.vsw_harbour.specs.Lanes.{fronts_of}
use Rattle.vsw_harbour.specs.Docks.{locals, pass_in, port_in, tells}
use Rattle.vsw_harbour.specs.HarbourOpening.{rows_in}
use Rattle.vsw_harbour.specs.Seen.{DockSeen, StationSeen}
use Rattle.vsw_harbour.specs.Harbour.{HarbourSeen, IsHarbour, IsOfRun, MayAsk, callers}
use Rattle.vsw_harbour.specs.Meeting.{AllMeet}
use Rattle.vsw_harbour.specs.Standing.{RowMay, RowsMay, RowsStand, no_calls}
use Rattle.vsw_harbour.specs.Steps.{Did}
use Rattle.vsw_harbour.proofs.Held.{as_many}
use Rattle.vsw_harbour.proofs.Standing.{are_fit}
use Rattle.vsw_port.proofs.Fronts.{append_end}
use Rattle.vsw_port.specs.declared.event.Event.{Event}
use Rattle.vsw_policy.specs.Sound.{Each}
use Rattle.vsw_promise.specs.Jobs.{Setting}
use Rattle.vsw_rings.specs.Rings.{fed}
use Rattle.vsw_rings.specs.declared.drain.Drain.{Drain}
use Rattle.vsw_rings.specs.declared.feed.Feed.{Feed}
use Rattle.vsw_crew.specs.Crew.{AreReady, IsOfSome}
use Rattle.vsw_crew.specs.Private.Round.{HasBegun}
use Rattle.vsw_crew.specs.Private.Rows.{first_counts}
use Rattle.vsw_crew.specs.Private.Flowing.{AreFresh, AreStreamed, AreStreams, IsFresh, MayStream, needs_for, streams_of}
use Rattle.vsw_crew.specs.Shares.{RowCarried}
use Rattle.vsw_crew.specs.Shift.{HasNoneBeside}
use Rattle.vsw_crew.specs.StreamShares.{IsStreamShare, StreamSeen, stream_of}
use Rattle.vsw_crew.specs.Streams.{AreRings, AreStreamsAt, IsFeeding, jobs_fed}
use Rattle.vsw_crew.specs.declared.feeding.Feeding.{Feeding}
use Rattle.vsw_crew.specs.declared.stream_share.Frames.{Frames}
use Rattle.vsw_crew.proofs.Doing.{as_long, fronts_are, row_begins}
use Rattle.vsw_crew.proofs.Giving.{stand_behind}
use Rattle.vsw_crew.proofs.Joining.{is_with, run_with}
use Rattle.vsw_crew.proofs.Meets.{all_met, back, only_met}
use Rattle.vsw_crew.proofs.Quiet.{same_first}
use Rattle.vsw_crew.proofs.Taking.{counts_are}

-- ---- needs

none_many : {A : Type 0} (n : ℕ) (x : A) → length (replicate n x) ≡ n
none_many zero x = refl
none_many (suc n) x = ap suc (none_many n x)

pub needs_many : (workers most all : ℕ) → workers ≤ all → length (needs_for workers most all) ≡ all
needs_many workers most all le = length-append (replicate workers most) (replicate (all - workers) 0) ∙ (ap₂ (λ a b. a + b) (none_many workers most) (none_many (all - workers) 0) ∙ sum workers all le)
  where
    sum : (a b : ℕ) → a ≤ b → a + (b - a) ≡ b
    sum a b le = omega (arith, le)

-- ---- rings

fresh_more : (n : ℕ) (feeds : List (Feed Handed Frames)) (drains : List (Option (Drain Handed Frames))) (f : Feed Handed Frames) (d : Drain Handed Frames) → AreFresh n feeds drains → IsFresh n f d → AreFresh n (feeds ++ f ∷ []) (drains ++ Some d ∷ [])
fresh_more n [] [] f d a i = (i, tt)
fresh_more n (g ∷ feeds) (Some e ∷ drains) f d a i = (a.0, fresh_more n feeds drains f d a.1 i)
fresh_more n [] (e ∷ drains) f d a i = absurd a
fresh_more n (g ∷ feeds) [] f d a i = absurd a
fresh_more n (g ∷ feeds) (None ∷ drains) f d a i = absurd a

pub fresh_on : (n : ℕ) (feeds news : List (Feed Handed Frames)) (drains ends : List (Option (Drain Handed Frames))) (f : Feed Handed Frames) (d : Drain Handed Frames) → AreFresh n feeds drains → IsFresh n f d → news ≡ feeds ++ f ∷ [] → ends ≡ drains ++ Some d ∷ [] → AreFresh n news ends
fresh_on n feeds news drains ends f d a i e o =
    subst (λ (w : List (Feed Handed Frames)). AreFresh n w ends) (sym e) (subst (AreFresh n (feeds ++ f ∷ [])) (sym o) (fresh_more n feeds drains f d a i))

pub many_on : (n : ℕ) (feeds news : List (Feed Handed Frames)) (f : Feed Handed Frames) → length feeds ≡ n → news ≡ feeds ++ f ∷ [] → length news ≡ n + 1
many_on n feeds news f many e = ap length e ∙ (length-append feeds (f ∷ []) ∙ ap (λ (k : ℕ). k + 1) many)

-- ---- shares

-- a row that stands has carried nothing of what comes by a new ring
begins : (k most : ℕ) (h : HarbourSeen) (numbers macs listed asks : List ℕ) (hs : List (List Event)) (row : List (Lane StationSeen)) (n : ℕ) (f : Feed Handed Frames) (d : Drain Handed Frames) → IsHarbour h numbers macs listed asks → k < 16 → IsFresh n f d
    → RowsStand k h.docks hs (no_calls h.docks) (row ∷ []) → RowMay most row → IsStreamShare (stream_of k h.docks row d most)
begins k most h numbers macs listed asks hs row n f d i low fresh s m =
    let done = nothing_done port_in locals pass_in job_in tells k h.docks row (row_begins k h.docks hs row s.0) in record {
      wide = as_long k h.docks hs row s.0;
      small = omega (arith, i.few);
      worker = low;
      alike = i.alike;
      not_at_end = fresh.5;
      fit = are_fit k most h.docks hs (no_calls h.docks) row s.0 m;
      carried = subst (λ (xs : List Handed). RowCarried k h.docks (fronts_of pass_in row) row (map (handed_job k) xs)) (sym fresh.4) (record { tracks = done.0; told = done.1; work = done.2 });
    }

streams_begin : {F : Type 0} (k count most n : ℕ) (h : HarbourSeen) (numbers macs listed asks rest : List ℕ) (hs : List (List Event)) (rows : List (Vec (Lane StationSeen) F)) (feeds : List (Feed Handed Frames)) (drains : List (Option (Drain Handed Frames))) → IsHarbour h numbers macs listed asks → AreFresh n feeds drains → length feeds ≡ count → k + count ≤ 16
    → RowsStand k h.docks hs (no_calls h.docks) (rows_in rows) → RowsMay (replicate count most ++ rest) (rows_in rows) → AreStreams k h.docks most rows drains
streams_begin k count most n h numbers macs listed asks rest hs rows [] [] i fresh many low s m = tt
streams_begin k count most n h numbers macs listed asks rest hs rows [] (d ∷ drains) i fresh many low s m = absurd fresh
streams_begin k count most n h numbers macs listed asks rest hs rows (f ∷ feeds) [] i fresh many low s m = absurd fresh
streams_begin k count most n h numbers macs listed asks rest hs rows (f ∷ feeds) (None ∷ drains) i fresh many low s m = absurd fresh
streams_begin k zero most n h numbers macs listed asks rest hs rows (f ∷ feeds) (Some d ∷ drains) i fresh many low s m = absurd (omega (arith, many))
streams_begin k (suc count) most n h numbers macs listed asks rest hs [] (f ∷ feeds) (Some d ∷ drains) i fresh many low s m = absurd m
streams_begin k (suc count) most n h numbers macs listed asks rest hs (r ∷ rows) (f ∷ feeds) (Some d ∷ drains) i fresh many low s m = (
  begins k most h numbers macs listed asks hs r.items n f d i (omega (arith, low)) fresh.0 (s.0, tt) m.0,
  streams_begin (suc k) count most n h numbers macs listed asks rest hs rows feeds drains i fresh.1 (omega (arith, many)) (omega (arith, low)) s.1 m.1,
)

pub may_stream : {F : Type 0} (h : HarbourSeen) (numbers macs listed asks : List ℕ) (most all : ℕ) (hs : List (List Event)) (begun : List (List (Lane StationSeen))) (mids : List (Vec (Lane StationSeen) F)) → IsHarbour h numbers macs listed asks → length begun ≡ callers h → RowsStand 0 h.docks hs (no_calls h.docks) begun
    → AllMeet h.docks (needs_for h.workers most all) begun (rows_in mids) → MayStream h most mids
may_stream h numbers macs listed asks most all hs begun mids i size s m = λ feeds drains fresh many.
    let a = all_met h (needs_for h.workers most all) hs (no_calls h.docks) begun (rows_in mids) size s m in
    streams_begin 0 h.workers most (most + 1) h numbers macs listed asks (replicate (all - h.workers) 0) a.histories mids feeds drains i fresh many (omega (arith, i.most)) a.stand a.may

-- ---- what goes out

pub none_given : {F : Type 0} (k most : ℕ) (ds : List DockSeen) (rows : List (Vec (Lane StationSeen) F)) (drains : List (Option (Drain Handed Frames))) (old : List StreamSeen) → length drains ≡ 0 → old ≡ old ++ streams_of k ds most rows drains
none_given k most ds [] [] old e = sym (append_end old)
none_given k most ds (r ∷ rows) [] old e = sym (append_end old)
none_given k most ds rows (d ∷ drains) old e = absurd (omega (arith, e))

rings_of : {F : Type 0} (k n m most : ℕ) (ds : List DockSeen) (rows : List (Vec (Lane StationSeen) F)) (feeds : List (Feed Handed Frames)) (drains : List (Option (Drain Handed Frames))) → n < m → AreFresh m feeds drains → AreStreams k ds most rows drains → AreRings n feeds (streams_of k ds most rows drains)
rings_of k n m most ds [] [] [] lt fresh a = tt
rings_of k n m most ds (r ∷ rows) [] [] lt fresh a = tt
rings_of k n m most ds (r ∷ rows) (f ∷ feeds) (Some d ∷ drains) lt fresh a = ((fresh.0.0, fresh.0.2, omega (arith, lt, fresh.0.3)), rings_of (suc k) n m most ds rows feeds drains lt fresh.1 a.1)
rings_of k n m most ds rows [] (d ∷ drains) lt fresh a = absurd fresh
rings_of k n m most ds rows (f ∷ feeds) [] lt fresh a = absurd fresh
rings_of k n m most ds rows (f ∷ feeds) (None ∷ drains) lt fresh a = absurd fresh
rings_of k n m most ds [] (f ∷ feeds) (Some d ∷ drains) lt fresh a = absurd a

streams_many : {F : Type 0} (k m most : ℕ) (ds : List DockSeen) (rows : List (Vec (Lane StationSeen) F)) (feeds : List (Feed Handed Frames)) (drains : List (Option (Drain Handed Frames))) → AreFresh m feeds drains → AreStreams k ds most rows drains → length (streams_of k ds most rows drains) ≡ length feeds
streams_many k m most ds [] [] [] fresh a = refl
streams_many k m most ds (r ∷ rows) [] [] fresh a = refl
streams_many k m most ds (r ∷ rows) (f ∷ feeds) (Some d ∷ drains) fresh a = ap suc (streams_many (suc k) m most ds rows feeds drains fresh.1 a.1)
streams_many k m most ds rows [] (d ∷ drains) fresh a = absurd fresh
streams_many k m most ds rows (f ∷ feeds) [] fresh a = absurd fresh
streams_many k m most ds rows (f ∷ feeds) (None ∷ drains) fresh a = absurd fresh
streams_many k m most ds [] (f ∷ feeds) (Some d ∷ drains) fresh a = absurd a

streams_at : {F : Type 0} (k most : ℕ) (h : HarbourSeen) (gs : List (List Event)) (rows : List (Vec (Lane StationSeen) F)) (drains : List (Option (Drain Handed Frames))) → RowsStand k h.docks gs (no_calls h.docks) (rows_in rows) → AreStreamsAt k h gs (streams_of k h.docks most rows drains)
streams_at k most h gs [] [] s = tt
streams_at k most h gs [] (d ∷ drains) s = tt
streams_at k most h gs (r ∷ rows) [] s = tt
streams_at k most h gs (r ∷ rows) (None ∷ drains) s = tt
streams_at k most h gs (r ∷ rows) (Some d ∷ drains) s = ((refl, refl, fronts_are k h.docks gs r.items s.0), streams_at (suc k) most h gs rows drains s.1)

-- nothing was handed over yet
none_fed : {G : Type 0} (k n m first : ℕ) (feeds : List (Feed Handed Frames)) (drains : List (Option (Drain Handed Frames))) (picks : List (Vec Pick G)) → AreFresh m feeds drains → length feeds ≡ n → map (λ v. v.items) picks ≡ replicate n [] → jobs_fed k (map fed feeds) ≡ picked k first [] picks
none_fed k zero m first [] [] [] fresh many none = refl
none_fed k zero m first [] [] (p ∷ picks) fresh many none = absurd (cc none)
none_fed k (suc n) m first (f ∷ feeds) (Some d ∷ drains) [] fresh many none = absurd (cc none)
none_fed k (suc n) m first (f ∷ feeds) (Some d ∷ drains) (p ∷ picks) fresh many none =
    let here : p.items ≡ [] = cc none in
    let nothing : map (handed_job k) (fed f) ≡ [] = ap (map (handed_job k)) fresh.0.1 in
    ap₂ (λ x y. x ∷ y) (nothing ∙ ap (picked_jobs k first []) (sym here)) (none_fed (suc k) n m first feeds drains picks fresh.1 (omega (arith, many)) (cc none))
none_fed k n m first [] (d ∷ drains) picks fresh many none = absurd fresh
none_fed k n m first (f ∷ feeds) [] picks fresh many none = absurd fresh
none_fed k n m first (f ∷ feeds) (None ∷ drains) picks fresh many none = absurd fresh
none_fed k (suc n) m first [] [] picks fresh many none = absurd (omega (arith, many))
none_fed k zero m first (f ∷ feeds) (Some d ∷ drains) picks fresh many none = absurd (omega (arith, many))

-- rows as they are behind a call that had a slice of them
pub rows_left : {A B : Type 0} (n workers : ℕ) (olds slice new : List A) (drains own : List B) → n ≡ length olds → slice ≡ olds → own ≡ drains → length drains ≡ workers → length new ≡ length slice → drop (length own) new ≡ drop (length own) slice → drop workers (take n (new ++ drop (length new) olds)) ≡ drop workers olds
rows_left n workers olds slice new drains own many e o size same left =
    let here : length own ≡ workers = ap length o ∙ size in
    ap (drop workers) (back n olds new many (same ∙ ap length e)) ∙ (ap (λ (k : ℕ). drop k new) (sym here) ∙ (left ∙ (ap (λ (k : ℕ). drop k slice) here ∙ ap (drop workers) e)))

pub rows_size : {A : Type 0} (n : ℕ) (olds slice new : List A) → n ≡ length olds → slice ≡ olds → length new ≡ length slice → length (take n (new ++ drop (length new) olds)) ≡ length olds
rows_size n olds slice new many e same = ap length (back n olds new many (same ∙ ap length e)) ∙ (same ∙ ap length e)

fresh_many : (n : ℕ) (feeds : List (Feed Handed Frames)) (drains : List (Option (Drain Handed Frames))) → AreFresh n feeds drains → length drains ≡ length feeds
fresh_many n [] [] a = refl
fresh_many n (f ∷ feeds) (Some d ∷ drains) a = ap suc (fresh_many n feeds drains a.1)
fresh_many n [] (d ∷ drains) a = absurd a
fresh_many n (f ∷ feeds) [] a = absurd a
fresh_many n (f ∷ feeds) (None ∷ drains) a = absurd a

-- what the calls tell that give the shares
pub streamed_so : {F : Type 0} (h : HarbourSeen) (workers room most n : ℕ) (olds slice new : List (Vec (Lane StationSeen) F)) (feeds : List (Feed Handed Frames)) (drains own : List (Option (Drain Handed Frames))) (was out : List StreamSeen) → workers ≡ h.workers → room ≡ most + 1 → AreFresh room feeds drains → length feeds ≡ workers → n ≡ length olds → slice ≡ olds → own ≡ drains
    → was ≡ [] → out ≡ was ++ streams_of 0 h.docks most slice own → length new ≡ length slice → drop (length own) new ≡ drop (length own) slice → AreStreamed h most olds (take n (new ++ drop (length new) olds)) feeds out
streamed_so h workers room most n olds slice new feeds drains own was out w r fresh many len e o none given same left = record {
  drains = drains;
  fresh = subst (λ (k : ℕ). AreFresh k feeds drains) r fresh;
  many = many ∙ w;
  out_are = given ∙ (ap (λ (x : List StreamSeen). x ++ streams_of 0 h.docks most slice own) none ∙ ap₂ (λ x y. streams_of 0 h.docks most x y) e o);
  behind = rows_left n h.workers olds slice new drains own len e o (fresh_many room feeds drains fresh ∙ (many ∙ w)) same left;
  size = rows_size n olds slice new len e same;
}

-- what is known once the shares are out
pub record IsOpened (h : HarbourSeen) (lines : List Line) (hs : List (List Event)) (befores : Vec ℕ Global) (rows mids : List (Vec (Lane StationSeen) Global)) (f : Feeding) (out : List StreamSeen) : Type 0 where
  pub ready : AreReady h hs (rows_in rows)
  pub may : Each (MayAsk h) lines
  pub quiet : HasNoneBeside lines f.underway.first
  pub numbers : f.underway.first + f.most < 2 ^ 32
  pub counts : befores.items ≡ first_counts (rows_in rows)
  pub befores_are : f.underway.befores ≡ befores
  pub streamed : AreStreamed h f.most mids f.underway.rows.items f.feeds.items out
  pub none : map (λ v. v.items) f.picks.items ≡ replicate h.workers []
  pub nothing : f.fed ≡ 0
  pub none_loose : f.underway.loose.items ≡ []

pub is_feeding : (h : HarbourSeen) (numbers macs listed asks : List ℕ) (lines : List Line) (hs : List (List Event)) (befores : Vec ℕ Global) (rows begun mids : List (Vec (Lane StationSeen) Global)) (f : Feeding) (out : List StreamSeen)
    → IsHarbour h numbers macs listed asks → IsOfSome h → IsOpened h lines hs befores rows mids f out → ((s : Setting) (gs : List (List Event)) → IsOfRun h s → s.commands ≡ lines → AreReady h gs (rows_in rows) → HasBegun h s gs f.underway.first f.underway.firsts.items (rows_in begun))
    → AllMeet h.docks (needs_for h.workers f.most (callers h)) (rows_in begun) (rows_in mids) → IsFeeding (record { harbour = h; histories = hs }) lines f.underway.first [] f out
is_feeding h numbers macs listed asks lines hs befores rows begun mids f out i run x begins met =
    let w = is_with h lines run.run run.is in
    let b1 = begins (run_with lines run.run) hs w.0 w.1 x.ready in
    let streams : AreStreams 0 h.docks f.most mids x.streamed.drains = may_stream h numbers macs listed asks f.most (callers h) b1.middles (rows_in begun) mids i b1.size b1.stand met f.feeds.items x.streamed.drains x.streamed.fresh x.streamed.many in
    let some : 0 < length (rows_in rows) = omega (arith, x.ready.size) in
    let mids_many : length mids ≡ callers h = sym (as_many mids) ∙ (all_met h (needs_for h.workers f.most (callers h)) b1.middles (no_calls h.docks) (rows_in begun) (rows_in mids) b1.size b1.stand met).size in
    record {
      run = run;
      may = x.may;
      quiet = x.quiet;
      journals = x.ready.journals;
      first_is = refl;
      count = x.nothing;
      within = omega (arith, x.nothing);
      numbers = x.numbers;
      workers = ap length x.streamed.out_are ∙ (streams_many 0 (f.most + 1) f.most h.docks mids f.feeds.items x.streamed.drains x.streamed.fresh streams ∙ x.streamed.many);
      many = none_size h.workers f.picks.items x.none;
      size = x.streamed.size ∙ mids_many;
      rings = λ n e. subst (AreRings n f.feeds.items) (sym x.streamed.out_are) (rings_of 0 n (f.most + 1) f.most h.docks mids f.feeds.items x.streamed.drains (omega (arith, e, x.nothing)) x.streamed.fresh streams);
      handed = none_fed 0 h.workers (f.most + 1) f.underway.first f.feeds.items x.streamed.drains f.picks.items x.streamed.fresh x.streamed.many x.none;
      dealt = λ cs. none_picked 0 f.underway.first h.workers [] cs f.picks.items x.none;
      fit = none_fit (length h.docks) h.workers [] f.picks.items x.none;
      loose = x.none_loose;
      under = λ s r same.
          let b = begins s hs r same x.ready in
          let a = all_met h (needs_for h.workers f.most (callers h)) b.middles (no_calls h.docks) (rows_in begun) (rows_in mids) b.size b.stand met in
          let did : Did h b.middles (no_calls h.docks) [] (rows_in mids) = only_met h numbers macs listed asks (needs_for h.workers f.most (callers h)) b.middles (no_calls h.docks) (rows_in begun) (rows_in mids) i b.size b.stand met in
          let stand : RowsStand 0 h.docks did.histories (no_calls h.docks) (rows_in mids) = same_first h a.histories (no_calls h.docks) (rows_in mids) a.size a.stand did in
          let behind : RowsStand h.workers h.docks did.histories (no_calls h.docks) (rows_in (drop h.workers mids)) = subst (λ (n : ℕ). RowsStand n h.docks did.histories (no_calls h.docks) (rows_in (drop h.workers mids))) (at h.workers) (stand_behind h.workers 0 h.docks did.histories mids stand) in
          record {
            rows = rows_in begun;
            begun = b;
            met = rows_in mids;
            quiet = did;
            shares = subst (AreStreamsAt 0 h did.histories) (sym x.streamed.out_are) (streams_at 0 f.most h did.histories mids x.streamed.drains stand);
            idle = subst (λ (l : List (Vec (Lane StationSeen) Global)). RowsStand h.workers h.docks did.histories (no_calls h.docks) (rows_in l)) (sym x.streamed.behind) behind;
            befores = ap (λ v. v.items) x.befores_are ∙ (x.counts ∙ counts_are 0 h.docks hs (no_calls h.docks) (rows_in rows) some x.ready.stand);
          };
    }
  where
    at : (n : ℕ) → 0 + n ≡ n
    at n = omega arith
