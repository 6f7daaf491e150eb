-- The workers' shares come back, each with all that was handed over to its worker.
use Rattle.std.proofs.Common.{◌≡◌, ◌<◌, ℕ, zero, suc, ◌-◌, List, [], ◌∷◌, ◌++◌, length, map, refl, ap, ap₂, sym, ◌∙◌, subst, arith, true, false, Global, Vec, Some, Ok, Err, IfOk, IfSome, OnOk, Result}
use Rattle.vsw_actors.specs.Handed.{handed_job}
use Rattle.vsw_actors.specs.Picks.{picked, picked_jobs}
use Rattle.vsw_actors.specs.declared.handed.Handed.{Handed}
use Rattle.vsw_actors.specs.declared.pick.Pick.{Pick}
use Rattle.vsw_commandfile.specs.declared.line.Line.{Line}
use Rattle.vsw_hands.specs.Hands.{AllDone}
use Rattle.vsw_harbour.specs.Harbour.{HarbourSeen}
use Rattle.vsw_harbour.specs.Lane.{Lane}
use Rattle.vsw_harbour.specs.Seen.{StationSeen}
use Rattle.vsw_pcap.specs.declared.capture.Record.{Record}
use Rattle.vsw_port.specs.Order.{counted, numbered}
use Rattle.vsw_port.specs.declared.event.Event.{Event}
use Rattle.vsw_port.proofs.Fronts.{append_end}
use Rattle.vsw_promise.specs.Jobs.{Placed, placed_packets}
use Rattle.vsw_many.specs.Dealing.{deal}
use Rattle.vsw_rings.specs.Rings.{IsRing, fed, is_at_end, taken}
use Rattle.vsw_rings.specs.declared.drain.Drain.{Drain}
use Rattle.vsw_rings.specs.declared.feed.Feed.{Feed}
use Rattle.vsw_rings.proofs.Staying.{ring_stays}
use Rattle.vsw_crew.specs.Crew.{CrewSeen}
use Rattle.vsw_crew.specs.Private.Flowing.{AreEnded, AreEnds, CameBack, MayEnd, share_with, shares_with}
use Rattle.vsw_crew.specs.Private.Round.{jobs_here, macs_in}
use Rattle.vsw_crew.specs.Shares.{DoesShare, IsCarried, RowCarried}
use Rattle.vsw_crew.specs.Shift.{AreOutAt, IsOut}
use Rattle.vsw_crew.specs.StreamShares.{DoesStreamShare, IsStreamed, StreamSeen}
use Rattle.vsw_crew.specs.Streams.{AreRings, AreStreamsAt, IsFeeding, jobs_fed}
use Rattle.vsw_crew.specs.declared.feeding.Feeding.{Feeding}
use Rattle.vsw_crew.specs.declared.share.Carried.{Carried}
use Rattle.vsw_crew.specs.declared.stream_share.Frames.{Frames}
use Rattle.vsw_crew.specs.declared.stream_share.StreamCarried.{StreamCarried}
use Rattle.vsw_crew.specs.declared.stream_share.Streamed.{Streamed}
use Rattle.vsw_crew.proofs.Joining.{is_with, run_with}
use Rattle.vsw_crew.proofs.Sharing.{idle_none, jobs_quiet}

pub ok_map : {A E : Type 0} {P Q : A → Type 0} (r : Result A E) → ((a : A) → P a → Q a) → IfOk r P → IfOk r Q
ok_map (Ok a) f p = f a p
ok_map (Err e) f p = tt

pub on_map : {A E : Type 0} {P Q : Type 0} (r : Result A E) → (P → Q) → OnOk r P → OnOk r Q
on_map (Ok a) f p = f p
on_map (Err e) f p = tt

-- ---- the rings end

pub may_end : (n : ℕ) (fs : List (Feed Handed Frames)) (out : List StreamSeen) → AreRings n fs out → MayEnd fs
may_end n [] [] r = tt
may_end n (f ∷ fs) (s ∷ out) r = ((r.0.1, omega (arith, r.0.2)), may_end n fs out r.1)
may_end n [] (s ∷ out) r = absurd r
may_end n (f ∷ fs) [] r = absurd r

pub are_ends : (n : ℕ) (fs slice gs : List (Feed Handed Frames)) (out : List StreamSeen) → slice ≡ fs → AreRings n fs out → AreEnded slice gs → AreEnds gs out
are_ends n fs slice gs out same rings ended = go fs gs out rings (subst (λ (w : List (Feed Handed Frames)). AreEnded w gs) same ended)
  where
    go : (fs gs : List (Feed Handed Frames)) (out : List StreamSeen) → AreRings n fs out → AreEnded fs gs → AreEnds gs out
    go [] [] [] r e = tt
    go (f ∷ fs) (g ∷ gs) (s ∷ out) r e = (ring_stays f g s.drain s.drain r.0.0 e.0.1 ((refl, refl, refl, refl), refl), go fs gs out r.1 e.1)
    go [] [] (s ∷ out) r e = absurd r
    go (f ∷ fs) (g ∷ gs) [] r e = absurd r
    go [] (g ∷ gs) out r e = absurd e
    go (f ∷ fs) [] out r e = absurd e

pub same_fed : (fs gs : List (Feed Handed Frames)) → AreEnded fs gs → map fed gs ≡ map fed fs
same_fed [] [] e = refl
same_fed (f ∷ fs) (g ∷ gs) e = ap₂ (λ x y. x ∷ y) e.0.0 (same_fed fs gs e.1)
same_fed [] (g ∷ gs) e = absurd e
same_fed (f ∷ fs) [] e = absurd e

-- ---- what was taken is what was handed over

-- a share's row carried the picks of its worker, if it took all that was handed over
pub carried_share : (k first : ℕ) (h : HarbourSeen) (gs : List (List Event)) (packets : List Record) (s : StreamSeen) (picks : List Pick) (row : List (Lane StationSeen)) (f g : Feed Handed Frames) (d e : Drain Handed Frames) → (s.number ≡ k) × (s.docks ≡ h.docks) × (s.histories ≡ gs) → IsStreamed s row d → map (handed_job k) (fed f) ≡ picked_jobs k first packets picks
    → taken e ≡ taken d → taken e ≡ fed g → fed g ≡ fed f → IsCarried (share_with first packets s picks) row
carried_share k first h gs packets s picks row f g d e at i handed same all still =
    let number : picked_jobs k first packets picks ≡ picked_jobs s.number first packets picks = ap (λ (n : ℕ). picked_jobs n first packets picks) (sym at.0) in
    let own : map (handed_job s.number) (taken d) ≡ map (handed_job k) (taken d) = ap (λ (n : ℕ). map (handed_job n) (taken d)) at.0 in
    let jobs : map (handed_job s.number) (taken d) ≡ picked_jobs s.number first packets picks = own ∙ (ap (map (handed_job k)) (sym same ∙ (all ∙ still)) ∙ (handed ∙ number)) in
    record { fit = i.fit; carried = subst (RowCarried s.number s.docks s.histories row) jobs i.carried }

-- the ring of a share whose row came back
pub ring_back : (s : StreamSeen) (f : Feed Handed Frames) (t : StreamCarried) (x : Streamed) → t.done ≡ Some x → DoesStreamShare s t → IsRing f s.drain → IsRing f x.drain
ring_back s f t x is does ring =
    let i = subst (λ o. IfSome o (λ d. IsStreamed s d.row.items d.drain)) is does in
    ring_stays f f s.drain x.drain ring ((refl, refl, refl, refl), refl) i.ring

-- none came back of no shares
pub none_back : (k first : ℕ) (h : HarbourSeen) (gs : List (List Event)) (packets : List Record) (out : List StreamSeen) (picks : List (Vec Pick Global)) (tolds : List StreamCarried) (rows : List Carried) → length tolds ≡ 0 → AllDone DoesStreamShare out tolds → CameBack (shares_with first packets out picks) rows rows
none_back k first h gs packets [] picks [] rows none done = record { rows = []; news_are = sym (append_end rows); done = tt }
none_back k first h gs packets (s ∷ out) picks [] rows none done = absurd done
none_back k first h gs packets out picks (t ∷ tolds) rows none done = absurd (omega (arith, none))

-- what is known of the first share that came back
pub record IsFirstBack (s : StreamSeen) (t : StreamCarried) (f : Feed Handed Frames) (row : Vec (Lane StationSeen) Global) : Type 0 where
  pub streamed : Streamed
  pub feed : Feed Handed Frames
  pub drain : Drain Handed Frames
  pub is : t.done ≡ Some streamed
  pub row_is : row ≡ streamed.row
  pub same : taken drain ≡ taken streamed.drain
  pub ends : is_at_end drain ≡ is_at_end streamed.drain
  pub all : is_at_end drain ≡ true → taken drain ≡ fed feed
  pub still : fed feed ≡ fed f

append_one : {A : Type 0} (xs ys : List A) (y : A) → (xs ++ y ∷ []) ++ ys ≡ xs ++ y ∷ ys
append_one [] ys y = refl
append_one (x ∷ xs) ys y = ap (λ w. x ∷ w) (append_one xs ys y)

head_is : {A : Type 0} (x y : A) (xs ys : List A) → x ∷ xs ≡ y ∷ ys → x ≡ y
head_is x y xs ys e = cc e

tail_is : {A : Type 0} (x y : A) (xs ys : List A) → x ∷ xs ≡ y ∷ ys → xs ≡ ys
tail_is x y xs ys e = cc e

pub one_back : (k first : ℕ) (h : HarbourSeen) (gs : List (List Event)) (packets : List Record) (s : StreamSeen) (out : List StreamSeen) (p : Vec Pick Global) (picks : List (Vec Pick Global)) (t : StreamCarried) (f : Feed Handed Frames) (row : Vec (Lane StationSeen) Global) (olds mids news : List Carried) → DoesStreamShare s t → (s.number ≡ k) × (s.docks ≡ h.docks) × (s.histories ≡ gs)
    → map (handed_job k) (fed f) ≡ picked_jobs k first packets p.items → IsFirstBack s t f row → mids ≡ olds ++ (record { row = Some row }) ∷ [] → CameBack (shares_with first packets out picks) mids news → CameBack (shares_with first packets (s ∷ out) (p ∷ picks)) olds news
one_back k first h gs packets s out p picks t f row olds mids news does at handed b put rest =
    let i : IsStreamed s b.streamed.row.items b.streamed.drain = subst (λ o. IfSome o (λ d. IsStreamed s d.row.items d.drain)) b.is does in
    let carried = carried_share k first h gs packets s p.items b.streamed.row.items f b.feed b.streamed.drain b.drain at i handed b.same (b.all (b.ends ∙ i.end)) b.still in
    let here : DoesShare (share_with first packets s p.items) (record { row = Some row }) = subst (λ (v : Vec (Lane StationSeen) Global). IsCarried (share_with first packets s p.items) v.items) (sym b.row_is) carried in
    record {
      rows = (record { row = Some row }) ∷ rest.rows;
      news_are = rest.news_are ∙ (ap (λ (w : List Carried). w ++ rest.rows) put ∙ append_one olds rest.rows (record { row = Some row }));
      done = (here, rest.done);
    }

-- by all shares
pub all_back : (k first : ℕ) (h : HarbourSeen) (gs : List (List Event)) (packets : List Record) (out : List StreamSeen) (picks : List (Vec Pick Global)) (t : StreamCarried) (tolds : List StreamCarried) (f : Feed Handed Frames) (fs : List (Feed Handed Frames)) (row : Vec (Lane StationSeen) Global) (olds mids news : List Carried)
    → AllDone DoesStreamShare out (t ∷ tolds) → AreEnds (f ∷ fs) out → AreStreamsAt k h gs out → jobs_fed k (map fed (f ∷ fs)) ≡ picked k first packets picks → ((s : StreamSeen) → DoesStreamShare s t → IsFirstBack s t f row) → mids ≡ olds ++ (record { row = Some row }) ∷ []
    → ((k first : ℕ) (h : HarbourSeen) (gs : List (List Event)) (packets : List Record) (out : List StreamSeen) (picks : List (Vec Pick Global)) → AllDone DoesStreamShare out tolds → AreEnds fs out → AreStreamsAt k h gs out → jobs_fed k (map fed fs) ≡ picked k first packets picks → CameBack (shares_with first packets out picks) mids news)
    → CameBack (shares_with first packets out picks) olds news
all_back k first h gs packets (s ∷ out) (p ∷ picks) t tolds f fs row olds mids news done ends at e b put rest =
    one_back k first h gs packets s out p picks t f row olds mids news done.0 at.0 (head_is _ _ _ _ e) (b s done.0) put (rest (suc k) first h gs packets out picks done.1 ends.1 at.1 (tail_is _ _ _ _ e))
all_back k first h gs packets [] picks t tolds f fs row olds mids news done ends at e b put rest = absurd done
all_back k first h gs packets (s ∷ out) [] t tolds f fs row olds mids news done ends at e b put rest = absurd (cc e)

-- ---- the round is out as its picks say

shares_many : (first : ℕ) (packets : List Record) (out : List StreamSeen) (picks : List (Vec Pick Global)) → length picks ≡ length out → length (shares_with first packets out picks) ≡ length out
shares_many first packets [] [] e = refl
shares_many first packets [] (p ∷ picks) e = refl
shares_many first packets (s ∷ out) [] e = absurd (omega (arith, e))
shares_many first packets (s ∷ out) (p ∷ picks) e = ap suc (shares_many first packets out picks (omega (arith, e)))

shares_at : (k n first : ℕ) (h : HarbourSeen) (lines : List Line) (gs : List (List Event)) (js : List Placed) (packets : List Record) (out : List StreamSeen) (picks : List (Vec Pick Global)) → jobs_here h lines first packets ≡ js → length picks ≡ n → picked k first packets picks ≡ map (λ i. deal h.controllers i js) (counted k n)
    → AreStreamsAt k h gs out → AreOutAt k h lines gs first packets (shares_with first packets out picks)
shares_at k n first h lines gs js packets [] picks same many e a = tt
shares_at k n first h lines gs js packets (s ∷ out) [] same many e a = tt
shares_at k zero first h lines gs js packets (s ∷ out) (p ∷ picks) same many e a = absurd (omega (arith, many))
shares_at k (suc n) first h lines gs js packets (s ∷ out) (p ∷ picks) same many e a =
    let own : picked_jobs k first packets p.items ≡ deal h.controllers k js = head_is _ _ _ _ e in (
      record {
        number = a.0.0;
        docks = a.0.1;
        histories = a.0.2;
        jobs = ap (λ (i : ℕ). picked_jobs i first packets p.items) a.0.0 ∙ (own ∙ ap (deal h.controllers k) (sym same));
      },
      shares_at (suc k) n first h lines gs js packets out picks same (omega (arith, many)) (tail_is _ _ _ _ e) a.1,
    )

pub fed_out : (c : CrewSeen) (lines : List Line) (first : ℕ) (packets : List Record) (f : Feeding) (out : List StreamSeen) → 0 < c.harbour.workers → IsFeeding c lines first packets f out → IsOut c lines first packets f.underway (shares_with first packets out f.picks.items)
fed_out c lines first packets f out some x = record {
  run = x.run;
  may = x.may;
  journals = x.journals;
  first_is = x.first_is;
  workers = shares_many first packets out f.picks.items (x.many ∙ sym x.workers) ∙ x.workers;
  size = x.size;
  under = λ s run same.
      let v = x.under s run same in
      record {
        rows = v.rows;
        begun = v.begun;
        met = v.met;
        quiet = v.quiet;
        shares = shares_at 0 c.harbour.workers first c.harbour lines v.quiet.histories (placed_packets c.harbour.workers false (macs_in c.harbour) [] (numbered first packets)) packets out f.picks.items (jobs_quiet c.harbour lines first packets x.quiet) x.many (x.dealt c.harbour.controllers) v.shares;
        idle = v.idle;
        idle_jobs = λ k. idle_none c.harbour lines first packets k some x.quiet;
        befores = v.befores;
        loose = x.loose;
      };
}

-- all shares came back
pub came_back : (c : CrewSeen) (lines : List Line) (first : ℕ) (packets : List Record) (f : Feeding) (out : List StreamSeen) (slice ends : List (Feed Handed Frames)) (tolds told_slice : List StreamCarried) (olds news : List Carried) → slice ≡ f.feeds.items → told_slice ≡ tolds → olds ≡ [] → IsFeeding c lines first packets f out → AllDone DoesStreamShare out tolds → AreEnded slice ends
    → ((k first : ℕ) (h : HarbourSeen) (gs : List (List Event)) (packets : List Record) (out : List StreamSeen) (picks : List (Vec Pick Global)) → AllDone DoesStreamShare out told_slice → AreEnds ends out → AreStreamsAt k h gs out → jobs_fed k (map fed ends) ≡ picked k first packets picks → CameBack (shares_with first packets out picks) olds news) → AllDone DoesShare (shares_with first packets out f.picks.items) news
came_back c lines first packets f out slice ends tolds told_slice olds news same told none x done ended back =
    let w = is_with c.harbour lines x.run.run x.run.is in
    let v = x.under (run_with lines x.run.run) w.0 w.1 in
    let n : ℕ = f.most - f.fed in
    let here : AreEnds ends out = are_ends n f.feeds.items slice ends out same (x.rings n (omega (arith, x.within))) ended in
    let handed : jobs_fed 0 (map fed ends) ≡ picked 0 first packets f.picks.items = ap (jobs_fed 0) (same_fed slice ends ended ∙ ap (map fed) same) ∙ x.handed in
    let b = back 0 first c.harbour v.quiet.histories packets out f.picks.items (subst (AllDone DoesStreamShare out) (sym told) done) here v.shares handed in
    subst (AllDone DoesShare (shares_with first packets out f.picks.items)) (sym (b.news_are ∙ ap (λ (w : List Carried). w ++ b.rows) none)) b.done
