-- The workers' shares: who has something to do, and what has been done.
use Rattle.std.proofs.Common.{◌≡◌, ◌≤◌, ◌<◌, ℕ, suc, ◌+◌, ◌==◌, Bool, true, false, List, [], ◌∷◌, ◌++◌, length, map, drop, refl, ap, sym, ◌∙◌, subst, arith, Some, Ok, Err, IfSome, Global, Vec, if◌then◌else◌}
use Rattle.std.proofs.lemmas.Nat.{mod_below}
use Rattle.vsw_commandfile.specs.declared.line.Line.{Line}
use Rattle.vsw_hands.specs.Hands.{AllDone}
use Rattle.vsw_harbour.specs.Lane.{Lane}
use Rattle.vsw_harbour.specs.Actors.{AtWorkOn, locals_at}
use Rattle.vsw_harbour.specs.Lanes.{AreFit, AreTold}
use Rattle.vsw_harbour.specs.Docks.{is_of, locals, pass_in, permits, port_in, tells}
use Rattle.vsw_harbour.specs.HarbourOpening.{rows_in}
use Rattle.vsw_harbour.specs.Seen.{DockSeen, StationSeen}
use Rattle.vsw_harbour.specs.Harbour.{HarbourSeen}
use Rattle.vsw_harbour.specs.Standing.{RowsStand, no_calls}
use Rattle.vsw_harbour.specs.Working.{RowWorks, RowsWork}
use Rattle.vsw_harbour.proofs.Standing.{works_none}
use Rattle.vsw_port.specs.Calls.{job_doer}
use Rattle.vsw_port.specs.Order.{numbered}
use Rattle.vsw_port.specs.declared.event.Event.{Event}
use Rattle.vsw_pcap.specs.declared.capture.Record.{Record}
use Rattle.vsw_policy.specs.Sound.{Each}
use Rattle.vsw_policy.specs.Layers.{place_of}
use Rattle.vsw_port.specs.Calls.{Ask}
use Rattle.vsw_history_law.proofs.Callers.{eqb_is}
use Rattle.vsw_promise.specs.Jobs.{Placed, aim_of, placed_packet, placed_packets}
use Rattle.vsw_many.specs.Dealing.{deal, placed_lines}
use Rattle.vsw_crew.specs.Private.Round.{jobs_here, macs_in, numbers_in}
use Rattle.vsw_crew.specs.Private.Shifting.{ArePut}
use Rattle.vsw_crew.specs.Shares.{DoesShare, IsCarried, ShareSeen, jobs_in}
use Rattle.vsw_crew.specs.Shift.{AreOutAt, HasNoneBeside, IsOutAt}
use Rattle.vsw_crew.specs.declared.share.Carried.{Carried}
use Rattle.vsw_crew.proofs.Doing.{worked_lanes}

-- ---- who has nothing to do

-- the jobs are those of callers below this number
abbrev AreBelow : ℕ → List ℕ → List Placed → Type 0
AreBelow n cs js = Each (λ t. job_doer cs t.1 < n) js

each_append : {A : Type 0} (P : A → Type 0) (xs ys : List A) → Each P xs → Each P ys → Each P (xs ++ ys)
each_append P [] ys a b = b
each_append P (x ∷ xs) ys a b = (a.0, each_append P xs ys a.1 b)

packet_below : (workers n moment : ℕ) (cs : List ℕ) (macs : List ℕ) (r : Record) → 0 < workers → AreBelow workers cs (placed_packet workers n moment [] (aim_of macs r))
packet_below workers n moment cs macs r some = by (aim_of macs r)
  where
    by : (to : _) → AreBelow workers cs (placed_packet workers n moment [] to)
    by (Err why) = tt
    by (Ok a) = (mod_below _ workers some, tt)

packets_below : (workers : ℕ) (cs macs : List ℕ) (packets : List (ℕ × Record)) → 0 < workers → AreBelow workers cs (placed_packets workers false macs [] packets)
packets_below workers cs macs [] some = tt
packets_below workers cs macs (p ∷ packets) some = each_append (λ t. job_doer cs t.1 < workers) (placed_packet workers p.0 p.1.moment [] (aim_of macs p.1)) (placed_packets workers false macs [] packets) (packet_below workers p.0 p.1.moment cs macs p.1 some) (packets_below workers cs macs packets some)

none_dealt : (n k : ℕ) (cs : List ℕ) (js : List Placed) → n ≤ k → AreBelow n cs js → deal cs k js ≡ []
none_dealt n k cs [] le b = refl
none_dealt n k cs (t ∷ js) le b = by (job_doer cs t.1 == k) refl (none_dealt n k cs js le b.1)
  where
    by : (is : Bool) → (job_doer cs t.1 == k) ≡ is → deal cs k js ≡ [] → (if is then t ∷ deal cs k js else deal cs k js) ≡ []
    by true e rest = absurd (omega (arith, eqb_is (job_doer cs t.1) k e, b.0, le))
    by false e rest = rest

pub idle_none : (h : HarbourSeen) (lines : List Line) (first : ℕ) (packets : List Record) (k : ℕ) → 0 < h.workers → HasNoneBeside lines first → deal h.controllers (h.workers + k) (jobs_here h lines first packets) ≡ []
idle_none h lines first packets k some quiet =
    let none : placed_lines (numbers_in h) lines first ≡ [] = ap (map (λ l. (place_of l.port (numbers_in h), Ask l))) quiet in
    let below : AreBelow h.workers h.controllers (placed_packets h.workers false (macs_in h) [] (numbered first packets)) = packets_below h.workers h.controllers (macs_in h) (numbered first packets) some in
    ap (λ (w : List Placed). deal h.controllers (h.workers + k) (w ++ placed_packets h.workers false (macs_in h) [] (numbered first packets))) none
    ∙ none_dealt h.workers (h.workers + k) h.controllers (placed_packets h.workers false (macs_in h) [] (numbered first packets)) (omega arith) below

pub jobs_quiet : (h : HarbourSeen) (lines : List Line) (first : ℕ) (packets : List Record) → HasNoneBeside lines first → jobs_here h lines first packets ≡ placed_packets h.workers false (macs_in h) [] (numbered first packets)
jobs_quiet h lines first packets quiet = ap (λ (w : List Placed). w ++ placed_packets h.workers false (macs_in h) [] (numbered first packets)) (ap (map (λ l. (place_of l.port (numbers_in h), Ask l))) quiet)

-- ---- rows that carried, and rows that rested

-- a share's row has done its own of the round's jobs
carried_works : (k : ℕ) (h : HarbourSeen) (lines : List Line) (gs : List (List Event)) (first : ℕ) (packets : List Record) (s : ShareSeen) (row : List (Lane StationSeen)) → IsOutAt k h lines gs first packets s → IsCarried s row
    → RowWorks k h.docks gs (no_calls h.docks) row (deal h.controllers k (jobs_here h lines first packets))
carried_works k h lines gs first packets s row o c =
    let told : AreTold port_in pass_in tells h.docks row c.carried.tracks = subst (λ (ds : List DockSeen). AreTold port_in pass_in tells ds row c.carried.tracks) o.docks c.carried.told in
    let fit : AreFit pass_in is_of permits k 0 h.docks row = subst (λ (i : ℕ). AreFit pass_in is_of permits i 0 h.docks row) o.number (subst (λ (ds : List DockSeen). AreFit pass_in is_of permits s.number 0 ds row) o.docks c.fit) in
    let one : AtWorkOn (locals_at locals h.docks) s.number (map port_in h.docks) s.histories c.carried.tracks (jobs_in s) = subst (λ (ds : List DockSeen). AtWorkOn (locals_at locals ds) s.number (map port_in ds) s.histories c.carried.tracks (jobs_in s)) o.docks c.carried.work in
    let two : AtWorkOn (locals_at locals h.docks) k (map port_in h.docks) s.histories c.carried.tracks (jobs_in s) = subst (λ (i : ℕ). AtWorkOn (locals_at locals h.docks) i (map port_in h.docks) s.histories c.carried.tracks (jobs_in s)) o.number one in
    let three : AtWorkOn (locals_at locals h.docks) k (map port_in h.docks) gs c.carried.tracks (jobs_in s) = subst (λ (hs : List (List Event)). AtWorkOn (locals_at locals h.docks) k (map port_in h.docks) hs c.carried.tracks (jobs_in s)) o.histories two in
    record {
      tracks = c.carried.tracks;
      work = subst (AtWorkOn (locals_at locals h.docks) k (map port_in h.docks) gs c.carried.tracks) o.jobs three;
      lanes = worked_lanes k h.docks c.carried.tracks row told fit;
    }

-- of what is left nothing is any caller's, from one on
abbrev pub HaveNone : List ℕ → ℕ → List Placed → Type 0
HaveNone cs k js = (i : ℕ) → deal cs (k + i) js ≡ []

next_none : (cs : List ℕ) (k : ℕ) (js : List Placed) → HaveNone cs k js → HaveNone cs (suc k) js
next_none cs k js n i = ap (λ (m : ℕ). deal cs m js) (at k i) ∙ n (suc i)
  where
    at : (k i : ℕ) → suc k + i ≡ k + suc i
    at k i = omega arith

this_none : (cs : List ℕ) (k : ℕ) (js : List Placed) → HaveNone cs k js → deal cs k js ≡ []
this_none cs k js n = ap (λ (m : ℕ). deal cs m js) (at k) ∙ n 0
  where
    at : (k : ℕ) → k ≡ k + 0
    at k = omega arith

rested_work : (k : ℕ) (cs : List ℕ) (ds : List DockSeen) (gs : List (List Event)) (js : List Placed) (rows : List (List (Lane StationSeen))) → HaveNone cs k js → RowsStand k ds gs (no_calls ds) rows → RowsWork cs k ds gs (no_calls ds) js rows
rested_work k cs ds gs js [] n s = tt
rested_work k cs ds gs js (row ∷ rows) n s = (subst (RowWorks k ds gs (no_calls ds) row) (sym (this_none cs k js n)) (works_none k ds gs (no_calls ds) row s.0), rested_work (suc k) cs ds gs js rows (next_none cs k js n) s.1)

some_row : (s : ShareSeen) (t : Carried) (r : Vec (Lane StationSeen) Global) → DoesShare s t → t.row ≡ Some r → IsCarried s r.items
some_row s t r d e = subst (λ o. IfSome o (λ row. IsCarried s row.items)) e d

pub all_work : (k : ℕ) (h : HarbourSeen) (lines : List Line) (gs : List (List Event)) (first : ℕ) (packets : List Record) (out : List ShareSeen) (tolds : List Carried) (olds news : List (Vec (Lane StationSeen) Global)) → AreOutAt k h lines gs first packets out → AllDone DoesShare out tolds → ArePut tolds olds news
    → HaveNone h.controllers (k + length out) (jobs_here h lines first packets) → RowsStand (k + length out) h.docks gs (no_calls h.docks) (rows_in (drop (length out) olds)) → RowsWork h.controllers k h.docks gs (no_calls h.docks) (jobs_here h lines first packets) (rows_in news)
all_work k h lines gs first packets [] [] olds news o d p n s =
    let here : k + 0 ≡ k = omega arith in
    subst (λ w. RowsWork h.controllers k h.docks gs (no_calls h.docks) (jobs_here h lines first packets) (rows_in w)) (sym p)
    (rested_work k h.controllers h.docks gs (jobs_here h lines first packets) (rows_in olds) (subst (λ (i : ℕ). HaveNone h.controllers i (jobs_here h lines first packets)) here n) (subst (λ (i : ℕ). RowsStand i h.docks gs (no_calls h.docks) (rows_in olds)) here s))
all_work k h lines gs first packets (x ∷ out) (t ∷ tolds) (r ∷ olds) (v ∷ news) o d p n s =
    let here : k + length (x ∷ out) ≡ suc k + length out = omega arith in (
      carried_works k h lines gs first packets x v.items o.0 (some_row x t v d.0 p.0),
      all_work (suc k) h lines gs first packets out tolds olds news o.1 d.1 p.1 (subst (λ (i : ℕ). HaveNone h.controllers i (jobs_here h lines first packets)) here n) (subst (λ (i : ℕ). RowsStand i h.docks gs (no_calls h.docks) (rows_in (drop (length out) olds))) here s),
    )
all_work k h lines gs first packets [] (t ∷ tolds) olds news o d p n s = absurd d
all_work k h lines gs first packets (x ∷ out) [] olds news o d p n s = absurd d
all_work k h lines gs first packets (x ∷ out) (t ∷ tolds) [] news o d p n s = absurd p
all_work k h lines gs first packets (x ∷ out) (t ∷ tolds) (r ∷ olds) [] o d p n s = absurd p

pub put_many : (tolds : List Carried) (olds news : List (Vec (Lane StationSeen) Global)) → ArePut tolds olds news → length news ≡ length olds
put_many [] olds news p = ap length p
put_many (t ∷ tolds) (r ∷ olds) (v ∷ news) p = ap suc (put_many tolds olds news p.1)
put_many (t ∷ tolds) [] news p = absurd p
put_many (t ∷ tolds) (r ∷ olds) [] p = absurd p
