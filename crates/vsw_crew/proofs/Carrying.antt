-- A piece of a share is carried.
use Rattle.std.proofs.Common.{◌≡◌, ◌≤◌, ◌<◌, ℕ, zero, suc, ◌+◌, List, [], ◌∷◌, length, map, take, drop, refl, ap, ap₂, sym, ◌∙◌, subst, arith, Option, Some, None}
use Rattle.vsw_actors.specs.Picks.{IsPick, carried_by, picked_job, picked_jobs}
use Rattle.vsw_actors.specs.Going.{IsHalfway}
use Rattle.vsw_actors.specs.declared.pick.Pick.{Pick}
use Rattle.vsw_base.specs.declared.flow.Place.{Place}
use Rattle.vsw_harbour.specs.Placed.{Placed}
use Rattle.vsw_harbour.specs.Lane.{Lane}
use Rattle.vsw_harbour.specs.Actors.{AreMine, AtWorkOn, HasDone, locals_at, placed_of}
use Rattle.vsw_harbour.specs.Lanes.{AreFit, AreTold, IsOwn, IsTaken, fronts_of}
use Rattle.vsw_harbour.specs.Work.{IsPlaced, IsWork, MayDo, job_in}
use Rattle.vsw_harbour.specs.DealWork.{Work}
use Rattle.vsw_harbour.specs.Docks.{is_of, locals, pass_in, permits, port_in, takes, tells}
use Rattle.vsw_harbour.specs.Seen.{DockSeen, StationSeen}
use Rattle.vsw_harbour.specs.Phases.{Track}
use Rattle.vsw_many.specs.Actors.{AtWork}
use Rattle.vsw_port.specs.Calls.{Job, job_doer}
use Rattle.vsw_port.specs.declared.event.Event.{Event}
use Rattle.vsw_pcap.specs.declared.capture.Record.{Record}
use Rattle.vsw_policy.specs.Sound.{Each}
use Rattle.vsw_promise.specs.Jobs as jobs
use Rattle.vsw_crew.specs.Shares.{GoesOn, IsCarried, IsShare, RowCarried, ShareSeen, jobs_in}

-- ---- lists

map_many : {A B : Type 0} (f : A → B) (xs : List A) → length (map f xs) ≡ length xs
map_many f [] = refl
map_many f (x ∷ xs) = ap suc (map_many f xs)

map_take : {A B : Type 0} (f : A → B) (n : ℕ) (xs : List A) → map f (take n xs) ≡ take n (map f xs)
map_take f zero [] = refl
map_take f zero (x ∷ xs) = refl
map_take f (suc n) [] = refl
map_take f (suc n) (x ∷ xs) = ap (λ w. f x ∷ w) (map_take f n xs)

drop_many : {A B : Type 0} (n : ℕ) (xs : List A) (ys : List B) → length xs ≡ length ys → length (drop n xs) ≡ length (drop n ys)
drop_many zero [] [] e = refl
drop_many zero (x ∷ xs) (y ∷ ys) e = e
drop_many (suc n) [] [] e = refl
drop_many (suc n) (x ∷ xs) (y ∷ ys) e = drop_many n xs ys (omega (arith, e))
drop_many n [] (y ∷ ys) e = absurd (omega (arith, e))
drop_many n (x ∷ xs) [] e = absurd (omega (arith, e))

each_drop : {A : Type 0} (P : A → Type 0) (n : ℕ) (xs : List A) → Each P xs → Each P (drop n xs)
each_drop P zero [] e = e
each_drop P zero (x ∷ xs) e = e
each_drop P (suc n) [] e = tt
each_drop P (suc n) (x ∷ xs) e = each_drop P n xs e.1

take_all : {A : Type 0} (n : ℕ) (xs : List A) → length xs ≤ n → take n xs ≡ xs
take_all zero [] le = refl
take_all (suc n) [] le = refl
take_all zero (x ∷ xs) le = absurd (omega (arith, le))
take_all (suc n) (x ∷ xs) le = ap (λ w. x ∷ w) (take_all n xs (omega (arith, le)))

drop_all : {A : Type 0} (n : ℕ) (xs : List A) → length xs ≤ n → length (drop n xs) ≡ 0
drop_all zero [] le = refl
drop_all (suc n) [] le = refl
drop_all zero (x ∷ xs) le = absurd (omega (arith, le))
drop_all (suc n) (x ∷ xs) le = drop_all n xs (omega (arith, le))

-- ---- a worker's picks are its own

doer_is : (cs : List ℕ) (worker n : ℕ) (place : Place) (r : Option Record) → job_doer cs (carried_by worker n place r) ≡ worker
doer_is cs worker n place None = refl
doer_is cs worker n place (Some r) = refl

-- the job is this caller's, whoever the controllers are
abbrev OfWorker : ℕ → jobs.Placed → Type 0
OfWorker worker t = (cs : List ℕ) → job_doer cs t.1 ≡ worker

picks_own : (worker first : ℕ) (packets : List Record) (picks : List Pick) → Each (OfWorker worker) (picked_jobs worker first packets picks)
picks_own worker first packets [] = tt
picks_own worker first packets (p ∷ picks) = ((λ cs. doer_is cs worker (first + p.at) p.place _), picks_own worker first packets picks)

pub own_at : (k : ℕ) (j : Job) (ds : List DockSeen) → ((cs : List ℕ) → job_doer cs j ≡ k) → IsOwn port_in j k ds
own_at k j [] own = tt
own_at k j (d ∷ ds) own = (own d.live.looking.1.controllers, own_at k j ds own)

pub taken_at : (at place : ℕ) (w : Work) (ds : List DockSeen) → IsPlaced place w → ((cs : List ℕ) → MayDo cs w) → IsTaken takes at place w ds
taken_at at place w [] placed may = tt
taken_at at place w (d ∷ ds) placed may = ((λ e. (placed, may d.live.looking.1.controllers)), taken_at (suc at) place w ds placed may)

mine_all : (k : ℕ) (ds : List DockSeen) (js : List (Placed Work)) → Each (OfWorker k) (map (placed_of job_in) js) → Each (λ a. (cs : List ℕ) → IsWork (length ds) cs a) js → AreMine port_in job_in takes k ds js
mine_all k ds [] own work = tt
mine_all k ds (a ∷ js) own work = ((own_at k (job_in a.job) ds own.0, taken_at 0 a.place a.job ds (work.0 []).1 (λ cs. (work.0 cs).2), (work.0 []).0), mine_all k ds js own.1 work.1)

mine_some : (k next : ℕ) (ds : List DockSeen) (js : List (Placed Work)) → AreMine port_in job_in takes k ds js → AreMine port_in job_in takes k ds (drop next js)
mine_some k next ds js m = each_drop _ next js m

works_all : (ports : ℕ) (js : List (Placed Work)) → ((cs : List ℕ) → Each (IsWork ports cs) js) → Each (λ a. (cs : List ℕ) → IsWork ports cs a) js
works_all ports [] w = tt
works_all ports (a ∷ js) w = ((λ cs. (w cs).0), works_all ports js (λ cs. (w cs).1))

-- ---- a share goes on

-- what was made of a share's picks
pub record AreItsJobs (s : ShareSeen) (js : List (Placed Work)) : Type 0 where
  pub jobs : map (placed_of job_in) js ≡ jobs_in s
  pub work : (cs : List ℕ) → Each (IsWork (length s.docks) cs) js

as_many : (s : ShareSeen) (js : List (Placed Work)) → AreItsJobs s js → length js ≡ length s.picks
as_many s js a = sym (map_many (placed_of job_in) js) ∙ (ap length a.jobs ∙ map_many (picked_job s.number s.first s.packets) s.picks)

front_jobs : (s : ShareSeen) (js : List (Placed Work)) (n : ℕ) → AreItsJobs s js → map (placed_of job_in) (take n js) ≡ picked_jobs s.number s.first s.packets (take n s.picks)
front_jobs s js n a = map_take (placed_of job_in) n js ∙ (ap (take n) a.jobs ∙ sym (map_take (picked_job s.number s.first s.packets) n s.picks))

pub its_jobs : (s : ShareSeen) (js : List (Placed Work)) (packets : List Record) (picks : List Pick) → packets ≡ s.packets → picks ≡ s.picks → IsShare s → map (placed_of job_in) js ≡ picked_jobs s.number s.first packets picks → ((ports : ℕ) (cs : List ℕ) → Each (IsPick ports packets) picks → Each (IsWork ports cs) js) → AreItsJobs s js
its_jobs s js packets picks e f i jobs work =
    let fit : Each (IsPick (length s.docks) packets) picks = subst (λ (ps : List Pick). Each (IsPick (length s.docks) packets) ps) (sym f) (subst (λ (rs : List Record). Each (IsPick (length s.docks) rs) s.picks) (sym e) i.picks_fit) in
    record { jobs = jobs ∙ ap₂ (λ rs ps. picked_jobs s.number s.first rs ps) e f; work = λ cs. work (length s.docks) cs fit }

pub may_go_on : (s : ShareSeen) (js : List (Placed Work)) → s.histories ≡ fronts_of pass_in s.row → IsShare s → AreItsJobs s js → IsHalfway port_in locals pass_in job_in tells is_of permits takes s.number s.docks s.row js s.next
may_go_on s js fronts i a =
    let many : length js ≡ length s.picks = as_many s js a in
    let own : Each (OfWorker s.number) (map (placed_of job_in) js) = subst (Each (OfWorker s.number)) (sym a.jobs) (picks_own s.number s.first s.packets s.picks) in
    record {
      alike = i.alike;
      same = i.wide;
      small = i.small;
      few = omega (arith, i.few, many);
      within = omega (arith, i.within, many);
      fit = subst (λ (n : ℕ). AreFit pass_in is_of permits s.number n s.docks s.row) (drop_many s.next s.picks js (sym many)) i.fit;
      mine = mine_some s.number s.next s.docks js (mine_all s.number s.docks js own (works_all (length s.docks) js a.work));
      done = (
        i.carried.tracks,
        i.carried.told,
        subst (λ (w : List jobs.Placed). AtWorkOn (locals_at locals s.docks) s.number (map port_in s.docks) (fronts_of pass_in s.row) i.carried.tracks w) (sym (front_jobs s js s.next a))
            (subst (λ (hs : List (List Event)). AtWorkOn (locals_at locals s.docks) s.number (map port_in s.docks) hs i.carried.tracks (picked_jobs s.number s.first s.packets (take s.next s.picks))) fronts i.carried.work),
      );
    }

-- what a row has done of a share, with so many picks carried
carried_to : (s : ShareSeen) (js : List (Placed Work)) (row : List (Lane StationSeen)) (n : ℕ) → s.histories ≡ fronts_of pass_in s.row → AreItsJobs s js → HasDone port_in locals pass_in job_in tells s.number s.docks (fronts_of pass_in s.row) row (take n js)
    → RowCarried s.number s.docks s.histories row (picked_jobs s.number s.first s.packets (take n s.picks))
carried_to s js row n fronts a d = record {
  tracks = d.0;
  told = d.1;
  work = subst (λ (hs : List (List Event)). AtWorkOn (locals_at locals s.docks) s.number (map port_in s.docks) hs d.0 (picked_jobs s.number s.first s.packets (take n s.picks))) (sym fronts)
      (subst (λ (w : List jobs.Placed). AtWorkOn (locals_at locals s.docks) s.number (map port_in s.docks) (fronts_of pass_in s.row) d.0 w) (front_jobs s js n a) d.2);
}

pub carried_all : (s : ShareSeen) (js : List (Placed Work)) (row : List (Lane StationSeen)) (n : ℕ) → s.histories ≡ fronts_of pass_in s.row → AreItsJobs s js → length s.picks ≤ n → AreFit pass_in is_of permits s.number (length (drop n js)) s.docks row
    → HasDone port_in locals pass_in job_in tells s.number s.docks (fronts_of pass_in s.row) row (take n js) → IsCarried s row
carried_all s js row n fronts a all fit d =
    let many : length js ≡ length s.picks = as_many s js a in
    record {
      fit = subst (λ (m : ℕ). AreFit pass_in is_of permits s.number m s.docks row) (drop_all n js (omega (arith, all, many))) fit;
      carried = subst (λ (ps : List Pick). RowCarried s.number s.docks s.histories row (picked_jobs s.number s.first s.packets ps)) (take_all n s.picks all) (carried_to s js row n fronts a d);
    }

fit_many : (k n : ℕ) (ds : List DockSeen) (row : List (Lane StationSeen)) → AreFit pass_in is_of permits k n ds row → length ds ≡ length row
fit_many k n [] [] f = refl
fit_many k n (d ∷ ds) (l ∷ row) f = ap suc (fit_many k n ds row f.1)
fit_many k n [] (l ∷ row) f = absurd f
fit_many k n (d ∷ ds) [] f = absurd f

-- the same share with the row as it has become
abbrev pub gone_on : ShareSeen → List (Lane StationSeen) → ℕ → ShareSeen
gone_on s row n = record { number = s.number; docks = s.docks; histories = fronts_of pass_in row; row = row; packets = s.packets; first = s.first; picks = s.picks; next = n }

-- lanes began where their tracks did
began : (place k : ℕ) (ds : List DockSeen) (hs : List (List Event)) (row : List (Lane StationSeen)) (ts : List Track) (done : List jobs.Placed) → AreTold port_in pass_in tells ds row ts → AtWork place k (map port_in ds) hs ts done → fronts_of pass_in row ≡ hs
began place k [] [] [] [] done a w = refl
began place k (d ∷ ds) (h ∷ hs) (l ∷ row) (t ∷ ts) done a w =
    let front : take l.base l.station.pass.view.front ≡ h = sym (ap (λ p. p.front) a.0.start) ∙ w.0.rest.front in
    ap₂ (λ x xs. x ∷ xs) front (began (suc place) k ds hs row ts done a.1 w.2)
began place k [] [] [] (t ∷ ts) done a w = absurd a
began place k [] [] (l ∷ row) ts done a w = absurd a
began place k [] (h ∷ hs) row [] done a w = absurd w
began place k [] (h ∷ hs) row (t ∷ ts) done a w = absurd w
began place k (d ∷ ds) [] row ts done a w = absurd w
began place k (d ∷ ds) (h ∷ hs) [] ts done a w = absurd a
began place k (d ∷ ds) (h ∷ hs) (l ∷ row) [] done a w = absurd a

fronts_still : (s : ShareSeen) (js : List (Placed Work)) (row : List (Lane StationSeen)) (n : ℕ) → s.histories ≡ fronts_of pass_in s.row → HasDone port_in locals pass_in job_in tells s.number s.docks (fronts_of pass_in s.row) row (take n js) → fronts_of pass_in row ≡ s.histories
fronts_still s js row n fronts d = began 0 s.number s.docks (fronts_of pass_in s.row) row d.0 _ d.1 d.2.work ∙ sym fronts

pub still_a_share : (s : ShareSeen) (js : List (Placed Work)) (row : List (Lane StationSeen)) (n : ℕ) → s.histories ≡ fronts_of pass_in s.row → IsShare s → AreItsJobs s js → n < length s.picks → AreFit pass_in is_of permits s.number (length (drop n js)) s.docks row
    → HasDone port_in locals pass_in job_in tells s.number s.docks (fronts_of pass_in s.row) row (take n js) → IsShare (gone_on s row n)
still_a_share s js row n fronts i a some fit d =
    let many : length js ≡ length s.picks = as_many s js a in
    record {
      wide = fit_many s.number (length (drop n js)) s.docks row fit;
      small = i.small;
      few = i.few;
      within = omega (arith, some);
      worker = i.worker;
      numbers = i.numbers;
      alike = i.alike;
      fit = subst (λ (m : ℕ). AreFit pass_in is_of permits s.number m s.docks row) (drop_many n js s.picks many) fit;
      picks_fit = i.picks_fit;
      carried = subst (λ (hs : List (List Event)). RowCarried s.number s.docks hs row (picked_jobs s.number s.first s.packets (take n s.picks))) (sym (fronts_still s js row n fronts d)) (carried_to s js row n fronts a d);
    }

pub goes_on : (s : ShareSeen) (js : List (Placed Work)) (row : List (Lane StationSeen)) (n : ℕ) → s.histories ≡ fronts_of pass_in s.row → HasDone port_in locals pass_in job_in tells s.number s.docks (fronts_of pass_in s.row) row (take n js) → GoesOn s (gone_on s row n)
goes_on s js row n fronts d = record { number = refl; docks = refl; histories = fronts_still s js row n fronts d; packets = refl; first = refl; picks = refl }
