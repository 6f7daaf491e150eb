-- The rounds of a run, from what the callers did.
use Rattle.std.proofs.Common.{◌≡◌, ◌≢◌, ◌≤◌, ◌<◌, ℕ, suc, ◌+◌, ◌==◌, Bool, true, false, if◌then◌else◌, List, [], ◌∷◌, length, map, filter, refl, ap, sym, ◌∙◌, subst, arith, ne_eqb}
use mathlib.Core.List.{IsPrefix}
use Rattle.vsw_pcap.specs.declared.capture.Record.{Record}
use Rattle.vsw_policy.specs.Sound.{Each}
use Rattle.vsw_promise.specs.Ports.{PortSeen, ports_of}
use Rattle.vsw_report.specs.declared.round.PortRound.{PortRound}
use Rattle.vsw_report.specs.declared.round.Round.{Round}
use Rattle.vsw_port.specs.declared.event.Event.{Event}
use Rattle.vsw_port.specs.Calls.{Job, Call, job_of, job_doer, jobs_by, doer, named, calls_of}
use Rattle.vsw_port.specs.History.{Opening, AllRight}
use Rattle.vsw_port.proofs.Fronts.{prefix_trans}
use Rattle.vsw_promise.specs.Jobs.{Setting, Placed, Jobs, jobs_of, at_place}
use Rattle.vsw_many.specs.Dealing.{deal, numbers_of, placed_jobs}
use Rattle.vsw_promise.specs.Rounds.{opening_of, ArePortRounds, AreRoundsAt, AreChained, AllBegin, AreHistories, end_before}
use Rattle.vsw_promise.proofs.Exists.{begin_self, begin_trans, ports_later, none_yet, no_counts}
use Rattle.vsw_history_law.proofs.Reports.{jobs_of_calls}
use Rattle.vsw_many.specs.Law.{RunIsTold}
use Rattle.vsw_many.specs.Phases.{Lane, AreLanes, calls_in, DoneBeside, PortDone}
use Rattle.vsw_many.specs.Actors.{AreRows}
use Rattle.vsw_many.specs.Rounds.{PortTurn, Turns, AreJournals, column, other_columns, calls_by_port, Rest, One, Many, ports_told, RoundDone, RunDone}
use Rattle.vsw_many.proofs.Passes.{none_of, each_weaker}
use Rattle.vsw_many.proofs.Phases.{EachLane, by_lane, by_less, lanes_doers, port_is_round}
use Rattle.vsw_many.proofs.Dealing.{AreNumbered, IsFit, fit_of, place_jobs, place_deal}

-- ---- jobs done beside each other

-- the calls of a lane have these jobs, by its number
abbrev pub HasJobs : (ℕ → List Job) → ℕ → List Call → Type 0
HasJobs share k calls = map (λ c. job_of c.deed) calls ≡ share k

none_to_do : (ns : List ℕ) (k n : ℕ) (js : List Job) → n ≤ k → Each (λ j. job_doer ns j < n) js → jobs_by ns k js ≡ []
none_to_do ns k n [] le e = refl
none_to_do ns k n (j ∷ js) le e = let t : (job_doer ns j == k) ≡ false = ne_eqb (job_doer ns j) k (λ f. omega (arith, f, e.0, le)) in rw t (none_to_do ns k n js le e.1)

pub each_place : (P : Job → Type 0) (i : ℕ) (ts : List Placed) → Each (λ t. P t.1) ts → Each P (at_place i ts)
each_place P i [] e = tt
each_place P i (t ∷ ts) e = by (t.0 == i) (each_place P i ts e.1)
  where
    by : (b : Bool) → Each P (at_place i ts) → Each P (map (λ t. t.1) (if b then t ∷ filter (λ t. t.0 == i) ts else filter (λ t. t.0 == i) ts))
    by true ih = (e.0, ih)
    by false ih = ih

-- each caller has done its own of a port's jobs, where it has done its own of all
pub done_beside : (o : Opening) (h g : List Event) (all : List Placed) (i : ℕ) (ls : List Lane) (jobs : List Job) → AreLanes o h g 0 ls → EachLane (HasJobs (λ k. at_place i (deal o.controllers k all))) 0 ls → at_place i all ≡ jobs
    → Each (λ t. job_doer o.controllers t.1 < length ls) all → DoneBeside o ls jobs
done_beside o h g all i ls jobs lanes did is within k = by_less k (length ls) (map (λ c. job_of c.deed) (calls_of o.controllers k (calls_in ls)) ≡ jobs_by o.controllers k jobs) low high
  where
    low : k < length ls → map (λ c. job_of c.deed) (calls_of o.controllers k (calls_in ls)) ≡ jobs_by o.controllers k jobs
    low lt = by_lane o h g (HasJobs (λ k. at_place i (deal o.controllers k all))) 0 ls lanes did k (omega arith) (omega (arith, lt)) ∙ (place_deal o.controllers k i all ∙ ap (jobs_by o.controllers k) is)

    high : length ls ≤ k → map (λ c. job_of c.deed) (calls_of o.controllers k (calls_in ls)) ≡ jobs_by o.controllers k jobs
    high le =
        let none : calls_of o.controllers k (calls_in ls) ≡ [] = none_of o.controllers k (calls_in ls) (each_weaker (λ c. doer o.controllers c.deed < 0 + length ls) (λ c. doer o.controllers c.deed ≢ k) (calls_in ls) (λ c lt e. omega (arith, lt, e, le)) (lanes_doers o h g 0 ls lanes)) in
        let idle : jobs_by o.controllers k jobs ≡ [] = none_to_do o.controllers k (length ls) jobs le (subst (Each (λ j. job_doer o.controllers j < length ls)) is (each_place (λ j. job_doer o.controllers j < length ls) i all within)) in
        ap (map (λ c. job_of c.deed)) none ∙ sym idle

-- ---- the lanes of one port, out of all callers' rows

pub record IsColumn (ns : List ℕ) (all : List Placed) (i n : ℕ) (p : PortSeen) (h g : List Event) (ps : List PortSeen) (hs gs : List (List Event)) (rows : List (List Lane)) : Type 0 where
  pub lanes : AreLanes (opening_of p) h g n (column rows)
  pub did : EachLane (HasJobs (λ k. at_place i (deal ns k all))) n (column rows)
  pub size : length (column rows) ≡ length rows
  pub others : AreRows ns all (suc i) n ps hs gs (other_columns rows)
  pub others_size : length (other_columns rows) ≡ length rows

pub column_of : (ns : List ℕ) (all : List Placed) (i n : ℕ) (p : PortSeen) (h g : List Event) (ps : List PortSeen) (hs gs : List (List Event)) (rows : List (List Lane)) → AreRows ns all i n (p ∷ ps) (h ∷ hs) (g ∷ gs) rows → IsColumn ns all i n p h g ps hs gs rows
column_of ns all i n p h g ps hs gs [] a = record { lanes = tt; did = tt; size = refl; others = tt; others_size = refl }
column_of ns all i n p h g ps hs gs ((l ∷ ls) ∷ rows) a =
    let more = column_of ns all i (suc n) p h g ps hs gs rows a.1 in
    record { lanes = (a.0.0, more.lanes); did = (a.0.1, more.did); size = ap suc more.size; others = (a.0.2, more.others); others_size = ap suc more.others_size }
column_of ns all i n p h g ps hs gs ([] ∷ rows) a = absurd a.0

-- ---- all ports

-- a round of each port, from the one at this place on
abbrev pub AllDone : Setting → List Record → List PortRound → ℕ → ℕ → ℕ → List PortSeen → List (List Event) → List (List Event) → List (List Call) → List (List Call) → Type 0
AllDone s records told first next i [] [] [] [] [] = Unit {0}
AllDone s records told first next i (p ∷ ps) (h ∷ hs) (g ∷ gs) (c ∷ cs) (d ∷ ds) = PortDone s.workers p h g (jobs_of s records told first next i p.number) c d × AllDone s records told first next (suc i) ps hs gs cs ds
AllDone s records told first next i _ _ _ _ _ = ⊥

port_by_one : (workers : ℕ) (p : PortSeen) (h m g : List Event) (jobs : Jobs) (c d : List Call) → PortTurn p h m jobs.first c → PortTurn p m g jobs.later d → PortDone workers p h g jobs c d
port_by_one workers p h m g jobs c d f l = record {
  middle = m;
  firsts = f.lanes;
  first_phase = f.phase;
  first_done = f.done;
  lasts = l.lanes;
  last_phase = l.phase;
  last_done = λ k. ap (map (λ c. job_of c.deed)) (sym (l.done.same k)) ∙ (jobs_of_calls p.controllers k d ∙ ap (jobs_by p.controllers k) l.done.jobs_are);
  same = l.done.same;
  alone = λ e. l.done;
}

all_by_one : (s : Setting) (records : List Record) (told : List PortRound) (first next i : ℕ) (ps : List PortSeen) (hs ms gs : List (List Event)) (cs ds : List (List Call)) → Turns (λ j. j.first) s records told first next i ps hs ms cs → Turns (λ j. j.later) s records told first next i ps ms gs ds
    → AllDone s records told first next i ps hs gs cs ds
all_by_one s records told first next i [] [] [] [] [] [] f l = tt
all_by_one s records told first next i (p ∷ ps) (h ∷ hs) (m ∷ ms) (g ∷ gs) (c ∷ cs) (d ∷ ds) f l = (port_by_one s.workers p h m g (jobs_of s records told first next i p.number) c d f.0 l.0, all_by_one s records told first next (suc i) ps hs ms gs cs ds f.1 l.1)
all_by_one s records told first next i [] (h ∷ hs) ms gs cs ds f l = absurd f
all_by_one s records told first next i [] [] (m ∷ ms) gs cs ds f l = absurd f
all_by_one s records told first next i [] [] [] (g ∷ gs) cs ds f l = absurd l
all_by_one s records told first next i [] [] [] [] (c ∷ cs) ds f l = absurd f
all_by_one s records told first next i [] [] [] [] [] (d ∷ ds) f l = absurd l
all_by_one s records told first next i (p ∷ ps) [] ms gs cs ds f l = absurd f
all_by_one s records told first next i (p ∷ ps) (h ∷ hs) [] gs cs ds f l = absurd f
all_by_one s records told first next i (p ∷ ps) (h ∷ hs) (m ∷ ms) [] cs ds f l = absurd l
all_by_one s records told first next i (p ∷ ps) (h ∷ hs) (m ∷ ms) (g ∷ gs) [] ds f l = absurd f
all_by_one s records told first next i (p ∷ ps) (h ∷ hs) (m ∷ ms) (g ∷ gs) (c ∷ cs) [] f l = absurd l

port_by_many : (s : Setting) (records : List Record) (told : List PortRound) (first next i : ℕ) (p : PortSeen) (h m g : List Event) (c : List Call) (lanes : List Lane) → s.workers ≢ 1 → p.controllers ≡ s.policy.controllers → at_place i (placed_jobs s records told first next) ≡ (jobs_of s records told first next i p.number).later
    → Each (λ t. job_doer s.policy.controllers t.1 < length lanes) (placed_jobs s records told first next) → PortTurn p h m (jobs_of s records told first next i p.number).first c → AllRight (opening_of p) g → IsPrefix m g → Each (λ e. named p.controllers e < length lanes) g
    → AreLanes (opening_of p) m g 0 lanes → EachLane (HasJobs (λ k. at_place i (deal s.policy.controllers k (placed_jobs s records told first next)))) 0 lanes → PortDone s.workers p h g (jobs_of s records told first next i p.number) c (calls_in lanes)
port_by_many s records told first next i p h m g c lanes ne same is within f right grows names are did = record {
  middle = m;
  firsts = f.lanes;
  first_phase = f.phase;
  first_done = f.done;
  lasts = lanes;
  last_phase = record { right = right; grows = grows; lanes = are; named_all = names };
  last_done = done_beside (opening_of p) m g (placed_jobs s records told first next) i lanes (jobs_of s records told first next i p.number).later are
      (subst (λ ns. EachLane (HasJobs (λ k. at_place i (deal ns k (placed_jobs s records told first next)))) 0 lanes) (sym same) did) is
      (subst (λ ns. Each (λ t. job_doer ns t.1 < length lanes) (placed_jobs s records told first next)) (sym same) within);
  same = λ k. refl;
  alone = λ e. absurd (ne e);
}

all_by_many : (s : Setting) (records : List Record) (told : List PortRound) (first next i callers : ℕ) (ps : List PortSeen) (hs ms gs : List (List Event)) (cs : List (List Call)) (rows : List (List Lane)) → s.workers ≢ 1 → AreNumbered s.policy.controllers (numbers_of s.policy) i ps
    → Each (λ t. job_doer s.policy.controllers t.1 < callers) (placed_jobs s records told first next) → Turns (λ j. j.first) s records told first next i ps hs ms cs → length rows ≡ callers → AreRows s.policy.controllers (placed_jobs s records told first next) i 0 ps ms gs rows → AreJournals callers ps ms gs
    → AllDone s records told first next i ps hs gs cs (calls_by_port ps rows)
all_by_many s records told first next i callers [] [] [] [] [] rows ne numbered within f size a j = tt
all_by_many s records told first next i callers (p ∷ ps) (h ∷ hs) (m ∷ ms) (g ∷ gs) (c ∷ cs) rows ne numbered within f size a j =
    let l = column_of s.policy.controllers (placed_jobs s records told first next) i 0 p m g ps ms gs rows a in
    let as_many : callers ≡ length (column rows) = sym (l.size ∙ size) in (
      port_by_many s records told first next i p h m g c (column rows) ne numbered.0 (place_jobs s records told first next i p.number numbered.1 numbered.2)
          (subst (λ n. Each (λ t. job_doer s.policy.controllers t.1 < n) (placed_jobs s records told first next)) as_many within) f.0 j.0 j.1
          (subst (λ n. Each (λ e. named p.controllers e < n) g) as_many j.2) l.lanes l.did,
      all_by_many s records told first next (suc i) callers ps hs ms gs cs (other_columns rows) ne numbered.3 within f.1 (l.others_size ∙ size) l.others j.3,
    )
all_by_many s records told first next i callers [] (h ∷ hs) ms gs cs rows ne numbered within f size a j = absurd f
all_by_many s records told first next i callers [] [] (m ∷ ms) gs cs rows ne numbered within f size a j = absurd f
all_by_many s records told first next i callers [] [] [] (g ∷ gs) cs rows ne numbered within f size a j = absurd j
all_by_many s records told first next i callers [] [] [] [] (c ∷ cs) rows ne numbered within f size a j = absurd f
all_by_many s records told first next i callers (p ∷ ps) [] ms gs cs rows ne numbered within f size a j = absurd f
all_by_many s records told first next i callers (p ∷ ps) (h ∷ hs) [] gs cs rows ne numbered within f size a j = absurd f
all_by_many s records told first next i callers (p ∷ ps) (h ∷ hs) (m ∷ ms) [] cs rows ne numbered within f size a j = absurd j
all_by_many s records told first next i callers (p ∷ ps) (h ∷ hs) (m ∷ ms) (g ∷ gs) [] rows ne numbered within f size a j = absurd f

all_done : (s : Setting) (records : List Record) (first next : ℕ) (hs gs : List (List Event)) (r : Round) → IsFit s records r.ports first next → (d : RoundDone s records first next hs gs r) → AllDone s records r.ports first next 0 (ports_of s.policy) hs gs d.firsts d.laters
all_done s records first next hs gs r fit d = by d.laters d.laters_done
  where
    by : (laters : List (List Call)) → Rest s records r.ports first next d.middles gs laters → AllDone s records r.ports first next 0 (ports_of s.policy) hs gs d.firsts laters
    by laters (One e l) = all_by_one s records r.ports first next 0 (ports_of s.policy) hs d.middles gs d.firsts laters d.firsts_done l
    by laters (Many ne rows size a j is) = subst (λ w. AllDone s records r.ports first next 0 (ports_of s.policy) hs gs d.firsts w) (sym is)
        (all_by_many s records r.ports first next 0 (16 + length s.policy.controllers) (ports_of s.policy) hs d.middles gs d.firsts rows ne fit.numbered fit.within d.firsts_done size a j)

-- ---- what is told

pub record AreTold (s : Setting) (records : List Record) (told : List PortRound) (first next i : ℕ) (ps : List PortSeen) (hs gs : List (List Event)) (rs : List PortRound) : Type 0 where
  pub are : ArePortRounds s records told first next i ps gs rs
  pub right : AreHistories ps gs
  pub begin : AllBegin hs gs
  pub before : map (λ r. r.before) rs ≡ map length hs
  pub after : map (λ r. r.after) rs ≡ map length gs

are_told : (s : Setting) (records : List Record) (told : List PortRound) (first next i : ℕ) (ps : List PortSeen) (hs gs : List (List Event)) (cs ds : List (List Call)) → AllDone s records told first next i ps hs gs cs ds → AreTold s records told first next i ps hs gs (ports_told ps hs gs cs ds)
are_told s records told first next i [] [] [] [] [] w = record { are = tt; right = tt; begin = tt; before = refl; after = refl }
are_told s records told first next i (p ∷ ps) (h ∷ hs) (g ∷ gs) (c ∷ cs) (d ∷ ds) w =
    let rest = are_told s records told first next (suc i) ps hs gs cs ds w.1 in record {
      are = (port_is_round s.workers p h g (jobs_of s records told first next i p.number) c d w.0, rest.are);
      right = (w.0.last_phase.right, rest.right);
      begin = (prefix_trans h w.0.middle g w.0.first_phase.grows w.0.last_phase.grows, rest.begin);
      before = ap (λ v. length h ∷ v) rest.before;
      after = ap (λ v. length g ∷ v) rest.after;
    }
are_told s records told first next i [] (h ∷ hs) gs cs ds w = absurd w
are_told s records told first next i [] [] (g ∷ gs) cs ds w = absurd w
are_told s records told first next i [] [] [] (c ∷ cs) ds w = absurd w
are_told s records told first next i [] [] [] [] (d ∷ ds) w = absurd w
are_told s records told first next i (p ∷ ps) [] gs cs ds w = absurd w
are_told s records told first next i (p ∷ ps) (h ∷ hs) [] cs ds w = absurd w
are_told s records told first next i (p ∷ ps) (h ∷ hs) (g ∷ gs) [] ds w = absurd w
are_told s records told first next i (p ∷ ps) (h ∷ hs) (g ∷ gs) (c ∷ cs) [] w = absurd w

pub round_is_told : (s : Setting) (records : List Record) (first next : ℕ) (hs gs : List (List Event)) (r : Round) → IsFit s records r.ports first next → RoundDone s records first next hs gs r → AreTold s records r.ports first next 0 (ports_of s.policy) hs gs r.ports
round_is_told s records first next hs gs r fit d = subst (AreTold s records r.ports first next 0 (ports_of s.policy) hs gs) (sym d.ports) (are_told s records r.ports first next 0 (ports_of s.policy) hs gs d.firsts d.laters (all_done s records first next hs gs r fit d))

-- ---- a run

record RoundsTold (s : Setting) (records : List Record) (hs : List (List Event)) (cuts : List ℕ) (gs : List (List Event)) (rounds : List Round) : Type 0 where
  are : AreRoundsAt s records gs cuts rounds
  right : AreHistories (ports_of s.policy) gs
  begin : AllBegin hs gs
  chained : AreChained (map length hs) rounds (map length gs)

rounds_told : (s : Setting) (records : List Record) (hs : List (List Event)) (cuts : List ℕ) (gs : List (List Event)) (rounds : List Round) → ((told : List PortRound) (first next : ℕ) → IsFit s records told first next) → AreHistories (ports_of s.policy) hs → RunDone s records hs cuts gs rounds → RoundsTold s records hs cuts gs rounds
rounds_told s records hs [] gs [] fit right d = record { are = tt; right = subst (AreHistories (ports_of s.policy)) (sym d) right; begin = subst (AllBegin hs) (sym d) (begin_self hs); chained = ap (map length) d }
rounds_told s records hs (cut ∷ cuts) gs (r ∷ rs) fit right d =
    let next = end_before cuts (length records) in
    let ms = d.0 in
    let one = round_is_told s records cut next hs ms r (fit r.ports cut next) d.1 in
    let rest = rounds_told s records ms cuts gs rs fit one.right d.2 in record {
      are = (record { first_is = d.1.first_is; loose = d.1.loose; ports = ports_later s records r.ports cut next 0 (ports_of s.policy) ms gs r.ports rest.begin one.are }, rest.are);
      right = rest.right;
      begin = begin_trans hs ms gs one.begin rest.begin;
      chained = (one.before, subst (λ w. AreChained w rs (map length gs)) (sym one.after) rest.chained);
    }
rounds_told s records hs [] gs (r ∷ rs) fit right d = absurd d
rounds_told s records hs (cut ∷ cuts) gs [] fit right d = absurd d

pub run_is_told : RunIsTold
run_is_told s records cuts rounds gs served apart d =
    let t = rounds_told s records (map (λ p. []) (ports_of s.policy)) cuts gs rounds (λ told first next. fit_of s records told first next served apart) (none_yet (ports_of s.policy)) d in
    (record { histories = gs; right = t.right; are = t.are; chained = subst (λ w. AreChained w rounds (map length gs)) (no_counts (ports_of s.policy)) t.chained }, t.right)
