-- What callers did that hand packets on at once is what the round's own lines ask for.
use Rattle.std.proofs.Common.{◌≡◌, ◌≤◌, ◌==◌, ℕ, suc, Bool, true, false, if◌then◌else◌, List, [], ◌∷◌, ◌++◌, map, get_or, refl, ap, sym, ◌∙◌, subst, arith, append_assoc}
use Rattle.vsw_pcap.specs.declared.capture.Record.{Record}
use Rattle.vsw_policy.specs.Sound.{Each}
use Rattle.vsw_port.specs.declared.event.Event.{Event}
use Rattle.vsw_port.specs.Calls.{Call, job_doer}
use Rattle.vsw_port.specs.Order.{numbered}
use Rattle.vsw_policy.specs.Layers.{place_of}
use Rattle.vsw_promise.specs.Jobs.{Placed, Setting, fates_told, macs_of, placed_packets}
use Rattle.vsw_many.specs.Dealing.{deal, numbers_of, placed_lines}
use Rattle.vsw_promise.specs.Ports.{PortSeen, ports_of}
use Rattle.vsw_promise.proofs.Handed.{packets_untold}
use Rattle.vsw_report.specs.declared.round.PortRound.{PortRound}
use Rattle.vsw_history_law.specs.Plain.{IsAsk}
use Rattle.vsw_history_law.proofs.Agrees.{is_job}
use Rattle.vsw_history_law.proofs.OneLine.{count, count_append}
use Rattle.vsw_history_law.proofs.Reports.{each_filter}
use Rattle.vsw_many.specs.Phases.{Lane}
use Rattle.vsw_many.specs.Actors.{AreRows, HasWorked}
use Rattle.vsw_many.specs.Rounds.{calls_by_port, ports_told}
use Rattle.vsw_many.specs.Turns.{append_each, placed_before}
use Rattle.vsw_many.specs.Crew.{callers_in, jobs_beside}
use Rattle.vsw_hairpin.specs.Handing.{AreHandedRows, HaveHanded, locals_of, told_of, with_hops}
use Rattle.vsw_hairpin.specs.Law.{RowsHandOn, TurnsHandOn, own_jobs}
use Rattle.vsw_hairpin.proofs.Told.{AllShared, told_once}
use Rattle.vsw_hairpin.proofs.Hops.{ask_hands_none, hops_few, none_handed}
use Rattle.vsw_hairpin.proofs.Dealt.{TellsOnce, jobs_done, kept}
use Rattle.vsw_hairpin.proofs.Columns.{IsWithin, asked_none, asks, done_by, gone_shared, handed_within, own_few, row_within, rows_shared, rows_worked, together_few, told_joined}

-- ---- where no packet is handed on

plain_jobs : (s : Setting) (told : List PortRound) (first : ℕ) (packets : List Record) → s.local ≡ false → placed_packets s.workers s.local (macs_of s.policy) told (numbered first packets) ≡ own_jobs s first packets
plain_jobs s told first packets e =
    packets_untold s.workers s.local (macs_of s.policy) told [] (numbered first packets) e ∙ ap (λ local. placed_packets s.workers local (macs_of s.policy) [] (numbered first packets)) e

plain_locals : (s : Setting) → s.local ≡ false → locals_of s ≡ []
plain_locals s e = ap (λ local. if local then macs_of s.policy else []) e

pub plain_rows : (cs : List ℕ) (all : List Placed) (k : ℕ) (ps : List PortSeen) (hs gs : List (List Event)) (rows : List (List Lane)) (hops : List (List (List Placed))) → AreHandedRows [] cs all k ps hs gs rows hops → AreRows cs all 0 k ps hs gs rows
plain_rows cs all k ps hs gs [] [] a = tt
plain_rows cs all k ps hs gs (row ∷ rows) (h ∷ hops) a = (subst (HasWorked 0 k ps hs gs row) (none_handed (map (λ l. l.track.calls) row) (deal cs k all) h a.1) a.0, plain_rows cs all (suc k) ps hs gs rows hops a.2)
plain_rows cs all k ps hs gs [] (h ∷ hops) a = absurd a
plain_rows cs all k ps hs gs (row ∷ rows) [] a = absurd a

-- commands hand nothing on, so callers of commands alone did these
asked_plain : (macs : List ℕ) (calls : List (List Call)) (js : List Placed) (hops : List (List Placed)) → Each (λ t. IsAsk t.1) js → HaveHanded macs calls js hops → with_hops js hops ≡ js
asked_plain macs calls [] hops a e = refl
asked_plain macs calls (j ∷ js) [] a e = absurd e
asked_plain macs calls (j ∷ js) (h ∷ hops) a e =
    let none : h ≡ [] = e.0.hops_are ∙ ask_hands_none macs j.0 e.0.call.deed j.1 e.0.job a.0 in
    ap (λ w. j ∷ (w ++ with_hops js hops)) none ∙ ap (λ w. j ∷ w) (asked_plain macs calls js hops a.1 e.1)

pub asked_rows : (macs cs : List ℕ) (all : List Placed) (k : ℕ) (ps : List PortSeen) (hs gs : List (List Event)) (rows : List (List Lane)) (hops : List (List (List Placed))) → Each (λ t. IsAsk t.1) all → AreHandedRows macs cs all k ps hs gs rows hops
    → AreRows cs all 0 k ps hs gs rows
asked_rows macs cs all k ps hs gs [] [] a e = tt
asked_rows macs cs all k ps hs gs (row ∷ rows) (h ∷ hops) a e =
    (subst (HasWorked 0 k ps hs gs row) (asked_plain macs (map (λ l. l.track.calls) row) (deal cs k all) h (each_filter (λ t. IsAsk t.1) (λ t. job_doer cs t.1 == k) all a) e.1) e.0, asked_rows macs cs all (suc k) ps hs gs rows hops a e.2)
asked_rows macs cs all k ps hs gs [] (h ∷ hops) a e = absurd e
asked_rows macs cs all k ps hs gs (row ∷ rows) [] a e = absurd e

-- ---- where they are

local_jobs : (s : Setting) (told : List PortRound) (first : ℕ) (packets : List Record) → s.local ≡ true → placed_packets s.workers true (macs_of s.policy) told (numbered first packets) ≡ placed_packets s.workers s.local (macs_of s.policy) told (numbered first packets)
local_jobs s told first packets e = ap (λ local. placed_packets s.workers local (macs_of s.policy) told (numbered first packets)) (sym e)

local_macs : (s : Setting) → s.local ≡ true → locals_of s ≡ macs_of s.policy
local_macs s e = ap (λ local. if local then macs_of s.policy else []) e

tells_once : (ps : List PortSeen) (hs gs : List (List Event)) (calls : List (List Call)) (told : List PortRound) → told ≡ told_of ps hs gs calls → AllShared ps hs gs calls → TellsOnce told calls
tells_once ps hs gs calls told is shared i front back call x p at job low = ap (λ t. fates_told t i x.packet) is ∙ told_once ps hs gs calls i front back call x p shared at job low

-- ---- one thread

all_kept : (cs : List ℕ) (js : List Placed) → kept cs (λ k. true) js ≡ js
all_kept cs [] = refl
all_kept cs (j ∷ js) = ap (λ w. j ∷ w) (all_kept cs js)

pub turns_hand_on : TurnsHandOn
turns_hand_on s first packets hs gs asked hops calls least most a gone handed = by s.local refl
  where
    ps : List PortSeen
    ps = ports_of s.policy

    macs : List ℕ
    macs = macs_of s.policy

    own : List Placed
    own = own_jobs s first packets

    told : List PortRound
    told = told_of (ports_of s.policy) hs gs calls

    shared : AllShared (ports_of s.policy) hs gs calls
    shared = gone_shared 0 (ports_of s.policy) asked (with_hops (own_jobs s first packets) hops) hs gs calls a
        (λ n i. omega (arith, hops_few (locals_of s) calls n i (own_jobs s first packets) hops handed, own_few s.workers n first (macs_of s.policy) packets)) gone

    by : (local : Bool) → s.local ≡ local → with_hops (own_jobs s first packets) hops ≡ placed_packets s.workers s.local (macs_of s.policy) (told_of (ports_of s.policy) hs gs calls) (numbered first packets)
    by false e = none_handed calls own hops (subst (λ m. HaveHanded m calls own hops) (plain_locals s e) handed) ∙ sym (plain_jobs s told first packets e)
    by true e =
        let cs : List ℕ = [] in
        let q : ℕ → Bool = λ k. true in
        let same : kept cs q own ≡ own = all_kept cs own in
        let done = jobs_done macs cs q s.workers told calls least most (tells_once ps hs gs calls told refl shared) [] (numbered first packets) hops tt
        (subst (λ js. HaveHanded macs calls js hops) (sym same) (subst (λ m. HaveHanded m calls own hops) (local_macs s e) handed)) in
        ap (λ js. with_hops js hops) (sym same) ∙ (done ∙ (all_kept cs (placed_packets s.workers true macs told (numbered first packets)) ∙ local_jobs s told first packets e))

-- ---- callers beside each other

pub rows_hand_on : RowsHandOn
rows_hand_on s first packets hs ms gs firsts rows hops served apart turns journals size handed = by s.local refl
  where
    ps : List PortSeen
    ps = ports_of s.policy

    cs : List ℕ
    cs = s.policy.controllers

    macs : List ℕ
    macs = macs_of s.policy

    before : List Placed
    before = placed_before (numbers_of s.policy) s.commands first

    lines : List Placed
    lines = placed_lines (numbers_of s.policy) s.commands first

    all : List Placed
    all = placed_lines (numbers_of s.policy) s.commands first ++ own_jobs s first packets

    total : List (List Call)
    total = append_each firsts (calls_by_port (ports_of s.policy) rows)

    told : List PortRound
    told = ports_told (ports_of s.policy) hs gs firsts (calls_by_port (ports_of s.policy) rows)

    full : List Placed
    full = lines ++ placed_packets s.workers true (macs_of s.policy) told (numbered first packets)

    lines_asked : Each (λ t. IsAsk t.1) lines
    lines_asked = asks (λ l. place_of l.port (numbers_of s.policy)) _

    few : (n : ℕ) → count (λ (t : Placed). is_job n t.1) all ≤ 1
    few n = omega (arith, count_append (λ (t : Placed). is_job n t.1) lines (own_jobs s first packets), asked_none n lines lines_asked, own_few s.workers n first macs packets)

    shared : AllShared ps hs gs total
    shared = rows_shared (callers_in s) 0 before ps hs ms gs firsts rows (done_by cs all 0 hops) (asks (λ l. place_of l.port (numbers_of s.policy)) _) turns (rows_worked (locals_of s) cs all 0 ps ms gs rows hops handed) size journals
        (λ n i. omega (arith, together_few (locals_of s) cs n i 0 all all ps ms gs rows hops (λ j le. refl) handed, few n))

    tells : TellsOnce told total
    tells = tells_once ps hs gs total told (told_joined ps hs gs firsts (calls_by_port ps rows)) shared

    -- the callers from one on, of all
    go : (a more : List (List Lane)) (k : ℕ) (hops : List (List (List Placed))) → rows ≡ a ++ more → AreHandedRows macs cs all k ps ms gs more hops → AreRows cs full 0 k ps ms gs more
    go a [] k [] is h = tt
    go a (row ∷ more) k (g ∷ hops) is h =
        let within = λ (i : ℕ). subst (λ w. IsWithin (get_or (map (λ l. l.track.calls) row) i []) (get_or (append_each firsts (calls_by_port ps w)) i [])) (sym is) (row_within 0 k i before ps hs ms gs firsts a row more (with_hops (deal cs k all) g) turns h.0) in
        let mine = handed_within macs (map (λ l. l.track.calls) row) total (deal cs k all) g within h.1 in
        let done : with_hops (deal cs k all) g ≡ deal cs k full = jobs_done macs cs (λ d. d == k) s.workers told total served.least served.most tells lines (numbered first packets) g lines_asked mine in
        (subst (HasWorked 0 k ps ms gs row) done h.0, go (a ++ row ∷ []) more (suc k) hops (is ∙ sym (append_assoc a (row ∷ []) more)) h.2)
    go a [] k (g ∷ hops) is h = absurd h
    go a (row ∷ more) k [] is h = absurd h

    by : (local : Bool) → s.local ≡ local → AreRows s.policy.controllers (jobs_beside s told first packets) 0 0 (ports_of s.policy) ms gs rows
    by false e = subst (λ w. AreRows cs (lines ++ w) 0 0 ps ms gs rows) (sym (plain_jobs s told first packets e)) (plain_rows cs all 0 ps ms gs rows hops (subst (λ m. AreHandedRows m cs all 0 ps ms gs rows hops) (plain_locals s e) handed))
    by true e = subst (λ w. AreRows cs (lines ++ w) 0 0 ps ms gs rows) (local_jobs s told first packets e) (go [] rows 0 hops refl (subst (λ m. AreHandedRows m cs all 0 ps ms gs rows hops) (local_macs s e) handed))
