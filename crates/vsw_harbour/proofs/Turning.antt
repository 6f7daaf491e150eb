-- Jobs of one caller after the other are done in turn at the ports of a run.
use Rattle.std.proofs.Common.{◌≡◌, ◌<◌, ◌+◌, ◌++◌, ◌==◌, ◌&&◌, ◌∷◌, [], ℕ, suc, List, Bool, true, false, not, Some, length, map, filter, slice_get, if◌then◌else◌, subst, refl, ap, sym, ◌∙◌, arith, append_assoc}
use Rattle.std.proofs.lemmas.Option.{slice_get_within}
use Rattle.vsw_dock.specs.Lane.{Lane}
use Rattle.vsw_commandfile.specs.declared.line.Line.{Line}
use Rattle.vsw_many.specs.Turns.{append_each, placed_before}
use Rattle.vsw_many.proofs.Turns.{journals_end, journals_join, one_caller_turns, turns_begin, turns_join}
use Rattle.vsw_dock.proofs.Steps.{place_within}
use Rattle.vsw_dock.specs.Docks.{port_in}
use Rattle.vsw_dock.specs.Seen.{DockSeen, StationSeen}
use Rattle.vsw_port.specs.Calls.{Ask, Call, calls_of, controller_at, job_doer}
use Rattle.vsw_port.specs.declared.event.Event.{Event}
use Rattle.vsw_port.proofs.Fronts.{append_end}
use Rattle.vsw_dock.specs.Actors.{AreRows}
use Rattle.vsw_dock.specs.Rounds.{AreJournals, calls_by_port}
use Rattle.vsw_policy.specs.Sound.{Each}
use Rattle.vsw_promise.specs.Ports.{PortSeen, ports_of}
use Rattle.vsw_policy.specs.Layers.{place_of}
use Rattle.vsw_promise.specs.Jobs.{Placed, Setting}
use Rattle.vsw_many.specs.Dealing.{numbers_of}
use Rattle.vsw_promise.specs.Schedule.{commands_at}
use Rattle.vsw_harbour.specs.Harbour.{AreLike, HarbourSeen, IsOfRun, MayAsk, callers, locals_in, ports_in}
use Rattle.vsw_harbour.specs.Standing.{RowStands, RowsStand, Stands}
use Rattle.vsw_harbour.specs.Steps.{AreAt, AsksTurned, Did, PlacesTurned, Turned, asks_before, placed_ask}
use Rattle.vsw_dock.proofs.HopLaws.{asked_rows}
use Rattle.vsw_dock.specs.Plain.{IsAsk}
use Rattle.vsw_harbour.proofs.Likes.{calls_like, journals_like, numbers_like, rows_like}

-- ---- no jobs

calls_stay : (k : ℕ) (ps : List PortSeen) (ds : List DockSeen) (hs : List (List Event)) (calls : List (List Call)) (row : List (Lane StationSeen)) → AreLike ps ds → RowStands k ds hs calls row → RowStands k ds hs (append_each calls (map (λ p. []) ps)) row
calls_stay k [] [] [] [] [] a s = tt
calls_stay k (p ∷ ps) (d ∷ ds) (h ∷ hs) (c ∷ cs) (l ∷ ls) a s =
    (subst (λ w. Stands k d h (calls_of (port_in d).controllers k w) l) (sym (append_end c)) s.0, calls_stay k ps ds hs cs ls a.1 s.1)
calls_stay k [] [] [] [] (l ∷ ls) a s = absurd s
calls_stay k [] [] [] (c ∷ cs) ls a s = absurd s
calls_stay k [] [] (h ∷ hs) cs ls a s = absurd s
calls_stay k [] (d ∷ ds) hs cs ls a s = absurd a
calls_stay k (p ∷ ps) [] hs cs ls a s = absurd a
calls_stay k (p ∷ ps) (d ∷ ds) [] cs ls a s = absurd s
calls_stay k (p ∷ ps) (d ∷ ds) (h ∷ hs) [] ls a s = absurd s
calls_stay k (p ∷ ps) (d ∷ ds) (h ∷ hs) (c ∷ cs) [] a s = absurd s

rows_stay : (k : ℕ) (ps : List PortSeen) (ds : List DockSeen) (hs : List (List Event)) (calls : List (List Call)) (rows : List (List (Lane StationSeen))) → AreLike ps ds → RowsStand k ds hs calls rows → RowsStand k ds hs (append_each calls (map (λ p. []) ps)) rows
rows_stay k ps ds hs calls [] a s = tt
rows_stay k ps ds hs calls (r ∷ rs) a s = (calls_stay k ps ds hs calls r a s.0, rows_stay (suc k) ps ds hs calls rs a s.1)

pub turned_none : (h : HarbourSeen) (s : Setting) (hs : List (List Event)) (calls : List (List Call)) (rows : List (List (Lane StationSeen))) → IsOfRun h s → AreJournals (callers h) (ports_of s.policy) hs hs → RowsStand 0 h.docks hs calls rows → Turned h s hs calls [] rows
turned_none h s hs calls rows r j x = record {
  histories = hs;
  more = map (λ p. []) (ports_of s.policy);
  turns = turns_begin (callers h) 0 (ports_of s.policy) hs j;
  journals = j;
  stand = rows_stay 0 (ports_of s.policy) h.docks hs calls rows r.ports x;
}

-- ---- one caller's jobs, and two stretches

-- one caller's jobs were done in turn
pub turned_one : (h : HarbourSeen) (s : Setting) (hs : List (List Event)) (calls : List (List Call)) (jobs : List Placed) (k : ℕ) (met : List (List (Lane StationSeen))) → IsOfRun h s → Each (λ t. job_doer h.controllers t.1 ≡ k) jobs → Each (λ t. IsAsk t.1) jobs → k < callers h → Did h hs calls jobs met → Turned h s hs calls jobs met
turned_one h s hs calls jobs k met r who asked lt d =
    let ps = ports_of s.policy in
    let cs : h.controllers ≡ s.policy.controllers = sym r.controllers in
    let plain : AreRows h.controllers jobs 0 0 (ports_in h.docks) hs d.histories d.rows = asked_rows (locals_in h.docks) h.controllers jobs 0 (ports_in h.docks) hs d.histories d.rows d.hops asked d.done in
    let done : AreRows s.policy.controllers jobs 0 0 ps hs d.histories d.rows = subst (λ c. AreRows c jobs 0 0 ps hs d.histories d.rows) cs (rows_like h.controllers jobs 0 ps h.docks hs d.histories d.rows r.ports plain) in
    let journals : AreJournals (callers h) ps hs d.histories = journals_like (callers h) ps h.docks hs d.histories r.ports d.journals in
    let all : callers h ≡ 16 + length s.policy.controllers = ap (λ c. 16 + length c) cs in record {
      histories = d.histories;
      more = calls_by_port ps d.rows;
      turns = one_caller_turns s jobs k hs d.histories d.rows (subst (λ c. Each (λ t. job_doer c t.1 ≡ k) jobs) cs who) (omega (arith, lt, all)) (d.size ∙ all) done (subst (λ n. AreJournals n ps hs d.histories) all journals);
      journals = journals;
      stand = subst (λ c. RowsStand 0 h.docks d.histories (append_each calls c) met) (sym (calls_like ps h.docks d.rows r.ports)) d.stand;
    }

each_assoc : (xs ys zs : List (List Call)) → append_each (append_each xs ys) zs ≡ append_each xs (append_each ys zs)
each_assoc [] ys zs = refl
each_assoc (x ∷ xs) [] zs = refl
each_assoc (x ∷ xs) (y ∷ ys) [] = refl
each_assoc (x ∷ xs) (y ∷ ys) (z ∷ zs) = λ i. append_assoc x y z i ∷ each_assoc xs ys zs i

turned_join : (h : HarbourSeen) (s : Setting) (hs : List (List Event)) (calls : List (List Call)) (jobs more : List Placed) (mids met : List (List (Lane StationSeen))) → (t : Turned h s hs calls jobs mids) → Turned h s t.histories (append_each calls t.more) more met → Turned h s hs calls (jobs ++ more) met
turned_join h s hs calls jobs more mids met t u = record {
  histories = u.histories;
  more = append_each t.more u.more;
  turns = turns_join 0 (ports_of s.policy) jobs more hs t.histories u.histories t.more u.more t.turns u.turns;
  journals = journals_join (callers h) (ports_of s.policy) hs t.histories u.histories t.journals u.journals;
  stand = subst (λ c. RowsStand 0 h.docks u.histories c met) (each_assoc calls t.more u.more) u.stand;
}

-- ---- commands

asks_none : (ds : List DockSeen) (l : Line) → l.during ≡ true → asks_before ds (l ∷ []) ≡ []
asks_none ds l e = ap (λ b. map (placed_ask ds) (if not b then l ∷ [] else [])) e

asks_one : (ds : List DockSeen) (l : Line) → l.during ≡ false → asks_before ds (l ∷ []) ≡ placed_ask ds l ∷ []
asks_one ds l e = ap (λ b. map (placed_ask ds) (if not b then l ∷ [] else [])) e

asks_more : (ds : List DockSeen) (l : Line) (ls : List Line) → asks_before ds (l ∷ ls) ≡ asks_before ds (l ∷ []) ++ asks_before ds ls
asks_more ds l ls = by l.during
  where
    by : (b : Bool) → map (placed_ask ds) (if not b then l ∷ filter (λ l. not l.during) ls else filter (λ l. not l.during) ls) ≡ map (placed_ask ds) (if not b then l ∷ [] else []) ++ asks_before ds ls
    by true = refl
    by false = refl

-- a command that runs beside the packets isn't asked
pub during_turned : (h : HarbourSeen) (l : Line) (rows : List (List (Lane StationSeen))) → l.during ≡ true → AsksTurned h (l ∷ []) rows rows
during_turned h l rows e s hs calls r j x = subst (λ w. Turned h s hs calls w rows) (sym (asks_none h.docks l e)) (turned_none h s hs calls rows r j x)

-- another one is
pub before_turned : (h : HarbourSeen) (l : Line) (rows met : List (List (Lane StationSeen))) → l.during ≡ false → MayAsk h l
    → ((hs : List (List Event)) (calls : List (List Call)) → RowsStand 0 h.docks hs calls rows → Did h hs calls (placed_ask h.docks l ∷ []) met) → AsksTurned h (l ∷ []) rows met
before_turned h l rows met e may did s hs calls r j x =
    let within = place_within h.controllers l.controller may.controller in
    let lt : controller_at h.controllers l.controller < callers h = omega (arith, within) in
    subst (λ w. Turned h s hs calls w met) (sym (asks_one h.docks l e)) (turned_one h s hs calls (placed_ask h.docks l ∷ []) (controller_at h.controllers l.controller) met r (refl, tt) (tt, tt) lt (did hs calls x))

-- no commands, and one and then the others
pub none_turned : (h : HarbourSeen) (rows : List (List (Lane StationSeen))) → AsksTurned h [] rows rows
none_turned h rows s hs calls r j x = turned_none h s hs calls rows r j x

pub more_turned : (h : HarbourSeen) (l : Line) (ls : List Line) (rows mids met : List (List (Lane StationSeen))) → AsksTurned h (l ∷ []) rows mids → AsksTurned h ls mids met → AsksTurned h (l ∷ ls) rows met
more_turned h l ls rows mids met one rest s hs calls r j x =
    let t = one s hs calls r j x in
    let u = rest s t.histories (append_each calls t.more) r (journals_end (callers h) (ports_of s.policy) hs t.histories t.journals) t.stand in
    subst (λ w. Turned h s hs calls w met) (sym (asks_more h.docks l ls)) (turned_join h s hs calls (asks_before h.docks (l ∷ [])) (asks_before h.docks ls) mids met t u)

-- ---- commands at places of the file

-- the first place is that of the first command
pub record FirstAt (lines : List Line) (place : ℕ) (places : List ℕ) (cs : List Line) : Type 0 where
  pub line : Line
  pub others : List Line
  pub is : cs ≡ line ∷ others
  pub at : slice_get lines place ≡ Some line
  pub later : AreAt lines places others

first_at : (lines : List Line) (place : ℕ) (places : List ℕ) (cs : List Line) → AreAt lines (place ∷ places) cs → FirstAt lines place places cs
first_at lines place places [] a = absurd (cc a)
first_at lines place places (l ∷ ls) a =
    let at : slice_get lines place ≡ Some l = cc a in
    let later : AreAt lines places ls = cc a in
    record { line = l; others = ls; is = refl; at = at; later = later }

pub first_of_places : (lines : List Line) (place : ℕ) (later places : List ℕ) (cs : List Line) → places ≡ place ∷ later → AreAt lines places cs → FirstAt lines place later cs
first_of_places lines place later places cs e a = first_at lines place later cs (subst (λ (w : List ℕ). AreAt lines w cs) e a)

pub first_within : (lines : List Line) (place : ℕ) (later places : List ℕ) (cs : List Line) → places ≡ place ∷ later → AreAt lines places cs → place < length lines
first_within lines place later places cs e a = let f = first_of_places lines place later places cs e a in slice_get_within lines place f.line f.at

pub later_places : (lines : List Line) (place : ℕ) (later places : List ℕ) → places ≡ place ∷ later → (cs : List Line) × AreAt lines places cs → (cs : List Line) × AreAt lines later cs
later_places lines place later places e a = let f = first_of_places lines place later places a.0 e a.1 in (f.others, f.later)

no_commands : (lines : List Line) (places : List ℕ) (cs : List Line) → length places ≡ 0 → AreAt lines places cs → cs ≡ []
no_commands lines [] [] e a = refl
no_commands lines [] (c ∷ cs) e a = absurd (cc a)
no_commands lines (p ∷ ps) cs e a = absurd (omega (arith, e))

pub no_places : (h : HarbourSeen) (lines : List Line) (places : List ℕ) (rows : List (List (Lane StationSeen))) → length places ≡ 0 → PlacesTurned h lines places rows rows
no_places h lines places rows e cs s hs calls a r j x = subst (λ (w : List Line). Turned h s hs calls (asks_before h.docks w) rows) (sym (no_commands lines places cs e a)) (none_turned h rows s hs calls r j x)

pub more_places : (h : HarbourSeen) (lines : List Line) (place : ℕ) (later places : List ℕ) (l : Line) (rows mids met : List (List (Lane StationSeen))) → places ≡ place ∷ later → slice_get lines place ≡ Some l
    → AsksTurned h (l ∷ []) rows mids → PlacesTurned h lines later mids met → PlacesTurned h lines places rows met
more_places h lines place later places l rows mids met e here one rest cs s hs calls a r j x =
    let f = first_of_places lines place later places cs e a in
    let same : f.line ≡ l = cc (f.at, here) in
    let begin : AsksTurned h (f.line ∷ []) rows mids = subst (λ w. AsksTurned h (w ∷ []) rows mids) (sym same) one in
    let all : Turned h s hs calls (asks_before h.docks (f.line ∷ f.others)) met = more_turned h f.line f.others rows mids met begin (λ s hs calls r j x. rest f.others s hs calls f.later r j x) s hs calls r j x in
    subst (λ (w : List Line). Turned h s hs calls (asks_before h.docks w) met) (sym f.is) all

-- ---- the commands of a round

-- of the packet's commands those before it, and its commands before it
if_both : {A : Type 0} (a b : Bool) (x : A) (xs ys : List A) → xs ≡ ys → (if a then (if b then x ∷ xs else xs) else xs) ≡ (if a && b then x ∷ ys else ys)
if_both true true x xs ys e = ap (λ w. x ∷ w) e
if_both true false x xs ys e = e
if_both false b x xs ys e = e

filter_if : (a : Bool) (l : Line) (ls : List Line) → filter (λ l. not l.during) (if a then l ∷ ls else ls) ≡ (if a then (if not l.during then l ∷ filter (λ l. not l.during) ls else filter (λ l. not l.during) ls) else filter (λ l. not l.during) ls)
filter_if true l ls = refl
filter_if false l ls = refl

filter_both : (first : ℕ) (ls : List Line) → filter (λ l. not l.during) (commands_at first ls) ≡ filter (λ l. (l.at == first) && not l.during) ls
filter_both first [] = refl
filter_both first (l ∷ ls) =
    filter_if (l.at == first) l (commands_at first ls) ∙ if_both (l.at == first) (not l.during) l (filter (λ l. not l.during) (commands_at first ls)) (filter (λ l. (l.at == first) && not l.during) ls) (filter_both first ls)

asks_placed : (h : HarbourSeen) (s : Setting) (first : ℕ) (lines : List Line) → IsOfRun h s → asks_before h.docks (commands_at first lines) ≡ placed_before (numbers_of s.policy) lines first
asks_placed h s first lines r =
    let numbers : map (λ d. d.number) h.docks ≡ numbers_of s.policy = sym (numbers_like (ports_of s.policy) h.docks r.ports) in
    ap (map (placed_ask h.docks)) (filter_both first lines) ∙ ap (λ ns. map (λ l. (place_of l.port ns, Ask l)) (filter (λ l. (l.at == first) && not l.during) lines)) numbers

pub round_turned : (h : HarbourSeen) (lines : List Line) (first : ℕ) (places : List ℕ) (rows met : List (List (Lane StationSeen))) → AreAt lines places (commands_at first lines) → PlacesTurned h lines places rows met
    → (s : Setting) (hs : List (List Event)) (calls : List (List Call)) → s.commands ≡ lines → IsOfRun h s → AreJournals (callers h) (ports_of s.policy) hs hs → RowsStand 0 h.docks hs calls rows → Turned h s hs calls (placed_before (numbers_of s.policy) s.commands first) met
round_turned h lines first places rows met at turned s hs calls e r j x =
    let jobs : asks_before h.docks (commands_at first lines) ≡ placed_before (numbers_of s.policy) s.commands first = asks_placed h s first lines r ∙ ap (λ w. placed_before (numbers_of s.policy) w first) (sym e) in
    subst (λ w. Turned h s hs calls w met) jobs (turned (commands_at first lines) s hs calls at r j x)
