-- The rounds that are worked out tell of no want of memory.
use Rattle.std.proofs.Common.{◌≡◌, ◌≢◌, ◌-◌, ℕ, suc, Bool, true, false, if◌then◌else◌, nat_le, List, [], ◌∷◌, length, map, Option, Some, None, refl}
use Rattle.std.specs.List.{list_any}
use Rattle.vsw_port.specs.declared.stop.Stop.{Stop}
use Rattle.vsw_port.specs.declared.stop.Stop.TheVariants as stop
use Rattle.vsw_port.specs.Admit.{stop_of, on_pass, refusal, refused_at, refused, taken_by, left_in, staying}
use Rattle.vsw_port.proofs.Firsts.{of_first}
use Rattle.vsw_port.specs.Long.{is_long}
use Rattle.vsw_base.specs.declared.fate.Verdict.{Verdict}
use Rattle.vsw_base.specs.declared.fate.Verdict.TheVariants as verdict
use Rattle.vsw_base.specs.declared.flow.Crossing.{Crossing}
use Rattle.vsw_base.specs.declared.header.Header.{Header}
use Rattle.vsw_port.specs.Cross.{fate_after}
use Rattle.vsw_walk.specs.declared.scratch.Wanted.{Wanted}
use Rattle.vsw_walk.specs.Walk.{walk_of}
use Rattle.vsw_policy.specs.Layer.{LayerSeen}
use Rattle.vsw_layerflow.specs.declared.pair.Pair.{Pair}
use Rattle.vsw_layerflow.specs.Pairs.{back, holder}
use Rattle.vsw_pcap.specs.declared.capture.Record.{Record}
use Rattle.vsw_policy.specs.declared.command.Command.{Command}
use Rattle.vsw_policy.specs.declared.command.Command.TheVariants.{AddLayer, RemoveLayer, AddGroup, RemoveGroup, PutRules, PutMany, AddRule, RemoveRule, SetDefault, Sweep}
use Rattle.vsw_policy.specs.declared.refusal.Refusal.{Refusal}
use Rattle.vsw_policy.specs.declared.refusal.Refusal.TheVariants as refusal_is
use Rattle.vsw_policy.specs.Obey.{tests, first_refusal, answered}
use Rattle.vsw_policy.specs.Sound.{Each}
use Rattle.vsw_promise.specs.Ports.{PortSeen, ports_of}
use Rattle.vsw_port.specs.declared.event.Event.{Event}
use Rattle.vsw_port.specs.Calls.{Job, Carry, Ask}
use Rattle.vsw_port.specs.History.{Opening, replay, reply_in}
use Rattle.vsw_port.specs.Fate.{fate_by, fate_at}
use Rattle.vsw_report.specs.declared.told.What.TheVariants as what
use Rattle.vsw_promise.specs.Alone.{deed_at, next_history, calls_from, history_from, all_of, port_round_from, port_rounds_from, histories_from, rounds_from, rounds_alone, shown}
use Rattle.vsw_promise.specs.Jobs.{Setting, jobs_of}
use Rattle.vsw_promise.specs.Rounds.{opening_of, end_before}
use Rattle.vsw_promise.specs.Told.{line_of, what_of, in_told_order}
use Rattle.vsw_report.specs.Short.{tells_short, is_short_port, is_short_round}
use Rattle.vsw_history_law.proofs.Reports.{each_told, each_map}
use Rattle.vsw_history_law.specs.AgreementLaw.{AloneIsPlenty}

-- ---- a packet

-- a packet is stopped for another cause
abbrev NotShort : Option Stop → Type 0
NotShort None = Unit {0}
NotShort (Some s) = s ≢ stop.Memory

taken_not : (l : LayerSeen) (o : Option Pair) → NotShort (taken_by l o)
taken_not l None = tt
taken_not l (Some q) = λ e. cc e

refused_not : (l : LayerSeen) (stay : List Pair) (p : Pair) → NotShort (refused l stay p)
refused_not l stay p = by (nat_le l.spec.pairs (length stay))
  where
    by : (b : Bool) → NotShort (if b then Some (stop.Full l.controller l.spec.layer) else taken_by l (holder (back p) stay))
    by true = λ e. cc e
    by false = taken_not l (holder (back p) stay)

at_not : (o : Option LayerSeen) (left : Option ℕ) (p : Pair) → NotShort (refused_at o left p)
at_not None left p = tt
at_not (Some l) left p = refused_not l (staying left l.pairs) p

refusal_not : (ls : List LayerSeen) (ws : List Wanted) → NotShort (refusal ls ws)
refusal_not ls ws = of_first NotShort ls (λ place. left_in place ws) tt at_not ws

pass_not : (v : Verdict) (o : Option Stop) → NotShort o → NotShort (on_pass v o)
pass_not verdict.Pass o n = n
pass_not (verdict.Rule a b c d) o n = tt
pass_not (verdict.Default a b c) o n = tt

stop_not : (ls : List LayerSeen) (x : Crossing) → NotShort (stop_of ls x (walk_of ls x))
stop_not ls x = pass_not (walk_of ls x).verdict _ (by (is_long x (walk_of ls x).stack (walk_of ls x).kept))
  where
    by : (b : Bool) → NotShort (if b then Some stop.Long else refusal ls (walk_of ls x).changes)
    by true = λ e. cc e
    by false = refusal_not ls (walk_of ls x).changes

fate_not : (x : Crossing) (v : Verdict) (o : Option Stop) (hs : List Header) (kept : ℕ) (bytes : List ℕ) → NotShort o → tells_short (what.Fate (fate_by x (fate_after v o hs kept)) bytes) ≡ false
fate_not x verdict.Pass None hs kept bytes n = refl
fate_not x verdict.Pass (Some stop.Long) hs kept bytes n = refl
fate_not x verdict.Pass (Some (stop.Full a b)) hs kept bytes n = refl
fate_not x verdict.Pass (Some (stop.Taken a b c)) hs kept bytes n = refl
fate_not x verdict.Pass (Some stop.Memory) hs kept bytes n = absurd (n refl)
fate_not x (verdict.Rule a b c d) o hs kept bytes n = refl
fate_not x (verdict.Default a b c) o hs kept bytes n = refl

-- ---- a command

abbrev Fits : Option Refusal → Type 0
Fits None = Unit {0}
Fits (Some why) = why ≢ refusal_is.Memory

first_not : (ts : List (Bool × Refusal)) → Each (λ t. t.1 ≢ refusal_is.Memory) ts → Fits (first_refusal ts)
first_not [] e = tt
first_not (t ∷ ts) e = by t.0 (first_not ts e.1)
  where
    by : (b : Bool) → Fits (first_refusal ts) → Fits (if b then Some t.1 else first_refusal ts)
    by true rest = e.0
    by false rest = rest

tests_not : (ls : List LayerSeen) (c : ℕ) (m : Command) → Each (λ t. t.1 ≢ refusal_is.Memory) (tests ls c m)
tests_not ls c (AddLayer s) = (λ e. cc e, (λ e. cc e, tt))
tests_not ls c (RemoveLayer n) = (λ e. cc e, tt)
tests_not ls c (AddGroup n g dir when) = (λ e. cc e, (λ e. cc e, (λ e. cc e, tt)))
tests_not ls c (RemoveGroup n g) = (λ e. cc e, (λ e. cc e, tt))
tests_not ls c (PutRules n g rs) = (λ e. cc e, (λ e. cc e, (λ e. cc e, (λ e. cc e, tt))))
tests_not ls c (PutMany ps) = (λ e. cc e, (λ e. cc e, (λ e. cc e, (λ e. cc e, (λ e. cc e, (λ e. cc e, tt))))))
tests_not ls c (AddRule n g r) = (λ e. cc e, (λ e. cc e, (λ e. cc e, (λ e. cc e, tt))))
tests_not ls c (RemoveRule n g k) = (λ e. cc e, (λ e. cc e, (λ e. cc e, tt)))
tests_not ls c (SetDefault n dir allow) = (λ e. cc e, tt)
tests_not ls c (Sweep n now) = (λ e. cc e, tt)

reply_not : (o : Option Refusal) (ls : List LayerSeen) → Fits o → tells_short (what.Reply (reply_in (answered o ls))) ≡ false
reply_not None ls n = refl
reply_not (Some refusal_is.NoLayer) ls n = refl
reply_not (Some refusal_is.LayerExists) ls n = refl
reply_not (Some refusal_is.NoGroup) ls n = refl
reply_not (Some refusal_is.GroupExists) ls n = refl
reply_not (Some refusal_is.NoRule) ls n = refl
reply_not (Some refusal_is.RuleExists) ls n = refl
reply_not (Some refusal_is.ManyLayers) ls n = refl
reply_not (Some refusal_is.ManyGroups) ls n = refl
reply_not (Some refusal_is.ManyRules) ls n = refl
reply_not (Some refusal_is.ManyParts) ls n = refl
reply_not (Some refusal_is.PartTwice) ls n = refl
reply_not (Some refusal_is.Memory) ls n = absurd (n refl)

-- ---- rounds

deed_not : (cs : List ℕ) (ls : List LayerSeen) (j : Job) → tells_short (what_of (deed_at cs ls j)) ≡ false
deed_not cs ls (Carry x p) = fate_not x (walk_of ls x).verdict (stop_of ls x (walk_of ls x)) (walk_of ls x).stack (walk_of ls x).kept (shown ls x p (fate_at ls x)) (stop_not ls x)
deed_not cs ls (Ask l) = reply_not (first_refusal (tests ls l.controller l.command)) _ (first_not (tests ls l.controller l.command) (tests_not ls l.controller l.command))

calls_not : (o : Opening) (h : List Event) (js : List Job) → Each (λ c. tells_short (what_of c.deed) ≡ false) (calls_from o h js)
calls_not o h [] = tt
calls_not o h (j ∷ js) = (deed_not o.controllers (replay o h) j, calls_not o (next_history o h j) js)

any_not : {A : Type 0} (p : A → Bool) (xs : List A) → Each (λ x. p x ≡ false) xs → list_any p xs ≡ false
any_not p [] e = refl
any_not p (x ∷ xs) e = rw (e.0, any_not p xs e.1) refl

port_not : (p : PortSeen) (h : List Event) (js : List Job) → is_short_port (port_round_from p h js) ≡ false
port_not p h js =
    let calls = calls_from (opening_of p) h js in
    let more = length (history_from (opening_of p) h js) - length h in
    any_not (λ l. tells_short l.what) (map line_of (in_told_order p.controllers calls (length h) more))
    (each_map (λ l. tells_short l.what ≡ false) line_of (in_told_order p.controllers calls (length h) more) (each_told (λ c. tells_short (what_of c.deed) ≡ false) p.controllers calls (length h) more (calls_not (opening_of p) h js)))

ports_not : (s : Setting) (records : List Record) (first next n : ℕ) (ps : List PortSeen) (hs : List (List Event)) → Each (λ r. is_short_port r ≡ false) (port_rounds_from s records first next n ps hs)
ports_not s records first next n [] hs = tt
ports_not s records first next n (p ∷ ps) [] = tt
ports_not s records first next n (p ∷ ps) (h ∷ hs) = (port_not p h (all_of (jobs_of s records [] first next n p.number)), ports_not s records first next (suc n) ps hs)

rounds_not : (s : Setting) (records : List Record) (hs : List (List Event)) (cuts : List ℕ) → Each (λ r. is_short_round r ≡ false) (rounds_from s records hs cuts)
rounds_not s records hs [] = tt
rounds_not s records hs (cut ∷ cuts) =
    let next = end_before cuts (length records) in (
      any_not is_short_port (port_rounds_from s records cut next 0 (ports_of s.policy) hs) (ports_not s records cut next 0 (ports_of s.policy) hs),
      rounds_not s records (histories_from s records cut next 0 (ports_of s.policy) hs) cuts,
    )

pub alone_is_plenty : AloneIsPlenty
alone_is_plenty s records cuts = any_not is_short_round (rounds_alone s records cuts) (rounds_not s records (map (λ p. []) (ports_of s.policy)) cuts)
