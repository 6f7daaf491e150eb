-- What a call hands on is for one other port at most, and is the same worker's.
use Rattle.std.proofs.Common.{◌≡◌, ◌≤◌, ◌+◌, ◌==◌, ℕ, Bool, true, false, if◌then◌else◌, List, [], ◌∷◌, ◌++◌, length, map, Option, Some, None, Result, Ok, Err, refl, ap, sym, ◌∙◌, subst, arith, eq-eqb}
use Rattle.std.specs.Prelude.{option_and_then, option_map, option_to_list}
use Rattle.vsw_base.specs.declared.fate.Fate.TheVariants.{Pass, Drop}
use Rattle.vsw_base.specs.declared.fault.BadFrame.{BadFrame}
use Rattle.vsw_base.specs.declared.flow.Crossing.{Crossing}
use Rattle.vsw_base.specs.declared.flow.Place.{Place}
use Rattle.vsw_base.specs.declared.header.Header.{Header}
use Rattle.vsw_base.specs.declared.packet.Dir.{Dir}
use Rattle.vsw_base.specs.declared.packet.Dir.TheVariants.{Out, In}
use Rattle.vsw_base.specs.Frame.{Parts, frame_of}
use Rattle.vsw_base.specs.Shape.{destination_of, inner}
use Rattle.vsw_header.specs.PortChoice.{in_of, place_of}
use Rattle.vsw_port.specs.Calls.{Job, Carry, Deed, Carried, Asked, Call, job_of}
use Rattle.vsw_promise.specs.Jobs.{Hop, Placed, at_place, handed_on, hop_of, if_other, second_job}
use Rattle.vsw_promise.specs.Told.{what_of}
use Rattle.vsw_promise.proofs.Handed.{place_append}
use Rattle.vsw_report.specs.declared.told.What.{What}
use Rattle.vsw_report.specs.declared.told.What.TheVariants as what
use Rattle.vsw_history_law.specs.Plain.{IsAsk}
use Rattle.vsw_history_law.proofs.Agrees.{eq_is, is_job}
use Rattle.vsw_history_law.proofs.OneLine.{count, count_append}
use Rattle.vsw_hairpin.specs.Handing.{HaveHanded, handed_by, with_hops}

-- ---- nothing, or one for another port

module _ (P : List Hop → Type 0) (macs : List ℕ) (from : ℕ) (none : P []) (one : (h : Hop) → (h.port == from) ≡ false → P (h ∷ [])) where
  hop_one : (bytes : List ℕ) → P (option_to_list (hop_of macs from bytes))
  hop_one bytes = by (frame_of bytes)
    where
      test : (parts : Parts) (port : ℕ) (b : Bool) → (port == from) ≡ b → P (option_to_list (option_map (λ port. record { port = port; parts = parts }) (if b then None else Some port)))
      test parts port true e = none
      test parts port false e = one (record { port = port; parts = parts }) e

      at : (parts : Parts) (o : Option ℕ) → P (option_to_list (option_map (λ port. record { port = port; parts = parts }) (option_and_then (if_other from) o)))
      at parts None = none
      at parts (Some port) = test parts port (port == from) refl

      by : (o : Result Parts BadFrame) → P (option_to_list (elim o [ Err fault ↦ None | Ok parts ↦ option_map (λ port. record { port = port; parts = parts }) (option_and_then (if_other from) (in_of macs parts.stack)) ]))
      by (Err fault) = none
      by (Ok parts) = at parts (in_of macs parts.stack)

handed_one : (P : List Hop → Type 0) (macs : List ℕ) (place : Place) (w : What) → P [] → ((h : Hop) → (h.port == place.port) ≡ false → P (h ∷ [])) → P (handed_on macs place w)
handed_one P macs place (what.Reply reply) none one = none
handed_one P macs place (what.Fate (Drop cause) bytes) none one = none
handed_one P macs place (what.Fate (Pass len) bytes) none one = by place.dir
  where
    by : (d : Dir) → P (elim d [ In ↦ [] | Out ↦ option_to_list (hop_of macs place.port bytes) ])
    by In = none
    by Out = hop_one P macs place.port none one bytes

-- ---- among ports with no addresses, nothing

in_none : (stack : List Header) → in_of [] stack ≡ None
in_none stack = by (destination_of (inner stack))
  where
    by : (o : Option ℕ) → option_and_then (place_of []) o ≡ None
    by None = refl
    by (Some address) = refl

hop_none : (from : ℕ) (bytes : List ℕ) → option_to_list (hop_of [] from bytes) ≡ []
hop_none from bytes = by (frame_of bytes)
  where
    by : (o : Result Parts BadFrame) → option_to_list {X = Hop} (elim o [ Err fault ↦ None | Ok parts ↦ option_map (λ port. record { port = port; parts = parts }) (option_and_then (if_other from) (in_of [] parts.stack)) ]) ≡ []
    by (Err fault) = refl
    by (Ok parts) = ap (λ (o : Option ℕ). option_to_list {X = Hop} (option_map (λ port. record { port = port; parts = parts }) (option_and_then (if_other from) o))) (in_none parts.stack)

abbrev IsNothing : List Hop → Type 0
IsNothing hs = hs ≡ []

pub handed_none : (place : Place) (w : What) → handed_on [] place w ≡ []
handed_none place (what.Reply reply) = refl
handed_none place (what.Fate (Drop cause) bytes) = refl
handed_none place (what.Fate (Pass len) bytes) = by place.dir
  where
    by : (d : Dir) → IsNothing (elim d [ In ↦ [] | Out ↦ option_to_list (hop_of [] place.port bytes) ])
    by In = refl
    by Out = hop_none place.port bytes

pub none_by : (place : ℕ) (d : Deed) → handed_by [] place d ≡ []
none_by place (Carried x p fate bytes) = ap (map (second_job x.caller x.packet x.moment)) (handed_none (record { port = place; dir = x.id.dir }) (what.Fate fate bytes))
none_by place (Asked l reply) = refl

pub none_handed : (calls : List (List Call)) (js : List Placed) (hops : List (List Placed)) → HaveHanded [] calls js hops → with_hops js hops ≡ js
none_handed calls [] hops e = refl
none_handed calls (j ∷ js) [] e = absurd e
none_handed calls (j ∷ js) (h ∷ hops) e =
    let none : h ≡ [] = e.0.hops_are ∙ none_by j.0 e.0.call.deed in
    ap (λ w. j ∷ (w ++ with_hops js hops)) none ∙ ap (λ w. j ∷ w) (none_handed calls js hops e.1)

-- ---- a packet's jobs are at a place once

place_yes : (i : ℕ) (t : Placed) (ts : List Placed) → (t.0 == i) ≡ true → at_place i (t ∷ ts) ≡ t.1 ∷ at_place i ts
place_yes i t ts e = rw e refl

place_no : (i : ℕ) (t : Placed) (ts : List Placed) → (t.0 == i) ≡ false → at_place i (t ∷ ts) ≡ at_place i ts
place_no i t ts e = rw e refl

-- one job, wherever it is, counts at most once at a place
one_few : (n i : ℕ) (t : Placed) → count (is_job n) (at_place i (t ∷ [])) ≤ count (is_job n) (t.1 ∷ [])
one_few n i t = by (t.0 == i) refl
  where
    by : (b : Bool) → (t.0 == i) ≡ b → count (is_job n) (at_place i (t ∷ [])) ≤ count (is_job n) (t.1 ∷ [])
    by true e = omega (arith, ap (count (is_job n)) (place_yes i t [] e))
    by false e = omega (arith, ap (count (is_job n)) (place_no i t [] e))

-- so do a job, and one more of the same packet that is elsewhere
two_few : (n i : ℕ) (t u : Placed) → is_job n u.1 ≡ is_job n t.1 → (u.0 == t.0) ≡ false → count (is_job n) (at_place i (t ∷ u ∷ [])) ≤ count (is_job n) (t.1 ∷ [])
two_few n i t u same other = by (t.0 == i) (u.0 == i) refl refl
  where
    count_same : count (is_job n) (u.1 ∷ []) ≡ count (is_job n) (t.1 ∷ [])
    count_same = ap (λ (b : Bool). length (if b then u.1 ∷ [] else [])) same ∙ lengths (is_job n t.1)
      where
        lengths : (b : Bool) → length (if b then u.1 ∷ [] else []) ≡ length (if b then t.1 ∷ [] else [])
        lengths true = refl
        lengths false = refl

    by : (a b : Bool) → (t.0 == i) ≡ a → (u.0 == i) ≡ b → count (is_job n) (at_place i (t ∷ u ∷ [])) ≤ count (is_job n) (t.1 ∷ [])
    by true true e f = absurd (let one : u.0 ≡ t.0 = eq_is u.0 i f ∙ sym (eq_is t.0 i e) in let yes : (u.0 == t.0) ≡ true = eq-eqb u.0 t.0 one in cc (yes, other))
    by true false e f = omega (arith, ap (count (is_job n)) (place_yes i t (u ∷ []) e ∙ ap (λ w. t.1 ∷ w) (place_no i u [] f)))
    by false b e f = omega (arith, ap (count (is_job n)) (place_no i t (u ∷ []) e), one_few n i u, count_same)

-- a job and what its call handed on
group_few : (macs : List ℕ) (n i : ℕ) (j : Placed) (d : Deed) → job_of d ≡ j.1 → count (is_job n) (at_place i (j ∷ handed_by macs j.0 d)) ≤ count (is_job n) (j.1 ∷ [])
group_few macs n i j (Asked l reply) e = one_few n i j
group_few macs n i j (Carried x p fate bytes) e = handed_one
    (λ hs. count (is_job n) (at_place i (j ∷ map (second_job x.caller x.packet x.moment) hs)) ≤ count (is_job n) (j.1 ∷ []))
    macs (record { port = j.0; dir = x.id.dir }) (what.Fate fate bytes) (one_few n i j) (λ h other. two_few n i j (second_job x.caller x.packet x.moment h) (ap (is_job n) e) other)

pub hops_few : (macs : List ℕ) (calls : List (List Call)) (n i : ℕ) (js : List Placed) (hops : List (List Placed)) → HaveHanded macs calls js hops → count (is_job n) (at_place i (with_hops js hops)) ≤ count (λ t. is_job n t.1) js
hops_few macs calls n i [] [] e = omega arith
hops_few macs calls n i [] (h ∷ hops) e = absurd e
hops_few macs calls n i (j ∷ js) [] e = absurd e
hops_few macs calls n i (j ∷ js) (h ∷ hops) e =
    let group = subst (λ w. count (is_job n) (at_place i (j ∷ w)) ≤ count (is_job n) (j.1 ∷ [])) (sym e.0.hops_are) (group_few macs n i j e.0.call.deed e.0.job) in
    let split : count (is_job n) (at_place i ((j ∷ h) ++ with_hops js hops)) ≡ count (is_job n) (at_place i (j ∷ h)) + count (is_job n) (at_place i (with_hops js hops)) =
    ap (count (is_job n)) (place_append i (j ∷ h) (with_hops js hops)) ∙ count_append (is_job n) (at_place i (j ∷ h)) (at_place i (with_hops js hops)) in
    let joined : count (λ t. is_job n t.1) (j ∷ js) ≡ count (is_job n) (j.1 ∷ []) + count (λ t. is_job n t.1) js = one (is_job n j.1) (count_append (λ (t : Placed). is_job n t.1) (j ∷ []) js) in
    omega (arith, group, split, joined, hops_few macs calls n i js hops e.1)
  where
    one : (b : Bool) → count (λ (t : Placed). is_job n t.1) (j ∷ js) ≡ count (λ (t : Placed). is_job n t.1) (j ∷ []) + count (λ (t : Placed). is_job n t.1) js
        → count (λ (t : Placed). is_job n t.1) (j ∷ js) ≡ count (is_job n) (j.1 ∷ []) + count (λ (t : Placed). is_job n t.1) js
    one b e = e ∙ ap (λ m. m + count (λ (t : Placed). is_job n t.1) js) (lengths (is_job n j.1))
      where
        lengths : (b : Bool) → length (if b then j ∷ [] else []) ≡ length (if b then j.1 ∷ [] else [])
        lengths true = refl
        lengths false = refl

-- ---- what a call of a packet hands on

pub handed_job : (macs : List ℕ) (place : ℕ) (d : Deed) (x : Crossing) (p : Parts) → job_of d ≡ Carry x p → handed_by macs place d ≡ map (second_job x.caller x.packet x.moment) (handed_on macs (record { port = place; dir = x.id.dir }) (what_of d))
handed_job macs place (Carried y q fate bytes) x p e =
    let same : y ≡ x = cc e in
    ap (λ (z : Crossing). map (second_job z.caller z.packet z.moment) (handed_on macs (record { port = place; dir = z.id.dir }) (what.Fate fate bytes))) same
handed_job macs place (Asked l reply) x p e = absurd (cc e)

-- a command's hands nothing on
pub ask_hands_none : (macs : List ℕ) (place : ℕ) (d : Deed) (j : Job) → job_of d ≡ j → IsAsk j → handed_by macs place d ≡ []
ask_hands_none macs place (Asked l reply) j e a = refl
ask_hands_none macs place (Carried x p fate bytes) j e a = absurd (subst IsAsk (sym e) a)
