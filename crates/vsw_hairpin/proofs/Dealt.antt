-- A caller that hands each of its packets on at once has done what is dealt to it of all that the round asks for.
use Rattle.std.proofs.Common.{◌≡◌, ◌≤◌, ◌<◌, ℕ, Bool, true, false, if◌then◌else◌, List, [], ◌∷◌, ◌++◌, map, filter, get_or, Result, Ok, Err, refl, ap, ap₂, sym, ◌∙◌, subst, arith}
use Rattle.std.specs.List.{flat_map}
use Rattle.vsw_base.specs.declared.flow.Crossing.{Crossing}
use Rattle.vsw_base.specs.declared.flow.Place.{Place}
use Rattle.vsw_base.specs.Frame.{Parts}
use Rattle.vsw_pcap.specs.declared.capture.Record.{Record}
use Rattle.vsw_policy.specs.Sound.{Each}
use Rattle.vsw_port.specs.Calls.{Carry, Call, job_of, job_doer}
use Rattle.vsw_port.proofs.Fronts.{append_end}
use Rattle.vsw_promise.specs.Jobs.{Hop, Placed, aim_of, crossing_by, fates_told, handed_on, hops_of, placed_packet, placed_packets, second_job, worker_of}
use Rattle.vsw_promise.specs.Told.{what_of}
use Rattle.vsw_report.specs.declared.round.LooseCause.{LooseCause}
use Rattle.vsw_report.specs.declared.round.PortRound.{PortRound}
use Rattle.vsw_history_law.specs.Plain.{IsAsk}
use Rattle.vsw_many.proofs.Actors.{filter_append}
use Rattle.vsw_many.proofs.Dealing.{worker_low}
use Rattle.vsw_hairpin.specs.Handing.{HasHanded, HaveHanded, with_hops}
use Rattle.vsw_hairpin.proofs.Hops.{ask_hands_none, handed_job}

-- the jobs of the callers that pass a test
abbrev pub kept : List ℕ → (ℕ → Bool) → List Placed → List Placed
kept cs q js = filter (λ t. q (job_doer cs t.1)) js

-- ---- commands

-- jobs of which the first are commands, that these calls did
pub record IsRest (macs : List ℕ) (calls : List (List Call)) (asked rest : List Placed) (hops : List (List Placed)) : Type 0 where
  pub more : List (List Placed)
  pub handed : HaveHanded macs calls rest more
  pub is : with_hops (asked ++ rest) hops ≡ asked ++ with_hops rest more

asked_first : (macs : List ℕ) (calls : List (List Call)) (asked rest : List Placed) (hops : List (List Placed)) → Each (λ t. IsAsk t.1) asked → HaveHanded macs calls (asked ++ rest) hops → IsRest macs calls asked rest hops
asked_first macs calls [] rest hops a e = record { more = hops; handed = e; is = refl }
asked_first macs calls (t ∷ asked) rest [] a e = absurd e
asked_first macs calls (t ∷ asked) rest (h ∷ hops) a e =
    let none : h ≡ [] = e.0.hops_are ∙ ask_hands_none macs t.0 e.0.call.deed t.1 e.0.job a.0 in
    let r = asked_first macs calls asked rest hops a.1 e.1 in
    record { more = r.more; handed = r.handed; is = ap (λ w. t ∷ (w ++ with_hops (asked ++ rest) hops)) none ∙ ap (λ w. t ∷ w) r.is }

each_kept : (P : Placed → Type 0) (cs : List ℕ) (q : ℕ → Bool) (js : List Placed) → Each P js → Each P (kept cs q js)
each_kept P cs q [] e = tt
each_kept P cs q (j ∷ js) e = by (q (job_doer cs j.1)) (each_kept P cs q js e.1)
  where
    by : (b : Bool) → Each P (kept cs q js) → Each P (if b then j ∷ kept cs q js else kept cs q js)
    by true ih = (e.0, ih)
    by false ih = ih

-- ---- what a packet is handed on as

-- the jobs of what it is handed on as are its worker's: kept all, or none
all_kept : (cs : List ℕ) (q : ℕ → Bool) (worker n moment : ℕ) (hs : List Hop) → q worker ≡ true → kept cs q (map (second_job worker n moment) hs) ≡ map (second_job worker n moment) hs
all_kept cs q worker n moment [] e = refl
all_kept cs q worker n moment (h ∷ hs) e = rw e (ap (λ w. second_job worker n moment h ∷ w) (all_kept cs q worker n moment hs e))

none_kept : (cs : List ℕ) (q : ℕ → Bool) (worker n moment : ℕ) (hs : List Hop) → q worker ≡ false → kept cs q (map (second_job worker n moment) hs) ≡ []
none_kept cs q worker n moment [] e = refl
none_kept cs q worker n moment (h ∷ hs) e = rw e (none_kept cs q worker n moment hs e)

-- what the round tells of a packet at a port, where one of these calls was of it, is what became of it then
abbrev pub TellsOnce : List PortRound → List (List Call) → Type 0
TellsOnce told calls = (i : ℕ) (front back : List Call) (call : Call) (x : Crossing) (p : Parts) → get_or calls i [] ≡ front ++ call ∷ back → job_of call.deed ≡ Carry x p → x.caller < 16 → fates_told told i x.packet ≡ what_of call.deed ∷ []

abbrev own_job : ℕ → ℕ → ℕ → Place × Parts → Placed
own_job workers n moment a = (a.0.port, Carry (crossing_by (worker_of workers a.1) n a.0 moment a.1) a.1)

-- so its call handed on what it is to be handed on as by what is told
handed_so : (macs : List ℕ) (workers : ℕ) (told : List PortRound) (calls : List (List Call)) (n moment : ℕ) (a : Place × Parts) (h : List Placed) → 0 < workers → workers ≤ 16 → TellsOnce told calls
    → HasHanded macs (get_or calls a.0.port []) (own_job workers n moment a) h → h ≡ map (second_job (worker_of workers a.1) n moment) (hops_of true macs told n (Ok a))
handed_so macs workers told calls n moment a h least most tells e =
    let x = crossing_by (worker_of workers a.1) n a.0 moment a.1 in
    let once : fates_told told a.0.port n ≡ what_of e.call.deed ∷ [] = tells a.0.port e.front e.back e.call x a.1 e.is e.job (omega (arith, worker_low workers a.1 least, most)) in
    e.hops_are ∙ (handed_job macs a.0.port e.call.deed x a.1 e.job
    ∙ ap (map (second_job (worker_of workers a.1) n moment)) (sym (ap (flat_map (handed_on macs a.0)) once ∙ append_end (handed_on macs a.0 (what_of e.call.deed)))))

-- ---- the packets

module _ (macs cs : List ℕ) (q : ℕ → Bool) (workers : ℕ) (told : List PortRound) (calls : List (List Call)) (least : 0 < workers) (most : workers ≤ 16) (tells : TellsOnce told calls) where
  -- the jobs of these packets at the ports to which they go, and all their jobs
  abbrev own : List (ℕ × Record) → List Placed
  own ps = placed_packets workers false macs [] ps

  abbrev all : List (ℕ × Record) → List Placed
  all ps = placed_packets workers true macs told ps

  -- this is so of these packets
  abbrev IsDone : List (ℕ × Record) → Type 0
  IsDone ps = (hops : List (List Placed)) → HaveHanded macs calls (kept cs q (own ps)) hops → with_hops (kept cs q (own ps)) hops ≡ kept cs q (all ps)

  split : (n moment : ℕ) (a : Place × Parts) (hs : List Hop) (ps : List (ℕ × Record)) → kept cs q (map (second_job (worker_of workers a.1) n moment) hs ++ all ps) ≡ kept cs q (map (second_job (worker_of workers a.1) n moment) hs) ++ kept cs q (all ps)
  split n moment a hs ps = filter_append (λ t. q (job_doer cs t.1)) (map (second_job (worker_of workers a.1) n moment) hs) (all ps)

  -- a packet of another caller
  others : (n moment : ℕ) (a : Place × Parts) (ps : List (ℕ × Record)) → q (worker_of workers a.1) ≡ false → IsDone ps → (hops : List (List Placed)) → HaveHanded macs calls (kept cs q (own_job workers n moment a ∷ own ps)) hops
      → with_hops (kept cs q (own_job workers n moment a ∷ own ps)) hops ≡ kept cs q (placed_packet workers n moment (hops_of true macs told n (Ok a)) (Ok a) ++ all ps)
  others n moment a ps e rest hops h =
      let w = worker_of workers a.1 in
      let hs = hops_of true macs told n (Ok a) in
      let here : kept cs q (own_job workers n moment a ∷ own ps) ≡ kept cs q (own ps) = rw e refl in
      let there : kept cs q (own_job workers n moment a ∷ (map (second_job w n moment) hs ++ all ps)) ≡ kept cs q (map (second_job w n moment) hs ++ all ps) = rw e refl in
      ap (λ js. with_hops js hops) here ∙ (rest hops (subst (λ js. HaveHanded macs calls js hops) here h)
      ∙ sym (there ∙ (split n moment a hs ps ∙ ap (λ v. v ++ kept cs q (all ps)) (none_kept cs q w n moment hs e))))

  -- a packet of the caller's own
  mine : (n moment : ℕ) (a : Place × Parts) (ps : List (ℕ × Record)) → q (worker_of workers a.1) ≡ true → IsDone ps → (hops : List (List Placed)) → HaveHanded macs calls (own_job workers n moment a ∷ kept cs q (own ps)) hops
      → with_hops (own_job workers n moment a ∷ kept cs q (own ps)) hops ≡ kept cs q (placed_packet workers n moment (hops_of true macs told n (Ok a)) (Ok a) ++ all ps)
  mine n moment a ps e rest [] h = absurd h
  mine n moment a ps e rest (g ∷ hops) h =
      let w = worker_of workers a.1 in
      let hs = hops_of true macs told n (Ok a) in
      let there : kept cs q (own_job workers n moment a ∷ (map (second_job w n moment) hs ++ all ps)) ≡ own_job workers n moment a ∷ kept cs q (map (second_job w n moment) hs ++ all ps) = rw e refl in
      ap₂ (λ u v. own_job workers n moment a ∷ (u ++ v)) (handed_so macs workers told calls n moment a g least most tells h.0) (rest hops h.1)
      ∙ sym (there ∙ ap (λ v. own_job workers n moment a ∷ v) (split n moment a hs ps ∙ ap (λ v. v ++ kept cs q (all ps)) (all_kept cs q w n moment hs e)))

  -- one packet more
  packet_done : (p : ℕ × Record) (ps : List (ℕ × Record)) → IsDone ps → IsDone (p ∷ ps)
  packet_done p ps rest hops h = by (aim_of macs p.1) h
    where
      at : (a : Place × Parts) (b : Bool) → q (worker_of workers a.1) ≡ b → HaveHanded macs calls (kept cs q (own_job workers p.0 p.1.moment a ∷ own ps)) hops
          → with_hops (kept cs q (own_job workers p.0 p.1.moment a ∷ own ps)) hops ≡ kept cs q (placed_packet workers p.0 p.1.moment (hops_of true macs told p.0 (Ok a)) (Ok a) ++ all ps)
      at a true e h =
          let here : kept cs q (own_job workers p.0 p.1.moment a ∷ own ps) ≡ own_job workers p.0 p.1.moment a ∷ kept cs q (own ps) = rw e refl in
          ap (λ js. with_hops js hops) here ∙ mine p.0 p.1.moment a ps e rest hops (subst (λ js. HaveHanded macs calls js hops) here h)
      at a false e h = others p.0 p.1.moment a ps e rest hops h

      by : (to : Result (Place × Parts) LooseCause) → HaveHanded macs calls (kept cs q (placed_packet workers p.0 p.1.moment [] to ++ own ps)) hops
          → with_hops (kept cs q (placed_packet workers p.0 p.1.moment [] to ++ own ps)) hops ≡ kept cs q (placed_packet workers p.0 p.1.moment (hops_of true macs told p.0 to) to ++ all ps)
      by (Err why) h = rest hops h
      by (Ok a) h = at a (q (worker_of workers a.1)) refl h

  pub packets_done : (ps : List (ℕ × Record)) → IsDone ps
  packets_done [] [] h = refl
  packets_done [] (g ∷ hops) h = absurd h
  packets_done (p ∷ ps) hops h = packet_done p ps (packets_done ps) hops h

  -- commands, and then packets
  pub jobs_done : (asked : List Placed) (ps : List (ℕ × Record)) (hops : List (List Placed)) → Each (λ t. IsAsk t.1) asked → HaveHanded macs calls (kept cs q (asked ++ own ps)) hops → with_hops (kept cs q (asked ++ own ps)) hops ≡ kept cs q (asked ++ all ps)
  jobs_done asked ps hops a h =
      let parts : kept cs q (asked ++ own ps) ≡ kept cs q asked ++ kept cs q (own ps) = filter_append (λ t. q (job_doer cs t.1)) asked (own ps) in
      let r = asked_first macs calls (kept cs q asked) (kept cs q (own ps)) hops (each_kept (λ t. IsAsk t.1) cs q asked a) (subst (λ js. HaveHanded macs calls js hops) parts h) in
      ap (λ js. with_hops js hops) parts ∙ (r.is ∙ (ap (λ w. kept cs q asked ++ w) (packets_done ps r.more r.handed) ∙ sym (filter_append (λ t. q (job_doer cs t.1)) asked (all ps))))
