-- A port in the midst of a round: its calls so far, one after the other.
use Rattle.std.proofs.Common.{◌≡◌, ◌≤◌, ◌+◌, ℕ, Bool, List, [], ◌∷◌, ◌++◌, length, map, refl, ap, ap₂, sym, ◌∙◌, subst, arith, append_assoc}
use Rattle.std.proofs.lemmas.List.{length-map}
use Rattle.vsw_base.specs.declared.fate.Fate.{Fate}
use Rattle.vsw_port.specs.declared.event.Event.{Event}
use Rattle.vsw_port.specs.Calls.{Call, Deed, Carried, Asked, controller_at, job_of}
use Rattle.vsw_port.specs.Next.{Goes, IsNext}
use Rattle.vsw_port.specs.Order.{ascending, counted}
use Rattle.vsw_port.proofs.Calls.{each_append}
use Rattle.vsw_port.proofs.Fronts.{append_end}
use Rattle.vsw_port.proofs.Next.{goes_none, goes_on}
use Rattle.vsw_policy.specs.Sound.{Each, is_listed}
use Rattle.vsw_promise.specs.Ports.{PortSeen}
use Rattle.vsw_promise.specs.Rounds.{opening_of}
use Rattle.vsw_promise.specs.Summary.{dropped, in_line, passed, size_of, total}
use Rattle.vsw_promise.specs.Told.{by_of, what_of}
use Rattle.vsw_switch.specs.Does.{HasCaller, Makes, told_controllers, told_workers, with_call}
use Rattle.vsw_switch.specs.Switch.{PortNow, StandsAt}
use Rattle.vsw_switch.specs.Tally.{counted_in}
use Rattle.vsw_switch.specs.declared.tally.Tally.{Tally}
use Rattle.vsw_switch.proofs.Opened.{length_counted}
use Rattle.vsw_history_law.specs.MergingLaw.{IsKnown}
use Rattle.vsw_switch.proofs.Steps.{MakesEach}
use Rattle.vsw_switch.proofs.Tellings.{Tells, tells, text, texts}
use Rattle.vsw_switch.proofs.Totals.{total_append}

-- what became of the packet of a call
abbrev pub of_call : (Fate → ℕ) → Call → ℕ
of_call f c = in_line f (what_of c.deed)

-- the tally of calls
abbrev pub tally_over : List Call → Tally
tally_over calls = record { pass = total (of_call passed) calls; drop = total (of_call dropped) calls; bytes = total (of_call size_of) calls }

one_more : (f : Fate → ℕ) (calls : List Call) (c : Call) → total (of_call f) calls + of_call f c ≡ total (of_call f) (calls ++ c ∷ [])
one_more f calls c = let e = total_append (of_call f) calls (c ∷ []) in omega (arith, e)

tally_more : (calls : List Call) (d : Deed) (entry : Bool) (count : ℕ) → counted_in (what_of d) (tally_over calls) ≡ tally_over (calls ++ record { deed = d; entry = entry; count = count } ∷ [])
tally_more calls (Carried x parts fate bytes) entry count =
    let c : Call = record { deed = Carried x parts fate bytes; entry = entry; count = count } in
    λ i. record { pass = one_more passed calls c i; drop = one_more dropped calls c i; bytes = one_more size_of calls c i }
tally_more calls (Asked l reply) entry count =
    let c : Call = record { deed = Asked l reply; entry = entry; count = count } in
    λ i. record { pass = same passed c refl i; drop = same dropped c refl i; bytes = same size_of c refl i }
  where
    same : (f : Fate → ℕ) (c : Call) → of_call f c ≡ 0 → total (of_call f) calls ≡ total (of_call f) (calls ++ c ∷ [])
    same f c none = let e = one_more f calls c in omega (arith, e, none)

-- a port in the midst of a round that began with this history, after these calls
pub record PortGoes (workers : ℕ) (seen : PortSeen) (before : List Event) (calls : List Call) (p : PortNow) : Type 0 where
  pub number : p.number ≡ seen.number
  pub mac : p.mac ≡ seen.mac
  pub opening : p.opening ≡ opening_of seen
  pub before_is : p.before ≡ length before
  pub goes : Goes (opening_of seen) before p.journal calls
  pub callers : Each (λ c. IsKnown workers seen.controllers c.deed) calls
  pub workers_are : p.workers ≡ texts seen.controllers calls (counted 0 workers)
  pub controllers_are : p.controllers ≡ texts seen.controllers calls (map (controller_at seen.controllers) (ascending seen.controllers))
  pub tally : p.tally ≡ tally_over calls

map_map : (cs ns : List ℕ) → map (λ n. []) ns ≡ texts cs [] (map (controller_at cs) ns)
map_map cs [] = refl
map_map cs (n ∷ ns) = ap (λ w. [] ∷ w) (map_map cs ns)

-- at the beginning of a round
pub port_begins : (workers : ℕ) (seen : PortSeen) (h : List Event) (p : PortNow) → StandsAt workers seen h p → PortGoes workers seen h [] p
port_begins workers seen h p s = record {
  number = s.number;
  mac = s.mac;
  opening = s.opening;
  before_is = s.before;
  goes = subst (λ w. Goes (opening_of seen) h w []) (sym s.journal) (goes_none (opening_of seen) h s.right);
  callers = tt;
  workers_are = s.workers_are;
  controllers_are = s.controllers_are ∙ map_map seen.controllers (ascending seen.controllers);
  tally = s.tally;
}

-- a job's caller is the deed's
caller_of : (workers : ℕ) (seen : PortSeen) (p : PortNow) (d : Deed) → length p.workers ≡ workers → p.opening ≡ opening_of seen → HasCaller p (job_of d) → IsKnown workers seen.controllers d
caller_of workers seen p (Carried x parts fate bytes) w o h = omega (arith, w, h)
caller_of workers seen p (Asked l reply) w o h = ap (λ q. is_listed q.controllers l.controller) (sym o) ∙ h

-- a port that makes one more call
pub port_does : (workers : ℕ) (seen : PortSeen) (before : List Event) (calls : List Call) (c : Call) (p q : PortNow) → workers ≤ 16 → PortGoes workers seen before calls p → Makes p c q → PortGoes workers seen before (calls ++ c ∷ []) q
port_does workers seen before calls c p q few g m = subst (λ w. PortGoes workers seen before (calls ++ c ∷ []) w) (sym m.is) here
  where
    of : IsKnown workers seen.controllers c.deed
    of = caller_of workers seen p c.deed (ap length g.workers_are ∙ (length-map (counted 0 workers) _ ∙ length_counted 0 workers)) g.opening m.caller

    told : Tells workers seen.controllers calls c
    told = tells workers seen.controllers calls c.deed c.entry c.count few of

    next : IsNext (opening_of seen) p.journal c
    next = subst (λ o. IsNext o p.journal c) g.opening m.next

    here : PortGoes workers seen before (calls ++ c ∷ []) (with_call c p)
    here = record {
      number = g.number;
      mac = g.mac;
      opening = g.opening;
      before_is = g.before_is;
      goes = goes_on (opening_of seen) before p.journal calls c g.goes next;
      callers = each_append (λ c. IsKnown workers seen.controllers c.deed) calls (c ∷ []) g.callers (of, tt);
      workers_are = ap (told_workers (by_of c.deed) (text c)) g.workers_are ∙ told.workers_are;
      controllers_are = ap₂ (λ o w. told_controllers o.controllers (by_of c.deed) (text c) w) g.opening g.controllers_are ∙ told.controllers_are;
      tally = ap (counted_in (what_of c.deed)) g.tally ∙ tally_more calls c.deed c.entry c.count;
    }

-- several more
pub port_goes : (workers : ℕ) (seen : PortSeen) (before : List Event) (calls more : List Call) (p q : PortNow) → workers ≤ 16 → PortGoes workers seen before calls p → MakesEach more p q → PortGoes workers seen before (calls ++ more) q
port_goes workers seen before calls [] p q few g d = subst (λ cs. PortGoes workers seen before cs q) (sym (append_end calls)) (subst (λ w. PortGoes workers seen before calls w) (sym d) g)
port_goes workers seen before calls (c ∷ cs) p q few g d =
    subst (λ w. PortGoes workers seen before w q) (append_assoc calls (c ∷ []) cs) (port_goes workers seen before (calls ++ c ∷ []) cs d.0 q few (port_does workers seen before calls c p d.0 few g d.1) d.2)
