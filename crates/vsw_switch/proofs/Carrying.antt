-- A packet at its port, and at the one to which it is handed on.
use Rattle.std.proofs.Common.{◌≡◌, ◌<◌, ◌==◌, ℕ, Bool, true, false, List, [], ◌∷◌, length, map, Result, Ok, Err, OnOk, refl, ap, ap₂, sym, ◌∙◌, subst, arith, eq-eqb, ne_eqb}
use Rattle.std.specs.Prelude.{⊤}
use Rattle.vsw_base.specs.declared.fault.NoMemory.{NoMemory}
use Rattle.vsw_base.specs.declared.fate.Fate.{Fate}
use Rattle.vsw_base.specs.declared.flow.Crossing.{Crossing}
use Rattle.vsw_base.specs.declared.flow.Place.{Place}
use Rattle.vsw_base.specs.declared.packet.Dir.TheVariants.{In}
use Rattle.vsw_base.specs.Frame.{Parts}
use Rattle.vsw_hairpin.specs.Handing.{handed_by}
use Rattle.vsw_hairpin.proofs.Hops.{none_by}
use Rattle.vsw_policy.specs.Sound.{Each}
use Rattle.vsw_port.specs.Calls.{Call, Carry, Carried}
use Rattle.vsw_port.proofs.Fronts.{append_end}
use Rattle.vsw_promise.specs.Jobs.{Hop, crossing_by, handed_on, second_job}
use Rattle.vsw_report.specs.declared.told.What.TheVariants as what
use Rattle.vsw_switch.specs.Does.{DoesAll, HandsOn, MakesAt, calls_at}
use Rattle.vsw_switch.specs.Stay.{standing}
use Rattle.vsw_switch.specs.Switch.{PortNow}
use Rattle.vsw_switch.proofs.Staying.{stay_each}

-- ---- at the port to which it is handed on

abbrev pub carried : Crossing → Parts → Fate → List ℕ → Bool → ℕ → Call
carried x p fate bytes entry count = record { deed = Carried x p fate bytes; entry = entry; count = count }

pub received_one : (caller packet moment : ℕ) (h : Hop) (hs : List Hop) (x : Crossing) (fate : Fate) (bytes : List ℕ) (entry : Bool) (ps qs : List PortNow) → h ∷ [] ≡ hs → x ≡ crossing_by caller packet (record { port = h.port; dir = In }) moment h.parts
    → (count : ℕ) × MakesAt h.port (carried x h.parts fate bytes entry count) ps qs → DoesAll (map (second_job caller packet moment) hs) ps qs
received_one caller packet moment h hs x fate bytes entry ps qs e same m =
    subst (λ w. DoesAll (map (second_job caller packet moment) w) ps qs) e (record { calls = (h.port, carried x h.parts fate bytes entry m.0) ∷ []; jobs_are = ap (λ y. (h.port, Carry y h.parts) ∷ []) same; make = (qs, m.1, refl) })

-- ---- at its own port first

own_first : (i : ℕ) (c : Call) (cs : List (ℕ × Call)) → calls_at i ((i, c) ∷ cs) ≡ c ∷ calls_at i cs
own_first i c cs = let t : (i == i) ≡ true = eq-eqb i i refl in rw t refl

pub carried_on : (macs : List ℕ) (caller packet moment : ℕ) (place : Place) (p : Parts) (x : Crossing) (fate : Fate) (bytes : List ℕ) (entry : Bool) (ps mid qs : List PortNow) → x ≡ crossing_by caller packet place moment p
    → (count : ℕ) × MakesAt place.port (carried x p fate bytes entry count) ps mid → DoesAll (handed_by macs place.port (Carried x p fate bytes)) mid qs
    → HandsOn macs ((place.port, Carry (crossing_by caller packet place moment p) p) ∷ []) ps qs
carried_on macs caller packet moment place p x fate bytes entry ps mid qs same m d =
    let c : Call = carried x p fate bytes entry m.0 in
    let job : Carry x p ≡ Carry (crossing_by caller packet place moment p) p = ap (λ y. Carry y p) same in
    record {
      hops = handed_by macs place.port (Carried x p fate bytes) ∷ [];
      does = record {
        calls = (place.port, c) ∷ d.calls;
        jobs_are = ap₂ (λ y w. (place.port, y) ∷ w) job (d.jobs_are ∙ sym (append_end (handed_by macs place.port (Carried x p fate bytes))));
        make = (mid, m.1, d.make);
      };
      handed = (record { front = []; call = c; back = calls_at place.port d.calls; is = own_first place.port c d.calls; job = job; hops_are = refl }, tt);
    }

-- nothing is handed on
pub carried_off : (macs : List ℕ) (caller packet moment : ℕ) (place : Place) (p : Parts) (x : Crossing) (fate : Fate) (bytes : List ℕ) (entry : Bool) (ps qs : List PortNow) → macs ≡ [] → x ≡ crossing_by caller packet place moment p
    → (count : ℕ) × MakesAt place.port (carried x p fate bytes entry count) ps qs → HandsOn macs ((place.port, Carry (crossing_by caller packet place moment p) p) ∷ []) ps qs
carried_off macs caller packet moment place p x fate bytes entry ps qs none same m =
    let nothing : handed_by macs place.port (Carried x p fate bytes) ≡ [] = ap (λ ms. handed_by ms place.port (Carried x p fate bytes)) none ∙ none_by place.port (Carried x p fate bytes) in
    carried_on macs caller packet moment place p x fate bytes entry ps qs qs same m (subst (λ js. DoesAll js qs qs) (sym nothing) (record { calls = []; jobs_are = refl; make = refl }))

-- the second call may be short of memory
pub carried_ok : (macs : List ℕ) (caller packet moment : ℕ) (place : Place) (p : Parts) (x : Crossing) (fate : Fate) (bytes : List ℕ) (entry : Bool) (ps mid qs : List PortNow) (r : Result ⊤ NoMemory) → x ≡ crossing_by caller packet place moment p
    → (count : ℕ) × MakesAt place.port (carried x p fate bytes entry count) ps mid → OnOk r (DoesAll (map (second_job x.caller x.packet x.moment) (handed_on macs (record { port = place.port; dir = x.id.dir }) (what.Fate fate bytes))) mid qs)
    → OnOk r (HandsOn macs ((place.port, Carry (crossing_by caller packet place moment p) p) ∷ []) ps qs)
carried_ok macs caller packet moment place p x fate bytes entry ps mid qs (Ok u) same m d = carried_on macs caller packet moment place p x fate bytes entry ps mid qs same m d
carried_ok macs caller packet moment place p x fate bytes entry ps mid qs (Err f) same m d = tt

-- ---- an empty list

pub empty_is : (xs : List ℕ) (none : Bool) → none ≡ (length xs == 0) → none ≡ true → xs ≡ []
empty_is [] none is so = refl
empty_is (x ∷ xs) none is so = absurd (let more : (length (x ∷ xs) == 0) ≡ false = ne_eqb (length (x ∷ xs)) 0 (λ e. omega (arith, e)) in cc (is, so, more))

-- ---- its caller

pub callers_known : (caller workers : ℕ) (ps : List PortNow) → caller < workers → Each (λ p. length p.workers ≡ workers) ps → Each (λ p. caller < length p.workers) ps
callers_known caller workers [] lt e = tt
callers_known caller workers (p ∷ ps) lt e = (omega (arith, lt, e.0), callers_known caller workers ps lt e.1)

pub callers_stay : (caller : ℕ) (ps qs : List PortNow) → map standing qs ≡ map standing ps → Each (λ p. caller < length p.workers) ps → Each (λ p. caller < length p.workers) qs
callers_stay caller ps qs same e = stay_each (λ t. caller < t.workers) ps qs same e
