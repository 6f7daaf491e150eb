-- A packet that reaches no port, and one that reaches one.
use Rattle.std.proofs.Common.{◌≡◌, ◌++◌, ◌∙◌, ℕ, Bool, if◌then◌else◌, List, [], ◌∷◌, Option, Some, None, Result, Ok, Err, OnOk, refl, ap, sym, subst}
use Rattle.std.specs.Prelude.{⊤}
use Rattle.vsw_base.specs.declared.fault.NoMemory.{NoMemory}
use Rattle.vsw_base.specs.declared.flow.Place.{Place}
use Rattle.vsw_base.specs.Frame.{Parts}
use Rattle.vsw_pcap.specs.declared.capture.Record.{Record}
use Rattle.vsw_port.proofs.Fronts.{append_end}
use Rattle.vsw_promise.specs.Jobs.{aim_of, loose_after, placed_packet}
use Rattle.vsw_report.specs.declared.round.LooseCause.{LooseCause}
use Rattle.vsw_switch.specs.Does.{Forwards, Hands, HandsOn, macs_in}
use Rattle.vsw_switch.specs.Stay.{Arrives, why_of}
use Rattle.vsw_switch.specs.Switch.{SwitchNow}

cause_in : LooseCause → Option LooseCause → LooseCause
cause_in other None = other
cause_in other (Some cause) = cause

-- what is told of it
loose_is : (n : ℕ) (aim : Result (Place × Parts) LooseCause) (cause : LooseCause) → Some cause ≡ why_of aim → record { packet = n; cause = cause } ∷ [] ≡ loose_after n aim
unfolding cause_in
loose_is n (Err why) cause e = ap (λ w. record { packet = n; cause = w } ∷ []) (ap (cause_in cause) e)
loose_is n (Ok a) cause e = absurd (cc e)

pub forwards_loose : (s t : SwitchNow) (n : ℕ) (r : Record) (macs locals : List ℕ) (cause : LooseCause) (res : Result ⊤ NoMemory) → macs ≡ macs_in s → locals ≡ s.locals → Arrives s.workers n locals macs r s.ports t.ports (Some cause)
    → t.workers ≡ s.workers → t.locals ≡ s.locals → OnOk res (t.loose ≡ s.loose ++ record { packet = n; cause = cause } ∷ []) → OnOk res (Forwards s n r t)
forwards_loose s t n r macs locals cause (Err e) same ls a w l k = tt
forwards_loose s t n r macs locals cause (Ok u) same ls a w l k =
    subst (λ ms. Hands s (placed_packet s.workers n r.moment [] (aim_of ms r)) (loose_after n (aim_of ms r)) t) same
    (record { workers = w; locals = l; ports = subst (λ ms. HandsOn ms (placed_packet s.workers n r.moment [] (aim_of macs r)) s.ports t.ports) ls a.ports; loose_are = k ∙ ap (λ ks. s.loose ++ ks) (loose_is n (aim_of macs r) cause a.why) })

-- ---- a packet that reaches one

none_loose : (n : ℕ) (aim : Result (Place × Parts) LooseCause) → None ≡ why_of aim → [] ≡ loose_after n aim
none_loose n (Err why) e = absurd (cc e)
none_loose n (Ok a) e = refl

pub forwards_there : (s t : SwitchNow) (n : ℕ) (r : Record) (macs locals : List ℕ) → macs ≡ macs_in s → locals ≡ s.locals → Arrives s.workers n locals macs r s.ports t.ports None
    → t.workers ≡ s.workers → t.locals ≡ s.locals → t.loose ≡ s.loose → Forwards s n r t
forwards_there s t n r macs locals same ls a w l k =
    subst (λ ms. Hands s (placed_packet s.workers n r.moment [] (aim_of ms r)) (loose_after n (aim_of ms r)) t) same
    (record { workers = w; locals = l; ports = subst (λ ms. HandsOn ms (placed_packet s.workers n r.moment [] (aim_of macs r)) s.ports t.ports) ls a.ports; loose_are = k ∙ (sym (append_end s.loose) ∙ ap (λ ks. s.loose ++ ks) (none_loose n (aim_of macs r) a.why)) })

-- ---- the addresses to which packets are handed on

pub locals_same : (local : Bool) (macs all locals : List ℕ) → locals ≡ (if local then macs else []) → macs ≡ all → locals ≡ (if local then all else [])
locals_same local macs all locals e same = e ∙ ap (λ ms. if local then ms else []) same
