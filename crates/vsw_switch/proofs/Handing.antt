-- Packets that are handed on, one after the other.
use Rattle.std.proofs.Common.{◌≡◌, ◌<◌, ◌≤◌, ℕ, zero, suc, ◌+◌, ◌==◌, false, List, [], ◌∷◌, ◌++◌, length, get_or, refl, ap, sym, ◌∙◌, subst, arith, append_assoc, ne_eqb}
use Rattle.vsw_hairpin.specs.Handing.{HasHanded, HaveHanded, with_hops}
use Rattle.vsw_port.specs.Calls.{Call}
use Rattle.vsw_promise.specs.Jobs.{Placed}
use Rattle.vsw_promise.specs.Ports.{PortSeen}
use Rattle.vsw_report.specs.declared.round.Loose.{Loose}
use Rattle.vsw_switch.specs.Does.{AreHanded, CallAt, Hands, HandsOn, MakesAll, MakesAt, calls_at, macs_in}
use Rattle.vsw_switch.specs.Switch.{PortNow, SwitchNow}
use Rattle.vsw_switch.proofs.Steps.{calls_append, jobs_join, make_join, make_macs}

-- ---- among more calls

has_before : (macs : List ℕ) (cs ds : List Call) (j : Placed) (h : List Placed) → HasHanded macs ds j h → HasHanded macs (cs ++ ds) j h
has_before macs cs ds j h x = record {
  front = cs ++ x.front;
  call = x.call;
  back = x.back;
  is = ap (λ w. cs ++ w) x.is ∙ sym (append_assoc cs x.front (x.call ∷ x.back));
  job = x.job;
  hops_are = x.hops_are;
}

has_after : (macs : List ℕ) (cs ds : List Call) (j : Placed) (h : List Placed) → HasHanded macs cs j h → HasHanded macs (cs ++ ds) j h
has_after macs cs ds j h x = record {
  front = x.front;
  call = x.call;
  back = x.back ++ ds;
  is = ap (λ w. w ++ ds) x.is ∙ append_assoc x.front (x.call ∷ x.back) ds;
  job = x.job;
  hops_are = x.hops_are;
}

pub handed_before : (macs : List ℕ) (cs ds : List CallAt) (js : List Placed) (hops : List (List Placed)) → AreHanded macs ds js hops → AreHanded macs (cs ++ ds) js hops
handed_before macs cs ds [] [] a = tt
handed_before macs cs ds (j ∷ js) (h ∷ hops) a = (subst (λ w. HasHanded macs w j h) (sym (calls_append j.0 cs ds)) (has_before macs (calls_at j.0 cs) (calls_at j.0 ds) j h a.0), handed_before macs cs ds js hops a.1)
handed_before macs cs ds [] (h ∷ hops) a = absurd a
handed_before macs cs ds (j ∷ js) [] a = absurd a

handed_after : (macs : List ℕ) (cs ds : List CallAt) (js : List Placed) (hops : List (List Placed)) → AreHanded macs cs js hops → AreHanded macs (cs ++ ds) js hops
handed_after macs cs ds [] [] a = tt
handed_after macs cs ds (j ∷ js) (h ∷ hops) a = (subst (λ w. HasHanded macs w j h) (sym (calls_append j.0 cs ds)) (has_after macs (calls_at j.0 cs) (calls_at j.0 ds) j h a.0), handed_after macs cs ds js hops a.1)
handed_after macs cs ds [] (h ∷ hops) a = absurd a
handed_after macs cs ds (j ∷ js) [] a = absurd a

-- ---- one after the other

handed_join : (macs : List ℕ) (cs : List CallAt) (js ks : List Placed) (hops more : List (List Placed)) → AreHanded macs cs js hops → AreHanded macs cs ks more → AreHanded macs cs (js ++ ks) (hops ++ more)
handed_join macs cs [] ks [] more a b = b
handed_join macs cs (j ∷ js) ks (h ∷ hops) more a b = (a.0, handed_join macs cs js ks hops more a.1 b)
handed_join macs cs [] ks (h ∷ hops) more a b = absurd a
handed_join macs cs (j ∷ js) ks [] more a b = absurd a

hops_join : (macs : List ℕ) (cs : List CallAt) (js ks : List Placed) (hops more : List (List Placed)) → AreHanded macs cs js hops → with_hops (js ++ ks) (hops ++ more) ≡ with_hops js hops ++ with_hops ks more
hops_join macs cs [] ks [] more a = refl
hops_join macs cs (j ∷ js) ks (h ∷ hops) more a = ap (λ w. j ∷ w) (ap (λ w. h ++ w) (hops_join macs cs js ks hops more a.1) ∙ sym (append_assoc h (with_hops js hops) (with_hops ks more)))
hops_join macs cs [] ks (h ∷ hops) more a = absurd a
hops_join macs cs (j ∷ js) ks [] more a = absurd a

pub hands_join : (macs : List ℕ) (js ks : List Placed) (ps ms qs : List PortNow) → HandsOn macs js ps ms → HandsOn macs ks ms qs → HandsOn macs (js ++ ks) ps qs
hands_join macs js ks ps ms qs a b = record {
  hops = a.hops ++ b.hops;
  does = record {
    calls = a.does.calls ++ b.does.calls;
    jobs_are = jobs_join a.does.calls b.does.calls (with_hops js a.hops) (with_hops ks b.hops) a.does.jobs_are b.does.jobs_are ∙ sym (hops_join macs a.does.calls js ks a.hops b.hops a.handed);
    make = make_join a.does.calls b.does.calls ps ms qs a.does.make b.does.make;
  };
  handed = handed_join macs (a.does.calls ++ b.does.calls) js ks a.hops b.hops (handed_after macs a.does.calls b.does.calls js a.hops a.handed) (handed_before macs a.does.calls b.does.calls ks b.hops b.handed);
}

pub hands_none : (macs : List ℕ) (ps : List PortNow) → HandsOn macs [] ps ps
hands_none macs ps = record { hops = []; does = record { calls = []; jobs_are = refl; make = refl }; handed = tt }

pub hands_macs : (s t : SwitchNow) (jobs : List Placed) (loose : List Loose) → Hands s jobs loose t → macs_in t ≡ macs_in s
hands_macs s t jobs loose h = make_macs h.ports.does.calls s.ports t.ports h.ports.does.make

-- ---- the calls at each port

-- the calls at each of these ports, of which the first has this place
abbrev pub calls_by : ℕ → List PortSeen → List CallAt → List (List Call)
calls_by n [] cs = []
calls_by n (p ∷ ps) cs = calls_at n cs ∷ calls_by (suc n) ps cs

calls_there : (i n k : ℕ) (ps : List PortSeen) (cs : List CallAt) → i ≡ n + k → k < length ps → get_or (calls_by n ps cs) k [] ≡ calls_at i cs
calls_there i n k [] cs e lt = absurd (omega (arith, lt))
calls_there i n zero (p ∷ ps) cs e lt = let here : n ≡ i = omega (arith, e) in ap (λ m. calls_at m cs) here
calls_there i n (suc k) (p ∷ ps) cs e lt = calls_there i (suc n) k ps cs (omega (arith, e)) (omega (arith, lt))

at_within : (n : ℕ) (c : Call) (ps qs : List PortNow) → MakesAt n c ps qs → (n < length ps) × (length qs ≡ length ps)
at_within zero c (p ∷ ps) (q ∷ qs) m = (omega arith, ap (λ w. suc (length w)) m.1)
at_within (suc n) c (p ∷ ps) (q ∷ qs) m = let rest = at_within n c ps qs m.1 in (omega (arith, rest.0), ap suc rest.1)
at_within zero c [] qs m = absurd m
at_within zero c (p ∷ ps) [] m = absurd m
at_within (suc n) c [] qs m = absurd m
at_within (suc n) c (p ∷ ps) [] m = absurd m

-- no call is made beyond the ports
none_past : (i : ℕ) (cs : List CallAt) (ps qs : List PortNow) → MakesAll cs ps qs → length ps ≤ i → calls_at i cs ≡ []
none_past i [] ps qs m le = refl
none_past i (c ∷ cs) ps qs m le =
    let at = at_within c.0 c.1 ps m.0 m.1 in
    let other : (c.0 == i) ≡ false = ne_eqb c.0 i (λ e. omega (arith, e, at.0, le)) in
    rw other (none_past i cs m.0 qs m.2 (omega (arith, at.1, le)))

not_none : (cs front back : List Call) (c : Call) → cs ≡ front ++ c ∷ back → cs ≡ [] → ⊥
not_none cs [] back c e f = absurd (cc (e, f))
not_none cs (d ∷ front) back c e f = absurd (cc (e, f))

split_lt : (i n : ℕ) → (n ≤ i → ⊥) → i < n
split_lt i n no_more = omega (arith, no_more)

-- the same said of each port's calls
pub have_handed : (macs : List ℕ) (ss : List PortSeen) (cs : List CallAt) (ps qs : List PortNow) (js : List Placed) (hops : List (List Placed)) → length ps ≡ length ss → MakesAll cs ps qs → AreHanded macs cs js hops → HaveHanded macs (calls_by 0 ss cs) js hops
have_handed macs ss cs ps qs [] [] e m a = tt
have_handed macs ss cs ps qs (j ∷ js) (h ∷ hops) e m a =
    let within : j.0 < length ps = split_lt j.0 (length ps) (λ le. not_none (calls_at j.0 cs) a.0.front a.0.back a.0.call a.0.is (none_past j.0 cs ps qs m le)) in
    (subst (λ w. HasHanded macs w j h) (sym (calls_there j.0 0 j.0 ss cs (omega arith) (omega (arith, within, e)))) a.0, have_handed macs ss cs ps qs js hops e m a.1)
have_handed macs ss cs ps qs [] (h ∷ hops) e m a = absurd a
have_handed macs ss cs ps qs (j ∷ js) [] e m a = absurd a
