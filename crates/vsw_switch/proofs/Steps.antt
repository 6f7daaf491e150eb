-- What a switch does over several jobs, and what each of its ports does of it.
use Rattle.std.proofs.Common.{◌≡◌, ◌<◌, ℕ, zero, suc, ◌+◌, ◌==◌, Bool, true, false, List, [], ◌∷◌, ◌++◌, map, refl, ap, ap₂, sym, ◌∙◌, subst, arith, eq-eqb, ne_eqb}
use Rattle.vsw_port.specs.Calls.{Call, job_of}
use Rattle.vsw_promise.specs.Jobs.{Placed, at_place}
use Rattle.vsw_switch.specs.Does.{CallAt, DoesAll, Makes, MakesAll, MakesAt, Works, calls_at, job_at, with_call, macs_in, numbers_in}
use Rattle.vsw_switch.specs.Switch.{PortNow, SwitchNow}
use Rattle.vsw_switch.proofs.Tellings.{map_append}

-- ---- what no job changes

at_same : {A : Type 0} (f : PortNow → A) → ((c : Call) (p : PortNow) → f (with_call c p) ≡ f p) → (n : ℕ) (c : Call) (ps qs : List PortNow) → MakesAt n c ps qs → map f qs ≡ map f ps
at_same f k zero c (p ∷ ps) (q ∷ qs) d = ap₂ (λ x y. x ∷ y) (ap f d.0.is ∙ k c p) (ap (map f) d.1)
at_same f k (suc n) c (p ∷ ps) (q ∷ qs) d = ap₂ (λ x y. x ∷ y) (ap f d.0) (at_same f k n c ps qs d.1)
at_same f k zero c [] qs d = absurd d
at_same f k zero c (p ∷ ps) [] d = absurd d
at_same f k (suc n) c [] qs d = absurd d
at_same f k (suc n) c (p ∷ ps) [] d = absurd d

all_same : {A : Type 0} (f : PortNow → A) → ((c : Call) (p : PortNow) → f (with_call c p) ≡ f p) → (cs : List CallAt) (ps qs : List PortNow) → MakesAll cs ps qs → map f qs ≡ map f ps
all_same f k [] ps qs d = ap (map f) d
all_same f k (c ∷ cs) ps qs d = all_same f k cs d.0 qs d.2 ∙ at_same f k c.0 c.1 ps d.0 d.1

pub make_macs : (cs : List CallAt) (ps qs : List PortNow) → MakesAll cs ps qs → map (λ p. p.mac) qs ≡ map (λ p. p.mac) ps
make_macs cs ps qs m = all_same (λ p. p.mac) (λ c p. refl) cs ps qs m

pub make_numbers : (cs : List CallAt) (ps qs : List PortNow) → MakesAll cs ps qs → map (λ p. p.number) qs ≡ map (λ p. p.number) ps
make_numbers cs ps qs m = all_same (λ p. p.number) (λ c p. refl) cs ps qs m

pub works_macs : (s t : SwitchNow) (jobs : List Placed) → Works s jobs t → macs_in t ≡ macs_in s
works_macs s t jobs w = make_macs w.ports.calls s.ports t.ports w.ports.make

pub works_numbers : (s t : SwitchNow) (jobs : List Placed) → Works s jobs t → numbers_in t ≡ numbers_in s
works_numbers s t jobs w = make_numbers w.ports.calls s.ports t.ports w.ports.make

-- ---- one after the other

pub make_join : (cs ds : List CallAt) (ps ms qs : List PortNow) → MakesAll cs ps ms → MakesAll ds ms qs → MakesAll (cs ++ ds) ps qs
make_join [] ds ps ms qs d e = subst (λ w. MakesAll ds w qs) d e
make_join (c ∷ cs) ds ps ms qs d e = (d.0, d.1, make_join cs ds d.0 ms qs d.2 e)

pub jobs_join : (cs ds : List CallAt) (js ks : List Placed) → map job_at cs ≡ js → map job_at ds ≡ ks → map job_at (cs ++ ds) ≡ js ++ ks
jobs_join cs ds js ks c d = map_append job_at cs ds ∙ ap₂ (λ x y. x ++ y) c d

pub does_join : (js ks : List Placed) (ps ms qs : List PortNow) → DoesAll js ps ms → DoesAll ks ms qs → DoesAll (js ++ ks) ps qs
does_join js ks ps ms qs a b = record { calls = a.calls ++ b.calls; jobs_are = jobs_join a.calls b.calls js ks a.jobs_are b.jobs_are; make = make_join a.calls b.calls ps ms qs a.make b.make }

pub works_none : (s : SwitchNow) → Works s [] s
works_none s = record { workers = refl; locals = refl; ports = record { calls = []; jobs_are = refl; make = refl }; loose_are = refl }

pub works_join : (s t u : SwitchNow) (jobs more : List Placed) → Works s jobs t → Works t more u → Works s (jobs ++ more) u
works_join s t u jobs more w v = record {
  workers = v.workers ∙ w.workers;
  locals = v.locals ∙ w.locals;
  ports = does_join jobs more s.ports t.ports u.ports w.ports v.ports;
  loose_are = v.loose_are ∙ w.loose_are;
}

-- ---- port by port

pub calls_append : (i : ℕ) (cs ds : List CallAt) → calls_at i (cs ++ ds) ≡ calls_at i cs ++ calls_at i ds
calls_append i [] ds = refl
calls_append i (c ∷ cs) ds = by (c.0 == i) refl (calls_append i cs ds)
  where
    by : (b : Bool) → (c.0 == i) ≡ b → calls_at i (cs ++ ds) ≡ calls_at i cs ++ calls_at i ds → calls_at i (c ∷ cs ++ ds) ≡ calls_at i (c ∷ cs) ++ calls_at i ds
    by true e ih = rw e (ap (λ w. c.1 ∷ w) ih)
    by false e ih = rw e ih

-- the jobs of a port's calls are its own of all jobs
pub jobs_at : (i : ℕ) (cs : List CallAt) → map (λ c. job_of c.deed) (calls_at i cs) ≡ at_place i (map job_at cs)
jobs_at i [] = refl
jobs_at i (c ∷ cs) = by (c.0 == i) refl (jobs_at i cs)
  where
    by : (b : Bool) → (c.0 == i) ≡ b → map (λ c. job_of c.deed) (calls_at i cs) ≡ at_place i (map job_at cs) → map (λ c. job_of c.deed) (calls_at i (c ∷ cs)) ≡ at_place i (map job_at (c ∷ cs))
    by true e ih = rw e (ap (λ w. job_of c.1.deed ∷ w) ih)
    by false e ih = rw e ih

-- a port makes these calls, one after the other
abbrev pub MakesEach : List Call → PortNow → PortNow → Type 0
MakesEach [] p q = q ≡ p
MakesEach (c ∷ cs) p q = (mid : PortNow) × Makes p c mid × MakesEach cs mid q

-- the ports, the first of which has this place, make their calls of these
abbrev pub AllEach : List CallAt → ℕ → List PortNow → List PortNow → Type 0
AllEach cs n [] [] = Unit {0}
AllEach cs n (p ∷ ps) (q ∷ qs) = MakesEach (calls_at n cs) p q × AllEach cs (suc n) ps qs
AllEach cs n _ _ = ⊥

each_join : (cs ds : List Call) (p m q : PortNow) → MakesEach cs p m → MakesEach ds m q → MakesEach (cs ++ ds) p q
each_join [] ds p m q d e = subst (λ w. MakesEach ds w q) d e
each_join (c ∷ cs) ds p m q d e = (d.0, d.1, each_join cs ds d.0 m q d.2 e)

places_join : (cs ds : List CallAt) (n : ℕ) (ps ms qs : List PortNow) → AllEach cs n ps ms → AllEach ds n ms qs → AllEach (cs ++ ds) n ps qs
places_join cs ds n [] [] [] a b = tt
places_join cs ds n (p ∷ ps) (m ∷ ms) (q ∷ qs) a b = (subst (λ w. MakesEach w p q) (sym (calls_append n cs ds)) (each_join (calls_at n cs) (calls_at n ds) p m q a.0 b.0), places_join cs ds (suc n) ps ms qs a.1 b.1)
places_join cs ds n [] [] (q ∷ qs) a b = absurd b
places_join cs ds n [] (m ∷ ms) qs a b = absurd a
places_join cs ds n (p ∷ ps) [] qs a b = absurd a
places_join cs ds n (p ∷ ps) (m ∷ ms) [] a b = absurd b

none_each : (n : ℕ) (ps : List PortNow) → AllEach [] n ps ps
none_each n [] = tt
none_each n (p ∷ ps) = (refl, none_each (suc n) ps)

not_here : (i n : ℕ) (c : Call) → (i == n) ≡ false → calls_at n ((i, c) ∷ []) ≡ []
not_here i n c e = rw e refl

is_here : (i n : ℕ) (c : Call) → (i == n) ≡ true → calls_at n ((i, c) ∷ []) ≡ c ∷ []
is_here i n c e = rw e refl

past_each : (i n : ℕ) (c : Call) (ps : List PortNow) → i < n → AllEach ((i, c) ∷ []) n ps ps
past_each i n c [] lt = tt
past_each i n c (p ∷ ps) lt = (subst (λ w. MakesEach w p p) (sym (not_here i n c (ne_eqb i n (λ e. omega (arith, e, lt))))) refl, past_each i (suc n) c ps (omega (arith, lt)))

at_each : (i n k : ℕ) (c : Call) (ps qs : List PortNow) → i ≡ n + k → MakesAt k c ps qs → AllEach ((i, c) ∷ []) n ps qs
at_each i n zero c (p ∷ ps) (q ∷ qs) e d =
    let here : i ≡ n = omega (arith, e) in (
      subst (λ w. MakesEach w p q) (sym (is_here i n c (eq-eqb i n here))) (q, d.0, refl),
      subst (λ w. AllEach ((i, c) ∷ []) (suc n) ps w) (sym d.1) (past_each i (suc n) c ps (omega (arith, here))),
    )
at_each i n (suc k) c (p ∷ ps) (q ∷ qs) e d = (
  subst (λ w. MakesEach w p q) (sym (not_here i n c (ne_eqb i n (λ f. omega (arith, e, f))))) d.0,
  at_each i (suc n) k c ps qs (omega (arith, e)) d.1,
)
at_each i n zero c [] qs e d = absurd d
at_each i n zero c (p ∷ ps) [] e d = absurd d
at_each i n (suc k) c [] qs e d = absurd d
at_each i n (suc k) c (p ∷ ps) [] e d = absurd d

-- the calls made over all ports are at each those made there
pub each_place : (cs : List CallAt) (ps qs : List PortNow) → MakesAll cs ps qs → AllEach cs 0 ps qs
each_place [] ps qs d = subst (λ w. AllEach [] 0 ps w) (sym d) (none_each 0 ps)
each_place (c ∷ cs) ps qs d = places_join (c ∷ []) cs 0 ps d.0 qs (at_each c.0 0 c.0 c.1 ps d.0 (omega arith) d.1) (each_place cs d.0 qs d.2)
