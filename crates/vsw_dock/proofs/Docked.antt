-- Ports of a policy, opened and docked.
use Rattle.std.proofs.Common.{◌≡◌, ◌+◌, ◌∷◌, [], ◌++◌, ℕ, zero, suc, List, length, map, refl, ap, subst, arith}
use Rattle.vsw_flows.specs.Flows.{Looking, Writing}
use Rattle.vsw_live.specs.Ports.{AreNewPasses, OpenSeen, passes_of}
use Rattle.vsw_policy.specs.Sound.{Each}
use Rattle.vsw_promise.specs.declared.port.Port.{Port}
use Rattle.vsw_promise.specs.Ports.{port_seen}
use Rattle.vsw_dock.specs.Docks.{port_in}
use Rattle.vsw_dock.specs.Laws.{AreDocked}
use Rattle.vsw_dock.specs.Opening.{AreIdle, AreNewRows, AreOpened, IsIdle, IsNewRow, IsOpened, docks_for, first_lanes, later_passes, rows_from}
use Rattle.vsw_dock.specs.Seen.{DockSeen}

-- each of these docks has n passes left, all new, from number k on
abbrev Given : ℕ → ℕ → List DockSeen → List (List Writing) → Type 0
Given n k [] [] = Unit {0}
Given n k (d ∷ ds) (ps ∷ pss) = (length ps ≡ n) × AreNewPasses d.live.looking k ps × Given n k ds pss
Given n k _ _ = ⊥

first_new : (n k : ℕ) (ds : List DockSeen) (pss : List (List Writing)) → Given (suc n) k ds pss → IsNewRow k ds (first_lanes pss)
first_new n k [] [] g = tt
first_new n k (d ∷ ds) ((p ∷ ps) ∷ pss) g = (record { pass = g.1.0; lines = refl; whole = refl; base = refl }, first_new n k ds pss g.2)
first_new n k (d ∷ ds) ([] ∷ pss) g = absurd (omega (arith, g.0))
first_new n k [] (ps ∷ pss) g = absurd g
first_new n k (d ∷ ds) [] g = absurd g

later_given : (n k : ℕ) (ds : List DockSeen) (pss : List (List Writing)) → Given (suc n) k ds pss → Given n (suc k) ds (later_passes pss)
later_given n k [] [] g = tt
later_given n k (d ∷ ds) ((p ∷ ps) ∷ pss) g =
    let e : k + 1 ≡ suc k = omega arith in
    (omega (arith, g.0), subst (λ m. AreNewPasses d.live.looking m ps) e g.1.1, later_given n k ds pss g.2)
later_given n k (d ∷ ds) ([] ∷ pss) g = absurd (omega (arith, g.0))
later_given n k [] (ps ∷ pss) g = absurd g
later_given n k (d ∷ ds) [] g = absurd g

rows_new : (n k : ℕ) (ds : List DockSeen) (pss : List (List Writing)) → Given n k ds pss → AreNewRows k ds (rows_from n pss)
rows_new zero k ds pss g = tt
rows_new (suc n) k ds pss g = (first_new n k ds pss g, rows_new n (suc k) ds (later_passes pss) (later_given n k ds pss g))

rows_many : (n : ℕ) (pss : List (List Writing)) → length (rows_from n pss) ≡ n
rows_many zero pss = refl
rows_many (suc n) pss = ap suc (rows_many n (later_passes pss))

opened_given : (count : ℕ) (locals : List ℕ) (made : List Port) (os : List OpenSeen) → AreOpened count made os → Given count 0 (docks_for locals made os) (passes_of os)
opened_given count locals [] [] a = tt
opened_given count locals (p ∷ made) (o ∷ os) a = (a.0.many, a.0.new, opened_given count locals made os a.1)
opened_given count locals [] (o ∷ os) a = absurd a
opened_given count locals (p ∷ made) [] a = absurd a

one_dock : (count : ℕ) (locals : List ℕ) (p : Port) (o : OpenSeen) → IsOpened count p o → port_in (record { number = p.number; mac = p.mac; locals = locals; live = o.port }) ≡ port_seen p
one_dock count locals p o x = λ i. record { number = p.number; mac = p.mac; rows = x.rows i; controllers = (x.begins i).controllers; layers = (x.begins i).layers }

docks_are : (count : ℕ) (locals : List ℕ) (made : List Port) (os : List OpenSeen) → AreOpened count made os → map port_in (docks_for locals made os) ≡ map port_seen made
docks_are count locals [] [] a = refl
docks_are count locals (p ∷ made) (o ∷ os) a = let first = one_dock count locals p o a.0 in let later = docks_are count locals made os a.1 in λ i. first i ∷ later i
docks_are count locals [] (o ∷ os) a = absurd a
docks_are count locals (p ∷ made) [] a = absurd a

each_idle : (l : Looking) (k : ℕ) (ps : List Writing) → AreNewPasses l k ps → Each IsIdle ps
each_idle l k [] a = tt
each_idle l k (p ∷ ps) a = (record { receipts = a.0.receipts; permits = a.0.permits }, each_idle l (k + 1) ps a.1)

all_idle : (count : ℕ) (made : List Port) (os : List OpenSeen) → AreOpened count made os → AreIdle (passes_of os)
all_idle count [] [] a = tt
all_idle count (p ∷ made) (o ∷ os) a = (each_idle o.port.looking 0 o.passes a.0.new, all_idle count made os a.1)
all_idle count [] (o ∷ os) a = absurd a
all_idle count (p ∷ made) [] a = absurd a

locals_are : (count : ℕ) (locals : List ℕ) (made : List Port) (os : List OpenSeen) → AreOpened count made os → Each (λ d. d.locals ≡ locals) (docks_for locals made os)
locals_are count locals [] [] a = tt
locals_are count locals (p ∷ made) (o ∷ os) a = (refl, locals_are count locals made os a.1)
locals_are count locals [] (o ∷ os) a = absurd a
locals_are count locals (p ∷ made) [] a = absurd a

pub docked : (count : ℕ) (locals : List ℕ) (made : List Port) (os : List OpenSeen) → AreOpened count made os → AreDocked count locals made os (docks_for locals made os)
docked count locals made os a = record {
  ports = docks_are count locals made os a;
  locals_are = locals_are count locals made os a;
  idle = all_idle count made os a;
  rows = rows_new count 0 (docks_for locals made os) (passes_of os) (opened_given count locals made os a);
  many = rows_many count (passes_of os);
}

-- ---- opening one after another

pub opened_more : (count : ℕ) (made : List Port) (os : List OpenSeen) (p : Port) (o : OpenSeen) → AreOpened count made os → IsOpened count p o → AreOpened count (made ++ p ∷ []) (os ++ o ∷ [])
opened_more count [] [] p o a x = (x, tt)
opened_more count (m ∷ made) (n ∷ os) p o a x = (a.0, opened_more count made os p o a.1 x)
opened_more count [] (n ∷ os) p o a x = absurd a
opened_more count (m ∷ made) [] p o a x = absurd a

pub idle_later : (pss : List (List Writing)) → AreIdle pss → AreIdle (later_passes pss)
idle_later [] a = tt
idle_later ([] ∷ pss) a = (tt, idle_later pss a.1)
idle_later ((p ∷ ps) ∷ pss) a = (a.0.1, idle_later pss a.1)
