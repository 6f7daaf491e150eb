-- The harbour of a policy file, whose ports were opened and then named.
use Rattle.std.proofs.Common.{◌≡◌, ◌≤◌, ◌<◌, ◌+◌, ℕ, Bool, true, false, if◌then◌else◌, List, [], ◌∷◌, length, map, refl, ap, sym, subst, ◌∙◌, arith}
use Rattle.std.proofs.lemmas.List.{length-map}
use Rattle.vsw_harbour.specs.Lane.{Lane}
use Rattle.vsw_harbour.proofs.Docked.{docked}
use Rattle.vsw_harbour.specs.Docks.{port_in}
use Rattle.vsw_harbour.specs.HarbourOpening.{AreIdle, AreOpened, docks_for, docks_of, rows_from}
use Rattle.vsw_harbour.specs.Seen.{DockSeen, StationSeen}
use Rattle.vsw_harbour.proofs.Likes.{macs_like, numbers_like}
use Rattle.vsw_harbour.specs.Harbour.{AreLike, HarbourSeen, IsHarbour, locals_in}
use Rattle.vsw_harbour.specs.Ports.{OpenSeen, passes_of}
use Rattle.vsw_harbour.specs.Ports as live
use Rattle.vsw_policy.specs.Sound.{Each, are_distinct, is_listed}
use Rattle.vsw_config.specs.declared.file.PolicyFile.{PolicyFile}
use Rattle.vsw_config.specs.declared.file.PortFile.{PortFile}
use Rattle.vsw_promise.specs.declared.port.Port.{Port}
use Rattle.vsw_promise.specs.Ports.{PortSeen, port_of, port_seen, ports_of}
use Rattle.vsw_harbour.specs.Mustered.{IsMustered}
use Rattle.vsw_harbour.specs.Opening.{HasLists, IsOpenFor, OpenHarbourSeen}
use Rattle.vsw_harbour.proofs.Fits.{few_controllers, few_ports, good_apart}
use Rattle.vsw_harbour.proofs.NewRows.{journals_none, rows_lanes, rows_stand, rows_whole}

-- ---- docks of the ports that a file gives

dock_passes : (count : ℕ) (locals : List ℕ) (made : List Port) (os : List OpenSeen) → AreOpened count made os → Each (λ d. d.live.passes ≡ count) (docks_for locals made os)
dock_passes count locals [] [] a = tt
dock_passes count locals (p ∷ made) (o ∷ os) a = (a.0.passes, dock_passes count locals made os a.1)
dock_passes count locals [] (o ∷ os) a = absurd a
dock_passes count locals (p ∷ made) [] a = absurd a

-- ---- to which ports packets are handed on

-- all, or none
abbrev pub chosen : Bool → List ℕ → List ℕ
chosen local macs = if local then macs else []

all_same : (ms : List ℕ) (ds : List DockSeen) → Each (λ d. d.locals ≡ ms) ds → Each (λ d. d.locals ≡ locals_in ds) ds
all_same ms [] a = tt
all_same ms (d ∷ ds) a = (refl, others ds a.1)
  where
    others : (es : List DockSeen) → Each (λ e. e.locals ≡ ms) es → Each (λ e. e.locals ≡ d.locals) es
    others [] b = tt
    others (e ∷ es) b = (b.0 ∙ sym a.0, others es b.1)

first_is : (ms : List ℕ) (ds : List DockSeen) → 0 < length ds → Each (λ d. d.locals ≡ ms) ds → locals_in ds ≡ ms
first_is ms [] lt a = absurd (omega (arith, lt))
first_is ms (d ∷ ds) lt a = a.0

alike : (ds : List DockSeen) → AreLike (map port_in ds) ds
alike [] = tt
alike (d ∷ ds) = (record { number = refl; mac = refl; opening = refl }, alike ds)

are_like : (f : PolicyFile) (ds : List DockSeen) → map port_in ds ≡ ports_of f → AreLike (ports_of f) ds
are_like f ds e = subst (λ (ps : List PortSeen). AreLike ps ds) e (alike ds)

file_controllers : (cs : List ℕ) (ps : List PortFile) → Each (λ p. p.controllers ≡ cs) (map (port_of cs) ps)
file_controllers cs [] = tt
file_controllers cs (p ∷ ps) = (refl, file_controllers cs ps)

in_docks : (cs : List ℕ) (ds : List DockSeen) → Each (λ p. p.controllers ≡ cs) (map port_in ds) → Each (λ d. d.live.looking.1.controllers ≡ cs) ds
in_docks cs [] a = tt
in_docks cs (d ∷ ds) a = (a.0, in_docks cs ds a.1)

dock_controllers : (f : PolicyFile) (ds : List DockSeen) → map port_in ds ≡ ports_of f → Each (λ d. d.live.looking.1.controllers ≡ f.controllers) ds
dock_controllers f ds e = in_docks f.controllers ds (subst (λ (ps : List PortSeen). Each (λ p. p.controllers ≡ f.controllers) ps) (sym e) (file_controllers f.controllers f.ports))

as_many : (f : PolicyFile) (ds : List DockSeen) → map port_in ds ≡ ports_of f → length ds ≡ length f.ports
as_many f ds e = sym (length-map ds port_in) ∙ (ap length e ∙ length-map f.ports (port_of f.controllers))

made_numbers : (made : List Port) → map (λ p. p.number) made ≡ map (λ p. p.number) (map port_seen made)
made_numbers [] = refl
made_numbers (p ∷ ps) = ap (λ w. p.number ∷ w) (made_numbers ps)

made_macs : (made : List Port) → map (λ p. p.mac) made ≡ map (λ p. p.mac) (map port_seen made)
made_macs [] = refl
made_macs (p ∷ ps) = ap (λ w. p.mac ∷ w) (made_macs ps)

-- ---- an opened harbour

pub few : (workers : ℕ) (file : PolicyFile) (local : Bool) (o : OpenHarbourSeen) → IsOpenFor workers file local o → length o.controllers ≤ 8
few workers file local o x = subst (λ (cs : List ℕ). length cs ≤ 8) (sym x.controllers_are) (few_controllers file x.good)

pub idle : (workers : ℕ) (file : PolicyFile) (local : Bool) (o : OpenHarbourSeen) → IsOpenFor workers file local o → AreIdle (passes_of o.ports)
idle workers file local o x = (docked (16 + length file.controllers) [] x.ports_are.made o.ports x.ports_are.opened).idle

-- docks of numbers and addresses that are those of the opened ports
pub docks_are : (o : OpenHarbourSeen) (docks : List DockSeen) (locals numbers macs given : List ℕ) → docks ≡ docks_of locals numbers macs (live.ports_of o.ports) → locals ≡ chosen o.local given → given ≡ o.macs → numbers ≡ o.numbers → macs ≡ o.macs
    → docks ≡ docks_of (chosen o.local o.macs) o.numbers o.macs (live.ports_of o.ports)
docks_are o docks locals numbers macs given d l g n m = d ∙ (λ i. docks_of ((l ∙ ap (chosen o.local) g) i) (n i) (m i) (live.ports_of o.ports))

-- as many rows as the opened ports have callers
pub rows_are : (o : OpenHarbourSeen) (rows : List (List (Lane StationSeen))) (controllers : List ℕ) (callers : ℕ) → rows ≡ rows_from callers (passes_of o.ports) → callers ≡ 16 + length controllers → controllers ≡ o.controllers → rows ≡ rows_from (16 + length o.controllers) (passes_of o.ports)
rows_are o rows controllers callers r n e = r ∙ ap (λ (k : ℕ). rows_from k (passes_of o.ports)) (n ∙ ap (λ (cs : List ℕ). 16 + length cs) e)

-- docks of these ports
record AreOf (file : PolicyFile) (local : Bool) (ds : List DockSeen) : Type 0 where
  seen : map port_in ds ≡ ports_of file
  passes : Each (λ d. d.live.passes ≡ 16 + length file.controllers) ds
  alike : Each (λ d. d.locals ≡ locals_in ds) ds
  locals_are : locals_in ds ≡ chosen local (map (λ p. p.mac) (ports_of file))

abbrev docks_from : OpenHarbourSeen → List DockSeen
docks_from o = docks_of (chosen o.local o.macs) o.numbers o.macs (live.ports_of o.ports)

macs_made : (made : List Port) (file : PolicyFile) → map port_seen made ≡ ports_of file → map (λ p. p.mac) made ≡ map (λ p. p.mac) (ports_of file)
macs_made made file e = made_macs made ∙ ap (map (λ (q : PortSeen). q.mac)) e

-- docks of the ports that were made
made_docks : (local : Bool) (made : List Port) (os : List OpenSeen) (file : PolicyFile) → 0 < length file.ports → map port_seen made ≡ ports_of file → AreOpened (16 + length file.controllers) made os → AreOf file local (docks_for (chosen local (map (λ p. p.mac) made)) made os)
made_docks local made os file some e a =
    let count : ℕ = 16 + length file.controllers in
    let ms : List ℕ = chosen local (map (λ p. p.mac) made) in
    let ds : List DockSeen = docks_for ms made os in
    let all = docked count ms made os a in
    let seen : map port_in ds ≡ ports_of file = all.ports ∙ e in
    let many : length ds ≡ length file.ports = as_many file ds seen in
    record {
      seen = seen;
      passes = dock_passes count ms made os a;
      alike = all_same ms ds all.locals_are;
      locals_are = first_is ms ds (omega (arith, some, many)) all.locals_are ∙ ap (chosen local) (macs_made made file e);
    }

docks_for_is : (workers : ℕ) (file : PolicyFile) (local : Bool) (o : OpenHarbourSeen) (docks : List DockSeen) (x : IsOpenFor workers file local o) → docks ≡ docks_from o → docks ≡ docks_for (chosen local (map (λ p. p.mac) x.ports_are.made)) x.ports_are.made o.ports
docks_for_is workers file local o docks x d = d ∙ (λ i. docks_of (chosen (x.local_is i) (x.ports_are.macs_are i)) (x.ports_are.numbers_are i) (x.ports_are.macs_are i) (live.ports_of o.ports))

are_of : (workers : ℕ) (file : PolicyFile) (local : Bool) (o : OpenHarbourSeen) (docks : List DockSeen) → IsOpenFor workers file local o → docks ≡ docks_from o → AreOf file local docks
are_of workers file local o docks x d = subst (AreOf file local) (sym (docks_for_is workers file local o docks x d)) (made_docks local x.ports_are.made o.ports file x.some x.ports_are.are x.ports_are.opened)

pub is_harbour : (workers : ℕ) (file : PolicyFile) (local : Bool) (o : OpenHarbourSeen) (docks : List DockSeen) (macs listed asks : List ℕ) → IsOpenFor workers file local o → docks ≡ docks_from o → macs ≡ o.macs → HasLists o.controllers listed asks
    → IsHarbour (record { workers = o.workers; docks = docks; controllers = o.controllers }) o.numbers macs listed asks
is_harbour workers file local o docks macs listed asks x d m lists =
    let all = are_of workers file local o docks x d in
    let like = are_like file docks all.seen in
    let many = as_many file docks all.seen in
    let p = x.ports_are in
    let numbers : o.numbers ≡ map (λ p. p.number) (ports_of file) = p.numbers_are ∙ (made_numbers p.made ∙ ap (map (λ (q : PortSeen). q.number)) p.are) in
    let addresses : o.macs ≡ map (λ p. p.mac) (ports_of file) = p.macs_are ∙ macs_made p.made file p.are in
    record {
      more = omega (arith, x.workers_are, x.more);
      most = omega (arith, x.workers_are, x.most);
      numbers_are = numbers ∙ numbers_like (ports_of file) docks like;
      macs_are = m ∙ (addresses ∙ macs_like (ports_of file) docks like);
      apart = ap are_distinct numbers ∙ good_apart file x.good;
      some = omega (arith, x.some, many);
      few = omega (arith, few_ports file x.good, many);
      listed_are = lists.listed_are;
      asks_are = lists.asks_are;
      callers_few = few workers file local o x;
      controllers_are = subst (λ (cs : List ℕ). Each (λ (d : DockSeen). d.live.looking.1.controllers ≡ cs) docks) (sym x.controllers_are) (dock_controllers file docks all.seen);
      passes = subst (λ (cs : List ℕ). Each (λ (d : DockSeen). d.live.passes ≡ 16 + length cs) docks) (sym x.controllers_are) all.passes;
      alike = all.alike;
    }

-- few addresses to hand packets on to
pub locals_few : (workers : ℕ) (file : PolicyFile) (local : Bool) (o : OpenHarbourSeen) (locals given : List ℕ) → IsOpenFor workers file local o → locals ≡ chosen o.local given → given ≡ o.macs → length locals ≤ 16
locals_few workers file local o locals given x l g =
    let many : length o.macs ≡ length file.ports = ap length x.ports_are.macs_are ∙ (length-map x.ports_are.made (λ (p : Port). p.mac) ∙ (sym (length-map x.ports_are.made port_seen) ∙ (ap length x.ports_are.are ∙ length-map file.ports (port_of file.controllers)))) in
    let few : length given ≤ 16 = omega (arith, ap length g, many, few_ports file x.good) in
    let all : length locals ≡ length (chosen o.local given) = ap length l in
    omega (arith, all, by o.local few)
  where
    by : (b : Bool) → length given ≤ 16 → length (chosen b given) ≤ 16
    by true few = few
    by false few = omega arith

-- ---- with its rows

made_mustered : (workers : ℕ) (file : PolicyFile) (local : Bool) (made : List Port) (os : List OpenSeen) → 0 < length file.ports → map port_seen made ≡ ports_of file → AreOpened (16 + length file.controllers) made os
    → IsMustered workers file local (record { workers = workers; docks = docks_for (chosen local (map (λ p. p.mac) made)) made os; controllers = file.controllers }) (rows_from (16 + length file.controllers) (passes_of os))
made_mustered workers file local made os some e a =
    let count : ℕ = 16 + length file.controllers in
    let ms : List ℕ = chosen local (map (λ p. p.mac) made) in
    let all = docked count ms made os a in
    let rows : List (List (Lane StationSeen)) = rows_from count (passes_of os) in
    let ds : List DockSeen = docks_for ms made os in
    let like = are_like file ds (all.ports ∙ e) in
    let of = made_docks local made os file some e a in
    record {
      run = λ commands. record { workers = refl; ports = like; controllers = refl; locals = of.locals_are };
      size = all.many;
      lanes = rows_lanes 0 ds rows all.rows;
      stand = rows_stand 0 ds rows all.rows;
      whole = rows_whole 0 ds rows all.rows;
      journals = journals_none count ds;
      may = λ l s. record { port = ap (λ ns. is_listed ns l.port) (sym (numbers_like (ports_of file) ds like)) ∙ s.port; controller = s.controller; rules = s.rules };
    }

pub mustered : (workers : ℕ) (file : PolicyFile) (local : Bool) (o : OpenHarbourSeen) (docks : List DockSeen) (rows : List (List (Lane StationSeen))) → IsOpenFor workers file local o → docks ≡ docks_from o → rows ≡ rows_from (16 + length o.controllers) (passes_of o.ports)
    → IsMustered workers file local (record { workers = o.workers; docks = docks; controllers = o.controllers }) rows
mustered workers file local o docks rows x d r =
    let made = x.ports_are.made in
    let e = docks_for_is workers file local o docks x d in
    let own : HarbourSeen = record { workers = workers; docks = docks_for (chosen local (map (λ p. p.mac) made)) made o.ports; controllers = file.controllers } in
    let rows_are : rows ≡ rows_from (16 + length file.controllers) (passes_of o.ports) = r ∙ ap (λ (cs : List ℕ). rows_from (16 + length cs) (passes_of o.ports)) x.controllers_are in
    let here : record { workers = o.workers; docks = docks; controllers = o.controllers } ≡ own = λ i. record { workers = x.workers_are i; docks = e i; controllers = x.controllers_are i } in
    subst (λ (h : HarbourSeen). IsMustered workers file local h rows) (sym here) (subst (IsMustered workers file local own) (sym rows_are) (made_mustered workers file local made o.ports x.some x.ports_are.are x.ports_are.opened))
