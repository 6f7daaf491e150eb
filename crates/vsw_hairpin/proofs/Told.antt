-- What a port's lines tell of a packet that was there once.
use Rattle.std.proofs.Common.{◌≡◌, ◌≤◌, ◌<◌, ◌+◌, ◌-◌, ◌==◌, ◌&&◌, ℕ, zero, suc, Bool, true, false, if◌then◌else◌, List, [], ◌∷◌, ◌++◌, length, map, filter, get_or, refl, ap, sym, ◌∙◌, subst, arith, eq-eqb}
use Rattle.vsw_base.specs.declared.flow.Crossing.{Crossing}
use Rattle.vsw_base.specs.Frame.{Parts}
use Rattle.vsw_policy.specs.Sound.{Each}
use Rattle.vsw_port.specs.declared.event.Event.{Event}
use Rattle.vsw_port.specs.Calls.{Carry, Deed, Carried, Asked, Call, job_of, job_doer, doer, calls_of, InOrder, IsShare, AreShares}
use Rattle.vsw_port.specs.Order.{StandsOnce}
use Rattle.vsw_port.proofs.Calls.{each_append}
use Rattle.vsw_port.proofs.Fronts.{append_end, prefix_length}
use Rattle.vsw_promise.specs.Jobs.{fates_told}
use Rattle.vsw_promise.specs.Ports.{PortSeen}
use Rattle.vsw_promise.specs.Rounds.{opening_of}
use Rattle.vsw_promise.specs.Told.{by_of, callers, fates_in, in_told_order, is_packet, is_worker, item_of, line_of, what_of}
use Rattle.vsw_history_law.proofs.Agrees.{is_job}
use Rattle.vsw_history_law.proofs.Callers.{worker_once}
use Rattle.vsw_history_law.proofs.OneLine.{count, count_append, count_yes}
use Rattle.vsw_history_law.proofs.Reports.{doer_job, each_told}
use Rattle.vsw_history_law.proofs.Telling.{told_calls}
use Rattle.vsw_many.specs.Phases.{port_told}
use Rattle.vsw_many.proofs.Actors.{filter_append}
use Rattle.vsw_hairpin.specs.Handing.{told_of}

-- ---- counting

-- the call is of packet n
abbrev pub is_call : ℕ → Call → Bool
is_call n c = is_job n (job_of c.deed)

pub count_map : {A B : Type 0} (p : B → Bool) (f : A → B) (xs : List A) → count (λ x. p (f x)) xs ≡ count p (map f xs)
count_map p f [] = refl
count_map p f (x ∷ xs) = by (p (f x)) (count_map p f xs)
  where
    by : (b : Bool) → count (λ x. p (f x)) xs ≡ count p (map f xs) → length (if b then x ∷ filter (λ x. p (f x)) xs else filter (λ x. p (f x)) xs) ≡ length (if b then f x ∷ filter p (map f xs) else filter p (map f xs))
    by true ih = ap suc ih
    by false ih = ih

empty_is : {A : Type 0} (xs : List A) → length xs ≡ 0 → xs ≡ []
empty_is [] e = refl
empty_is (x ∷ xs) e = absurd (omega (arith, e))

none_pass : {A : Type 0} (p : A → Bool) (xs : List A) → count p xs ≡ 0 → Each (λ x. p x ≡ false) xs
none_pass p [] e = tt
none_pass p (x ∷ xs) e = by (p x) refl (λ f. none_pass p xs f)
  where
    by : (b : Bool) → p x ≡ b → (count p xs ≡ 0 → Each (λ x. p x ≡ false) xs) → Each (λ x. p x ≡ false) (x ∷ xs)
    by true f rest = absurd (omega (arith, e, count_yes p x xs f))
    by false f rest = let same : count p (x ∷ xs) ≡ count p xs = rw f refl in (f, rest (sym same ∙ e))

-- where at most one of these passes a test, and this one does, no other does
record IsOnly {A : Type 0} (p : A → Bool) (front : List A) (x : A) (back : List A) : Type 0 where
  before : count p front ≡ 0
  behind : count p back ≡ 0

only_one : {A : Type 0} (p : A → Bool) (front : List A) (x : A) (back : List A) → p x ≡ true → count p (front ++ x ∷ back) ≤ 1 → IsOnly p front x back
only_one p front x back e few =
    let split = count_append p front (x ∷ back) in
    let yes = count_yes p x back e in
    record { before = omega (arith, split, yes, few); behind = omega (arith, split, yes, few) }

left_one : {A : Type 0} (p : A → Bool) (front : List A) (x : A) (back : List A) → p x ≡ true → IsOnly p front x back → filter p (front ++ x ∷ back) ≡ x ∷ []
left_one p front x back e o =
    let keep : filter p (x ∷ back) ≡ x ∷ filter p back = rw e refl in
    filter_append p front (x ∷ back) ∙ (ap (λ w. w ++ filter p (x ∷ back)) (empty_is (filter p front) o.before) ∙ (keep ∙ ap (λ w. x ∷ w) (empty_is (filter p back) o.behind)))

-- ---- lines

deed_test : (n : ℕ) (d : Deed) → (is_worker (by_of d) && (item_of d == n)) ≡ is_job n (job_of d)
deed_test n (Carried x p fate bytes) = refl
deed_test n (Asked l reply) = refl

filter_lines : (n : ℕ) (cs : List Call) → fates_in n (map line_of cs) ≡ map (λ (c : Call). what_of c.deed) (filter (is_call n) cs)
filter_lines n [] = refl
filter_lines n (c ∷ cs) = by (is_call n c) (deed_test n c.deed) (filter_lines n cs)
  where
    by : (b : Bool) → is_packet n (line_of c) ≡ b → fates_in n (map line_of cs) ≡ map (λ (c : Call). what_of c.deed) (filter (is_call n) cs)
        → fates_in n (line_of c ∷ map line_of cs) ≡ map (λ (c : Call). what_of c.deed) (if b then c ∷ filter (is_call n) cs else filter (is_call n) cs)
    by true e ih = rw e (ap (λ w. what_of c.deed ∷ w) ih)
    by false e ih = rw e ih

-- what passes one test passes another, so the other may be made first
filter_first : {A : Type 0} (p q : A → Bool) (xs : List A) → Each (λ x. p x ≡ true → q x ≡ true) xs → filter p xs ≡ filter p (filter q xs)
filter_first p q [] e = refl
filter_first p q (x ∷ xs) e = by (p x) (q x) refl refl (filter_first p q xs e.1)
  where
    by : (b c : Bool) → p x ≡ b → q x ≡ c → filter p xs ≡ filter p (filter q xs) → (if b then x ∷ filter p xs else filter p xs) ≡ filter p (if c then x ∷ filter q xs else filter q xs)
    by true true f g ih = rw f (ap (λ w. x ∷ w) ih)
    by true false f g ih = absurd (let t = e.0 f in cc (t, g))
    by false true f g ih = rw f ih
    by false false f g ih = ih

-- the calls of a packet that one caller brings are told as they are
told_packet : (ns : List ℕ) (n k : ℕ) (cs : List Call) (low more : ℕ) → StandsOnce k (callers ns) → InOrder low (calls_of ns k cs) (low + more) → Each (λ c. is_call n c ≡ true → (doer ns c.deed == k) ≡ true) cs
    → filter (is_call n) (in_told_order ns cs low more) ≡ filter (is_call n) cs
told_packet ns n k cs low more once order e =
    filter_first (is_call n) (λ c. doer ns c.deed == k) (in_told_order ns cs low more) (each_told (λ c. is_call n c ≡ true → (doer ns c.deed == k) ≡ true) ns cs low more e)
    ∙ (ap (filter (is_call n)) (told_calls ns cs low more k once order)
    ∙ sym (filter_first (is_call n) (λ c. doer ns c.deed == k) cs e))

-- ---- one call

others_pass : (ns : List ℕ) (n k : ℕ) (cs : List Call) → Each (λ c. is_call n c ≡ false) cs → Each (λ c. is_call n c ≡ true → (doer ns c.deed == k) ≡ true) cs
others_pass ns n k [] e = tt
others_pass ns n k (c ∷ cs) e = ((λ t. absurd (let f = e.0 in cc (t, f))), others_pass ns n k cs e.1)

-- where one call at most is of a packet, and this one is, the port's lines tell of the packet what became of it then
pub port_tells_one : (p : PortSeen) (h g : List Event) (front back : List Call) (call : Call) (x : Crossing) (parts : Parts) → AreShares (opening_of p) h g (front ++ call ∷ back) → job_of call.deed ≡ Carry x parts → x.caller < 16
    → count (is_call x.packet) (front ++ call ∷ back) ≤ 1 → fates_in x.packet (port_told p h g (front ++ call ∷ back)).lines ≡ what_of call.deed ∷ []
port_tells_one p h g front back call x parts shares job low few =
    filter_lines n (in_told_order ns calls (length h) (length g - length h))
    ∙ ap (map (λ (c : Call). what_of c.deed)) (told_packet ns n k calls (length h) (length g - length h) (worker_once ns k low) order own ∙ left_one (is_call n) front call back yes only)
  where
    ns : List ℕ
    ns = p.controllers

    n : ℕ
    n = x.packet

    k : ℕ
    k = x.caller

    calls : List Call
    calls = front ++ call ∷ back

    yes : is_call x.packet call ≡ true
    yes = ap (is_job x.packet) job ∙ eq-eqb x.packet x.packet refl

    only : IsOnly (is_call x.packet) front call back
    only = only_one (is_call x.packet) front call back yes few

    brings : doer p.controllers call.deed ≡ x.caller
    brings = sym (doer_job p.controllers call.deed) ∙ ap (job_doer p.controllers) job

    own : Each (λ c. is_call x.packet c ≡ true → (doer p.controllers c.deed == x.caller) ≡ true) (front ++ call ∷ back)
    own = each_append (λ c. is_call x.packet c ≡ true → (doer p.controllers c.deed == x.caller) ≡ true) front (call ∷ back) (others_pass p.controllers x.packet x.caller front (none_pass (is_call x.packet) front only.before))
        ((λ t. eq-eqb (doer p.controllers call.deed) x.caller brings), others_pass p.controllers x.packet x.caller back (none_pass (is_call x.packet) back only.behind))

    share : IsShare (opening_of p) h g x.caller (calls_of p.controllers x.caller (front ++ call ∷ back))
    share = shares x.caller

    order : InOrder (length h) (calls_of p.controllers x.caller (front ++ call ∷ back)) (length h + (length g - length h))
    order = subst (λ m. InOrder (length h) (calls_of p.controllers x.caller (front ++ call ∷ back)) m) (omega (arith, prefix_length h g share.begins)) share.in_order

-- ---- all ports

-- the calls at each port are all callers' shares of what its history grew by, and no packet was there twice
abbrev pub AllShared : List PortSeen → List (List Event) → List (List Event) → List (List Call) → Type 0
AllShared [] [] [] [] = Unit {0}
AllShared (p ∷ ps) (h ∷ hs) (g ∷ gs) (c ∷ calls) = AreShares (opening_of p) h g c × ((n : ℕ) → count (is_call n) c ≤ 1) × AllShared ps hs gs calls
AllShared _ _ _ _ = ⊥

-- so the round tells of a packet at a port what became of it there
pub told_once : (ps : List PortSeen) (hs gs : List (List Event)) (calls : List (List Call)) (i : ℕ) (front back : List Call) (call : Call) (x : Crossing) (parts : Parts) → AllShared ps hs gs calls → get_or calls i [] ≡ front ++ call ∷ back
    → job_of call.deed ≡ Carry x parts → x.caller < 16 → fates_told (told_of ps hs gs calls) i x.packet ≡ what_of call.deed ∷ []
told_once [] [] [] [] i front back call x parts a is job low = absurd (none front is)
  where
    none : (front : List Call) → [] ≡ front ++ call ∷ back → ⊥
    none [] e = cc e
    none (c ∷ front) e = cc e
told_once (p ∷ ps) (h ∷ hs) (g ∷ gs) (c ∷ calls) zero front back call x parts a is job low =
    append_end (fates_in x.packet (port_told p h g c).lines)
    ∙ (ap (λ w. fates_in x.packet (port_told p h g w).lines) is
    ∙ port_tells_one p h g front back call x parts (subst (AreShares (opening_of p) h g) is a.0) job low (subst (λ w. count (is_call x.packet) w ≤ 1) is (a.1 x.packet)))
told_once (p ∷ ps) (h ∷ hs) (g ∷ gs) (c ∷ calls) (suc i) front back call x parts a is job low = told_once ps hs gs calls i front back call x parts a.2 is job low
told_once [] (h ∷ hs) gs calls i front back call x parts a is job low = absurd a
told_once [] [] (g ∷ gs) calls i front back call x parts a is job low = absurd a
told_once [] [] [] (c ∷ calls) i front back call x parts a is job low = absurd a
told_once (p ∷ ps) [] gs calls i front back call x parts a is job low = absurd a
told_once (p ∷ ps) (h ∷ hs) [] calls i front back call x parts a is job low = absurd a
told_once (p ∷ ps) (h ∷ hs) (g ∷ gs) [] i front back call x parts a is job low = absurd a
