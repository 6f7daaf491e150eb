-- What is told of the ports, place by place and list by list.
use Rattle.std.proofs.Common.{◌≡◌, ◌≤◌, ◌<◌, ◌+◌, ◌||◌, ℕ, zero, suc, Bool, true, false, List, [], ◌∷◌, ◌++◌, get_or, length, map, refl, ap, ap₂, sym, ◌∙◌, subst, arith, append_assoc, append-nil, codes, decimal}
use Rattle.std.proofs.lemmas.List.{length-map}
use Rattle.std.specs.List.{flat_map, list_any}
use Rattle.vsw_port.specs.declared.event.Event.{Event}
use Rattle.vsw_port.specs.Order.{counted}
use Rattle.vsw_report.specs.Line.{TextLine}
use Rattle.vsw_report.specs.Order.{AllInCounts}
use Rattle.vsw_report.specs.Print.{loose_text}
use Rattle.vsw_report.specs.declared.round.Loose.{Loose}
use Rattle.vsw_promise.specs.Ports.{PortSeen}
use Rattle.vsw_many.specs.Crew.{AreCounted, crew_text, is_short_crew, ports_text}
use Rattle.vsw_crew.specs.Texts.{AreRising}
use Rattle.vsw_crew.specs.Private.Ports.{AreCountedAt, port_short, port_told, short_at, told_at}

-- ---- places

next_places : (k n : ℕ) → counted (suc k) n ≡ map suc (counted k n)
next_places k zero = refl
next_places k (suc n) = ap (λ ms. suc k ∷ ms) (next_places (suc k) n)

flat_map_next : {A : Type 0} (f : ℕ → List A) (ms : List ℕ) → flat_map f (map suc ms) ≡ flat_map (λ k. f (suc k)) ms
flat_map_next f [] = refl
flat_map_next f (m ∷ ms) = ap (λ r. f (suc m) ++ r) (flat_map_next f ms)

any_next : (f : ℕ → Bool) (ms : List ℕ) → list_any f (map suc ms) ≡ list_any (λ k. f (suc k)) ms
any_next f [] = refl
any_next f (m ∷ ms) = ap (λ r. f (suc m) || r) (any_next f ms)

map_next : {A : Type 0} (f : ℕ → A) (ms : List ℕ) → map f (map suc ms) ≡ map (λ k. f (suc k)) ms
map_next f [] = refl
map_next f (m ∷ ms) = ap (λ r. f (suc m) ∷ r) (map_next f ms)

one_more : (k n : ℕ) → counted k (suc n) ≡ counted k n ++ (k + n) ∷ []
one_more k zero = let same : k ≡ k + 0 = omega arith in ap (λ m. m ∷ []) same
one_more k (suc n) = let same : suc k + n ≡ k + suc n = omega arith in ap (λ ms. k ∷ ms) (one_more (suc k) n ∙ ap (λ m. counted (suc k) n ++ m ∷ []) same)

flat_map_last : {A : Type 0} (f : ℕ → List A) (ms : List ℕ) (m : ℕ) → flat_map f (ms ++ m ∷ []) ≡ flat_map f ms ++ f m
flat_map_last f [] m = append-nil (f m)
flat_map_last f (k ∷ ms) m = ap (λ r. f k ++ r) (flat_map_last f ms m) ∙ sym (append_assoc (f k) (flat_map f ms) (f m))

or_assoc : (a b c : Bool) → (a || (b || c)) ≡ ((a || b) || c)
or_assoc true b c = refl
or_assoc false b c = refl

or_none : (a : Bool) → (a || false) ≡ a
or_none true = refl
or_none false = refl

any_last : (f : ℕ → Bool) (ms : List ℕ) (m : ℕ) → list_any f (ms ++ m ∷ []) ≡ (list_any f ms || f m)
any_last f [] m = or_none (f m)
any_last f (k ∷ ms) m = ap (λ r. f k || r) (any_last f ms m) ∙ or_assoc (f k) (list_any f ms) (f m)

up_to : (n m : ℕ) → m ≡ suc n → counted 0 m ≡ counted 0 n ++ n ∷ []
up_to n m e =
    let same : 0 + n ≡ n = omega arith in
    ap (counted 0) e ∙ (one_more 0 n ∙ ap (λ k. counted 0 n ++ k ∷ []) same)

-- the next port's part, behind those before it
pub text_more : (f : ℕ → List ℕ) (n m : ℕ) (old out new : List ℕ) → m ≡ suc n → out ≡ old ++ flat_map f (counted 0 n) → new ≡ out ++ f n → new ≡ old ++ flat_map f (counted 0 m)
text_more f n m old out new is e p =
    let last : flat_map f (counted 0 m) ≡ flat_map f (counted 0 n) ++ f n = ap (flat_map f) (up_to n m is) ∙ flat_map_last f (counted 0 n) n in
    p ∙ (ap (λ r. r ++ f n) e ∙ (append_assoc old (flat_map f (counted 0 n)) (f n) ∙ ap (λ r. old ++ r) (sym last)))

pub short_more : (f : ℕ → Bool) (n m : ℕ) (short told now : Bool) → m ≡ suc n → short ≡ list_any f (counted 0 n) → told ≡ f n → now ≡ (short || told) → now ≡ list_any f (counted 0 m)
short_more f n m short told now is e p q =
    let last : list_any f (counted 0 m) ≡ (list_any f (counted 0 n) || f n) = ap (list_any f) (up_to n m is) ∙ any_last f (counted 0 n) n in
    q ∙ (ap₂ (λ (a b : Bool). a || b) e p ∙ sym last)

-- ---- counts

pub rises_at : (bs es : List ℕ) (k : ℕ) → AreRising bs es → k < length bs → k < length es → get_or bs k 0 ≤ get_or es k 0
rises_at [] es k r x y = absurd (omega (arith, x))
rises_at (b ∷ bs) [] k r x y = absurd (omega (arith, y))
rises_at (b ∷ bs) (e ∷ es) zero r x y = r.0
rises_at (b ∷ bs) (e ∷ es) (suc k) r x y = rises_at bs es k r.1 (omega (arith, x)) (omega (arith, y))

-- ---- from histories

next_map : {A : Type 0} (f : ℕ → A) (n : ℕ) → map f (counted 1 n) ≡ map (λ k. f (suc k)) (counted 0 n)
next_map f n = ap (map f) (next_places 0 n) ∙ map_next f (counted 0 n)

told_is : (ps : List PortSeen) (hs gs : List (List Event)) (texts : ℕ → List (List TextLine)) → length hs ≡ length ps → length gs ≡ length ps
    → flat_map (told_at (map (λ p. p.number) ps) (map length hs) (map length gs) texts) (counted 0 (length ps)) ≡ ports_text ps hs gs (map texts (counted 0 (length ps)))
told_is [] hs gs texts a b = refl
told_is (p ∷ ps) [] gs texts a b = absurd (omega (arith, a))
told_is (p ∷ ps) (h ∷ hs) [] texts a b = absurd (omega (arith, b))
told_is (p ∷ ps) (h ∷ hs) (g ∷ gs) texts a b =
    let f = told_at (map (λ p. p.number) (p ∷ ps)) (map length (h ∷ hs)) (map length (g ∷ gs)) texts in
    ap (λ r. f 0 ++ r)
    (ap (flat_map f) (next_places 0 (length ps)) ∙ (flat_map_next f (counted 0 (length ps)) ∙ (told_is ps hs gs (λ k. texts (suc k)) (omega (arith, a)) (omega (arith, b)) ∙ ap (ports_text ps hs gs) (sym (next_map texts (length ps))))))

short_is : (hs gs : List (List Event)) (texts : ℕ → List (List TextLine)) (n : ℕ) → length hs ≡ n → length gs ≡ n
    → list_any (short_at (map length hs) (map length gs) texts) (counted 0 n) ≡ is_short_crew hs gs (map texts (counted 0 n))
short_is [] gs texts zero a b = refl
short_is [] gs texts (suc n) a b = absurd (omega (arith, a))
short_is (h ∷ hs) gs texts zero a b = absurd (omega (arith, a))
short_is (h ∷ hs) [] texts (suc n) a b = absurd (omega (arith, b))
short_is (h ∷ hs) (g ∷ gs) texts (suc n) a b =
    let f = short_at (map length (h ∷ hs)) (map length (g ∷ gs)) texts in
    ap (λ r. f 0 || r) (ap (list_any f) (next_places 0 n) ∙ (any_next f (counted 0 n) ∙ (short_is hs gs (λ k. texts (suc k)) n (omega (arith, a)) (omega (arith, b)) ∙ ap (is_short_crew hs gs) (sym (next_map texts n)))))

counted_is : (hs gs : List (List Event)) (texts : ℕ → List (List TextLine)) (n : ℕ) → length hs ≡ n → length gs ≡ n → AreCounted hs gs (map texts (counted 0 n)) → AreCountedAt n (map length hs) (map length gs) texts
counted_is [] gs texts zero a b c k lt = absurd (omega (arith, lt))
counted_is [] gs texts (suc n) a b c k lt = absurd (omega (arith, a))
counted_is (h ∷ hs) gs texts zero a b c k lt = absurd (omega (arith, a))
counted_is (h ∷ hs) [] texts (suc n) a b c k lt = absurd (omega (arith, b))
counted_is (h ∷ hs) (g ∷ gs) texts (suc n) a b c zero lt = c.0
counted_is (h ∷ hs) (g ∷ gs) texts (suc n) a b c (suc k) lt = counted_is hs gs (λ k. texts (suc k)) n (omega (arith, a)) (omega (arith, b)) (subst (AreCounted hs gs) (next_map texts n) c.1) k (omega (arith, lt))

-- these are the ports, and the counts of their histories before and after
pub record AreOf (numbers befores afters : List ℕ) (ps : List PortSeen) (hs gs : List (List Event)) : Type 0 where
  pub numbers_are : map (λ p. p.number) ps ≡ numbers
  pub befores_are : map length hs ≡ befores
  pub afters_are : map length gs ≡ afters
  pub before_each : length befores ≡ length numbers
  pub after_each : length afters ≡ length numbers

few_before : (numbers befores afters : List ℕ) (ps : List PortSeen) (hs gs : List (List Event)) → AreOf numbers befores afters ps hs gs → length hs ≡ length numbers
few_before numbers befores afters ps hs gs o = sym (length-map hs length) ∙ (ap length o.befores_are ∙ o.before_each)

few_after : (numbers befores afters : List ℕ) (ps : List PortSeen) (hs gs : List (List Event)) → AreOf numbers befores afters ps hs gs → length gs ≡ length numbers
few_after numbers befores afters ps hs gs o = sym (length-map gs length) ∙ (ap length o.afters_are ∙ o.after_each)

few_ports : (numbers befores afters : List ℕ) (ps : List PortSeen) (hs gs : List (List Event)) → AreOf numbers befores afters ps hs gs → length ps ≡ length numbers
few_ports numbers befores afters ps hs gs o = sym (length-map ps (λ p. p.number)) ∙ ap length o.numbers_are

pub counted_all : (numbers befores afters : List ℕ) (ps : List PortSeen) (hs gs : List (List Event)) (told texts : ℕ → List (List TextLine)) → AreOf numbers befores afters ps hs gs → ((k : ℕ) → told k ≡ texts k)
    → AreCounted hs gs (map texts (counted 0 (length numbers))) → AreCountedAt (length numbers) befores afters told
counted_all numbers befores afters ps hs gs told texts o same c =
    let right : AreCountedAt (length numbers) (map length hs) (map length gs) texts = counted_is hs gs texts (length numbers) (few_before numbers befores afters ps hs gs o) (few_after numbers befores afters ps hs gs o) c in
    let all : texts ≡ told = λ i k. sym (same k) i in
    subst (λ f. AreCountedAt (length numbers) befores afters f) all (subst (λ es. AreCountedAt (length numbers) befores es texts) o.afters_are (subst (λ bs. AreCountedAt (length numbers) bs (map length gs) texts) o.befores_are right))

pub short_all : (numbers befores afters : List ℕ) (ps : List PortSeen) (hs gs : List (List Event)) (told texts : ℕ → List (List TextLine)) → AreOf numbers befores afters ps hs gs → ((k : ℕ) → told k ≡ texts k)
    → list_any (short_at befores afters told) (counted 0 (length numbers)) ≡ is_short_crew hs gs (map texts (counted 0 (length numbers)))
short_all numbers befores afters ps hs gs told texts o same =
    let right = short_is hs gs texts (length numbers) (few_before numbers befores afters ps hs gs o) (few_after numbers befores afters ps hs gs o) in
    let all : told ≡ texts = λ i k. same k i in
    ap (λ f. list_any (short_at befores afters f) (counted 0 (length numbers))) all
    ∙ (ap₂ (λ (bs es : List ℕ). list_any (short_at bs es texts) (counted 0 (length numbers))) (sym o.befores_are) (sym o.afters_are) ∙ right)

pub told_all : (numbers befores afters : List ℕ) (ps : List PortSeen) (hs gs : List (List Event)) (told texts : ℕ → List (List TextLine)) → AreOf numbers befores afters ps hs gs → ((k : ℕ) → told k ≡ texts k)
    → flat_map (told_at numbers befores afters told) (counted 0 (length numbers)) ≡ ports_text ps hs gs (map texts (counted 0 (length numbers)))
told_all numbers befores afters ps hs gs told texts o same =
    let many : length ps ≡ length numbers = few_ports numbers befores afters ps hs gs o in
    let right = told_is ps hs gs texts (few_before numbers befores afters ps hs gs o ∙ sym many) (few_after numbers befores afters ps hs gs o ∙ sym many) in
    let all : told ≡ texts = λ i k. same k i in
    let there = subst (λ n. flat_map (told_at (map (λ p. p.number) ps) (map length hs) (map length gs) texts) (counted 0 n) ≡ ports_text ps hs gs (map texts (counted 0 n))) many right in
    let one = ap (λ f. flat_map (told_at numbers befores afters f) (counted 0 (length numbers))) all in
    let two = ap (λ (ns : List ℕ). flat_map (told_at ns befores afters texts) (counted 0 (length numbers))) (sym o.numbers_are) in
    let three = ap₂ (λ (bs es : List ℕ). flat_map (told_at (map (λ p. p.number) ps) bs es texts) (counted 0 (length numbers))) (sym o.befores_are) (sym o.afters_are) in
    one ∙ (two ∙ (three ∙ there))

-- ---- a step of the loop over ports

pub port_next : (texts : ℕ → List (List TextLine)) (now : List (List TextLine)) (numbers befores afters : List ℕ) (n m ports : ℕ) (old out new : List ℕ) → m ≡ suc n → n < ports → now ≡ texts n
    → (AllInCounts (get_or befores n 0) now (get_or afters n 0) → new ≡ out ++ port_told (get_or numbers n 0) (get_or befores n 0) (get_or afters n 0) now)
    → (AreCountedAt ports befores afters texts → out ≡ old ++ flat_map (told_at numbers befores afters texts) (counted 0 n))
    → AreCountedAt ports befores afters texts → new ≡ old ++ flat_map (told_at numbers befores afters texts) (counted 0 m)
port_next texts now numbers befores afters n m ports old out new is lt same told so_far counts =
    let here : AllInCounts (get_or befores n 0) now (get_or afters n 0) = subst (λ t. AllInCounts (get_or befores n 0) t (get_or afters n 0)) (sym same) (counts n lt) in
    let part : out ++ port_told (get_or numbers n 0) (get_or befores n 0) (get_or afters n 0) now ≡ out ++ told_at numbers befores afters texts n = ap (λ t. out ++ port_told (get_or numbers n 0) (get_or befores n 0) (get_or afters n 0) t) same in
    text_more (told_at numbers befores afters texts) n m old out new is (so_far counts) (told here ∙ part)

pub short_next : (texts : ℕ → List (List TextLine)) (now : List (List TextLine)) (befores afters : List ℕ) (n m ports : ℕ) (short told new : Bool) → m ≡ suc n → n < ports → now ≡ texts n
    → (AllInCounts (get_or befores n 0) now (get_or afters n 0) → told ≡ port_short (get_or befores n 0) (get_or afters n 0) now)
    → (AreCountedAt ports befores afters texts → short ≡ list_any (short_at befores afters texts) (counted 0 n)) → new ≡ (short || told)
    → AreCountedAt ports befores afters texts → new ≡ list_any (short_at befores afters texts) (counted 0 m)
short_next texts now befores afters n m ports short told new is lt same tells so_far either counts =
    let here : AllInCounts (get_or befores n 0) now (get_or afters n 0) = subst (λ t. AllInCounts (get_or befores n 0) t (get_or afters n 0)) (sym same) (counts n lt) in
    let part : port_short (get_or befores n 0) (get_or afters n 0) now ≡ short_at befores afters texts n = ap (port_short (get_or befores n 0) (get_or afters n 0)) same in
    short_more (short_at befores afters texts) n m short told new is (so_far counts) (tells here ∙ part) either

-- ---- the round

shape : (o r d n p l f : List ℕ) → o ++ r ++ d ++ n ++ p ++ l ++ f ≡ o ++ (r ++ d ++ n ++ p ++ l ++ f)
shape o r d n p l f =
    let one = ap (λ x. x ++ n) (append_assoc o r d) ∙ append_assoc o (r ++ d) n in
    let two = ap (λ x. x ++ p) one ∙ append_assoc o (r ++ d ++ n) p in
    let three = ap (λ x. x ++ l) two ∙ append_assoc o (r ++ d ++ n ++ p) l in
    ap (λ x. x ++ f) three ∙ append_assoc o (r ++ d ++ n ++ p ++ l) f

-- a text of several parts behind the end of a text in pieces
pub two_behind : (front end end1 a b : List ℕ) → end1 ≡ end ++ a ++ b → front ++ end1 ≡ front ++ end ++ a ++ b
two_behind front end end1 a b e =
    ap (λ (x : List ℕ). front ++ x) e ∙ (sym (append_assoc front (end ++ a) b) ∙ ap (λ (x : List ℕ). x ++ b) (sym (append_assoc front end a)))

pub three_behind : (front end end1 a b c : List ℕ) → end1 ≡ end ++ a ++ b ++ c → front ++ end1 ≡ front ++ end ++ a ++ b ++ c
three_behind front end end1 a b c e =
    ap (λ (x : List ℕ). front ++ x) e ∙ (sym (append_assoc front (end ++ a ++ b) c) ∙ ap (λ (x : List ℕ). x ++ c) (two_behind front end (end ++ a ++ b) a b refl))

pub round_told : (first : ℕ) (ps : List PortSeen) (hs gs : List (List Event)) (texts : List (List (List TextLine))) (loose : List Loose) (ports old one two new : List ℕ) → one ≡ old ++ codes "round " ++ decimal first ++ codes "\n"
    → two ≡ one ++ ports → ports ≡ ports_text ps hs gs texts → new ≡ two ++ codes "loose\n" ++ flat_map loose_text loose → new ≡ old ++ crew_text first ps hs gs texts loose
round_told first ps hs gs texts loose ports old one two new e f p g =
    let middle : two ≡ old ++ codes "round " ++ decimal first ++ codes "\n" ++ ports_text ps hs gs texts = f ∙ ap₂ (λ (x y : List ℕ). x ++ y) e p in
    g ∙ (ap (λ (x : List ℕ). x ++ codes "loose\n" ++ flat_map loose_text loose) middle ∙ shape old (codes "round ") (decimal first) (codes "\n") (ports_text ps hs gs texts) (codes "loose\n") (flat_map loose_text loose))
