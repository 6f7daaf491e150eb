-- One more command, and one more packet.
use Rattle.std.proofs.Common.{◌≡◌, ◌<◌, ℕ, zero, suc, ◌+◌, ◌==◌, ◌&&◌, ◌||◌, Bool, true, false, if◌then◌else◌, List, [], ◌∷◌, ◌++◌, length, map, filter, take, get_or, slice_get, Some, Result, Ok, Err, OnOk, refl, ap, ap₂, sym, ◌∙◌, subst, arith, append_assoc, append-nil}
use Rattle.std.specs.Prelude.{⊤}
use Rattle.std.specs.List.{flat_map}
use Rattle.std.proofs.lemmas.List.Concat.{flat_map-append}
use Rattle.vsw_base.specs.declared.fault.NoMemory.{NoMemory}
use Rattle.vsw_commandfile.specs.declared.line.Line.{Line}
use Rattle.vsw_port.specs.Calls.{Ask}
use Rattle.vsw_port.specs.Order.{numbered}
use Rattle.vsw_pcap.specs.declared.capture.Record.{Record}
use Rattle.vsw_policy.specs.Layers.{place_of}
use Rattle.vsw_policy.specs.Sound.{Each, is_listed}
use Rattle.vsw_promise.specs.Jobs.{Placed, aim_of, loose_after, loose_among, placed_packet, placed_packets}
use Rattle.vsw_many.specs.Dealing.{placed_lines}
use Rattle.vsw_report.specs.declared.round.Loose.{Loose}
use Rattle.vsw_promise.specs.Schedule.{commands_at}
use Rattle.vsw_actors.specs.Deal.{dealt}
use Rattle.vsw_actors.specs.Private.Aims.{beside}

next : (n : ℕ) → n + 1 ≡ suc n
next n = omega arith

pub always : (P : Type 0) (r : Result ⊤ NoMemory) → P → OnOk r P
always P (Ok u) p = p
always P (Err f) p = tt

-- shares that were dealt these jobs, and then these
abbrev pub Deals : List ℕ → List (List Placed) → List Placed → List (List Placed) → Type 0
Deals cs s more t = (js : List Placed) → s ≡ dealt cs js → t ≡ dealt cs (js ++ more)

pub deals_none : (cs : List ℕ) (s : List (List Placed)) → Deals cs s [] s
deals_none cs s js e = subst (λ w. s ≡ dealt cs w) (sym (append-nil js)) e

deals_join : (cs : List ℕ) (s t u : List (List Placed)) (a b c : List Placed) → c ≡ a ++ b → Deals cs s a t → Deals cs t b u → Deals cs s c u
deals_join cs s t u a b c is first second js e = subst (λ w. u ≡ dealt cs w) (append_assoc js a b ∙ ap (λ w. js ++ w) (sym is)) (second (js ++ a) (first js e))

take_more : {A B : Type 0} (f : A → List B) (xs : List A) (i : ℕ) (x : A) → slice_get xs i ≡ Some x → flat_map f (take (suc i) xs) ≡ flat_map f (take i xs) ++ f x
take_more f [] i x at = absurd (cc at)
take_more f (y ∷ ys) zero x at = let same : y ≡ x = cc at in append-nil (f y) ∙ ap f same
take_more f (y ∷ ys) (suc i) x at = ap (λ w. f y ++ w) (take_more f ys i x at) ∙ sym (append_assoc (f y) (flat_map f (take i ys)) (f x))

same_default : {A : Type 0} (xs : List A) (i : ℕ) (d e : A) → i < length xs → get_or xs i d ≡ get_or xs i e
same_default [] i d e lt = absurd (omega (arith, lt))
same_default (x ∷ xs) zero d e lt = refl
same_default (x ∷ xs) (suc i) d e lt = same_default xs i d e (omega (arith, lt))

-- what is read at a place within is what stands there
pub read_there : {A : Type 0} (xs : List A) (i : ℕ) (d : A) → i < length xs → get_or xs i d ≡ get_or xs i (get_or xs i d)
read_there xs i d lt = same_default xs i d (get_or xs i d) lt

-- ---- commands

pub place_within : (ns : List ℕ) (c : ℕ) → is_listed ns c ≡ true → place_of c ns < length ns
place_within [] c e = absurd (cc e)
place_within (n ∷ ns) c e = by (c == n) refl (λ f. place_within ns c f)
  where
    left : (b : Bool) → (b || is_listed ns c) ≡ true → b ≡ false → is_listed ns c ≡ true
    left true e f = absurd (cc f)
    left false e f = e

    by : (b : Bool) → (c == n) ≡ b → (is_listed ns c ≡ true → place_of c ns < length ns) → (if b then 0 else suc (place_of c ns)) < suc (length ns)
    by true t ih = omega arith
    by false t ih = omega (arith, ih (left (c == n) e t))

-- a command is a job where it runs beside the packets, and else none
pub is_beside : (numbers : List ℕ) (l : Line) (place : ℕ) → l.during ≡ true → place ≡ place_of l.port numbers → beside numbers l ≡ (place, Ask l) ∷ []
is_beside numbers l place e at = ap (λ b. if b then (place_of l.port numbers, Ask l) ∷ [] else []) e ∙ ap (λ i. (i, Ask l) ∷ []) (sym at)

pub is_not_beside : (numbers : List ℕ) (l : Line) → l.during ≡ false → beside numbers l ≡ []
is_not_beside numbers l e = ap (λ b. if b then (place_of l.port numbers, Ask l) ∷ [] else []) e

-- the commands of the round at these places, up to one
abbrev pub lines_to : List ℕ → List Line → ℕ → ℕ → List Placed
lines_to numbers lines first i = flat_map (beside numbers) (take i (commands_at first lines))

line_there : (lines cs : List Line) (places : List ℕ) (i x : ℕ) (l : Line) → map (λ place. slice_get lines place) places ≡ map Some cs → i < length places → x ≡ get_or places i x → slice_get lines x ≡ Some l → slice_get cs i ≡ Some l
line_there lines cs [] i x l e lt here at = absurd (omega (arith, lt))
line_there lines [] (p ∷ ps) i x l e lt here at = absurd (cc e)
line_there lines (c ∷ cs) (p ∷ ps) zero x l e lt here at = let first : slice_get lines p ≡ Some c = cc e in sym first ∙ (ap (slice_get lines) (sym here) ∙ at)
line_there lines (c ∷ cs) (p ∷ ps) (suc i) x l e lt here at = line_there lines cs ps i x l (cc e) (omega (arith, lt)) here at

pub lines_next : (cs numbers places : List ℕ) (lines : List Line) (first i x : ℕ) (l : Line) (s t u : List (List Placed)) → map (λ place. slice_get lines place) places ≡ map Some (commands_at first lines) → i < length places → x ≡ get_or places i x → slice_get lines x ≡ Some l
    → Deals cs s (lines_to numbers lines first i) t → Deals cs t (beside numbers l) u → Deals cs s (lines_to numbers lines first (i + 1)) u
lines_next cs numbers places lines first i x l s t u e lt here at so_far one =
    let there = line_there lines (commands_at first lines) places i x l e lt here at in
    deals_join cs s t u (lines_to numbers lines first i) (beside numbers l) (lines_to numbers lines first (i + 1)) (ap (lines_to numbers lines first) (next i) ∙ take_more (beside numbers) (commands_at first lines) i l there) so_far one

pub there_within : {A : Type 0} (xs : List A) (n : ℕ) (x : A) → slice_get xs n ≡ Some x → n < length xs
there_within [] n x e = absurd (cc e)
there_within (y ∷ ys) zero x e = omega arith
there_within (y ∷ ys) (suc n) x e = omega (arith, there_within ys n x e)

-- a round's command stands in the file
pub line_within : (lines cs : List Line) (places : List ℕ) (i x : ℕ) → map (λ place. slice_get lines place) places ≡ map Some cs → i < length places → x ≡ get_or places i x → x < length lines
line_within lines cs [] i x e lt here = absurd (omega (arith, lt))
line_within lines [] (p ∷ ps) i x e lt here = absurd (cc e)
line_within lines (c ∷ cs) (p ∷ ps) zero x e lt here = let first : slice_get lines p ≡ Some c = cc e in there_within lines x c (ap (slice_get lines) here ∙ first)
line_within lines (c ∷ cs) (p ∷ ps) (suc i) x e lt here = line_within lines cs ps i x (cc e) (omega (arith, lt)) here

-- what holds of each holds of one
pub each_there : {A : Type 0} (P : A → Type 0) (xs : List A) (n : ℕ) (x : A) → slice_get xs n ≡ Some x → Each P xs → P x
each_there P [] n x e a = absurd (cc e)
each_there P (y ∷ ys) zero x e a = let same : y ≡ x = cc e in subst P same a.0
each_there P (y ∷ ys) (suc n) x e a = each_there P ys n x e a.1

lines_step : (numbers : List ℕ) (l : Line) (a b : Bool) (xs ys : List Line) → beside numbers l ≡ (if b then (place_of l.port numbers, Ask l) ∷ [] else []) → flat_map (beside numbers) xs ≡ map (λ l. (place_of l.port numbers, Ask l)) ys
    → flat_map (beside numbers) (if a then l ∷ xs else xs) ≡ map (λ l. (place_of l.port numbers, Ask l)) (if a && b then l ∷ ys else ys)
lines_step numbers l true true xs ys e ih = ap₂ (λ x y. x ++ y) e ih
lines_step numbers l true false xs ys e ih = ap₂ (λ x y. x ++ y) e ih
lines_step numbers l false b xs ys e ih = ih

-- these are the commands beside the packets
lines_placed : (numbers : List ℕ) (lines : List Line) (first : ℕ) → flat_map (beside numbers) (commands_at first lines) ≡ placed_lines numbers lines first
lines_placed numbers [] first = refl
lines_placed numbers (l ∷ ls) first = lines_step numbers l (l.at == first) l.during (commands_at first ls) (filter (λ l. (l.at == first) && l.during) ls) refl (lines_placed numbers ls first)

take_whole : {A B : Type 0} (f : ℕ → A) (g : B → A) (ns : List ℕ) (xs : List B) → map f ns ≡ map g xs → take (length ns) xs ≡ xs
take_whole f g [] [] e = refl
take_whole f g [] (x ∷ xs) e = absurd (cc e)
take_whole f g (n ∷ ns) [] e = refl
take_whole f g (n ∷ ns) (x ∷ xs) e = ap (λ w. x ∷ w) (take_whole f g ns xs (cc e))

-- all commands were dealt
pub lines_all : (cs numbers places : List ℕ) (lines : List Line) (first i : ℕ) (s t : List (List Placed)) → map (λ place. slice_get lines place) places ≡ map Some (commands_at first lines) → i ≡ length places → Deals cs s (lines_to numbers lines first i) t → Deals cs s (placed_lines numbers lines first) t
lines_all cs numbers places lines first i s t e end so_far =
    let whole : lines_to numbers lines first i ≡ placed_lines numbers lines first = ap (lines_to numbers lines first) end ∙ (ap (flat_map (beside numbers)) (take_whole (λ place. slice_get lines place) Some places (commands_at first lines) e) ∙ lines_placed numbers lines first) in
    subst (λ w. Deals cs s w t) whole so_far

-- ---- packets

packet_more : (first i : ℕ) (packets : List Record) (r : Record) → slice_get packets i ≡ Some r → numbered first (take (suc i) packets) ≡ numbered first (take i packets) ++ (first + i, r) ∷ []
packet_more first i [] r at = absurd (cc at)
packet_more first zero (p ∷ ps) r at = let same : p ≡ r = cc at in let here : first ≡ first + 0 = omega arith in ap₂ (λ n q. (n, q) ∷ []) here same
packet_more first (suc i) (p ∷ ps) r at =
    let here : suc first + i ≡ first + suc i = omega arith in
    ap (λ w. (first, p) ∷ w) (packet_more (suc first) i ps r at ∙ ap (λ n. numbered (suc first) (take i ps) ++ (n, r) ∷ []) here)

pub packets_more : {A : Type 0} (f : ℕ × Record → List A) (first i : ℕ) (packets : List Record) (r : Record) → slice_get packets i ≡ Some r → flat_map f (numbered first (take (i + 1) packets)) ≡ flat_map f (numbered first (take i packets)) ++ f (first + i, r)
packets_more f first i packets r at =
    ap (λ n. flat_map f (numbered first (take n packets))) (next i)
    ∙ (ap (flat_map f) (packet_more first i packets r at)
    ∙ (flat_map-append f (numbered first (take i packets)) ((first + i, r) ∷ []) ∙ ap (λ w. flat_map f (numbered first (take i packets)) ++ w) (append-nil (f (first + i, r)))))

pub packets_next : (cs : List ℕ) (workers : ℕ) (macs : List ℕ) (first i : ℕ) (packets : List Record) (r : Record) (s t u : List (List Placed)) → slice_get packets i ≡ Some r
    → Deals cs s (placed_packets workers false macs [] (numbered first (take i packets))) t → Deals cs t (placed_packet workers (first + i) r.moment [] (aim_of macs r)) u → Deals cs s (placed_packets workers false macs [] (numbered first (take (i + 1) packets))) u
packets_next cs workers macs first i packets r s t u at so_far one =
    deals_join cs s t u (placed_packets workers false macs [] (numbered first (take i packets))) (placed_packet workers (first + i) r.moment [] (aim_of macs r)) (placed_packets workers false macs [] (numbered first (take (i + 1) packets)))
    (packets_more (λ p. placed_packet workers p.0 p.1.moment [] (aim_of macs p.1)) first i packets r at) so_far one

pub loose_next : (macs : List ℕ) (first i : ℕ) (packets : List Record) (r : Record) (old t u : List Loose) → slice_get packets i ≡ Some r
    → t ≡ old ++ loose_among macs (numbered first (take i packets)) → u ≡ t ++ loose_after (first + i) (aim_of macs r) → u ≡ old ++ loose_among macs (numbered first (take (i + 1) packets))
loose_next macs first i packets r old t u at so_far one =
    one ∙ (ap (λ w. w ++ loose_after (first + i) (aim_of macs r)) so_far
    ∙ (append_assoc old (loose_among macs (numbered first (take i packets))) (loose_after (first + i) (aim_of macs r)) ∙ ap (λ w. old ++ w) (sym (packets_more (λ p. loose_after p.0 (aim_of macs p.1)) first i packets r at))))
