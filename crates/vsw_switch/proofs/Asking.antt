-- The commands and the packets of a round, one after the other.
use Rattle.std.proofs.Common.{◌≡◌, ◌<◌, ℕ, zero, suc, ◌+◌, Bool, true, false, if◌then◌else◌, List, [], ◌∷◌, ◌++◌, length, map, filter, take, get_or, slice_get, Some, option_to_list, refl, ap, ap₂, sym, ◌∙◌, subst, arith, append_assoc}
use Rattle.std.proofs.lemmas.List.Concat.{flat_map-append}
use Rattle.std.proofs.lemmas.List.Elements.{filter-append}
use Rattle.vsw_commandfile.specs.declared.line.Line.{Line}
use Rattle.vsw_port.specs.Order.{numbered}
use Rattle.vsw_port.proofs.Fronts.{append_end}
use Rattle.vsw_pcap.specs.declared.capture.Record.{Record}
use Rattle.vsw_policy.specs.Sound.{Each}
use Rattle.vsw_promise.specs.Jobs.{Placed, aim_of, loose_after, loose_among, placed_packet, placed_packets}
use Rattle.vsw_switch.specs.Does.{Asks, Forwards, Hands, HandsOn, Works, macs_in, numbers_in, placed_line}
use Rattle.vsw_report.specs.declared.round.Loose.{Loose}
use Rattle.vsw_switch.specs.Switch.{SwitchNow}
use Rattle.vsw_switch.specs.Steps.{ForwardsAll, is_when, lines_at}
use Rattle.vsw_switch.proofs.Handing.{hands_join, hands_macs}
use Rattle.vsw_switch.proofs.Steps.{works_join, works_numbers}
use Rattle.vsw_switch.proofs.Tellings.{map_append}

-- ---- commands

-- the commands at these places of the file were asked, those beside the packets or those before them
abbrev pub AsksOf : Bool → List Line → SwitchNow → List ℕ → SwitchNow → Type 0
AsksOf during lines s places t = Works s (map (placed_line (numbers_in s)) (filter (is_when during) (lines_at lines places))) t

same_default : {A : Type 0} (xs : List A) (i : ℕ) (d e : A) → i < length xs → get_or xs i d ≡ get_or xs i e
same_default [] i d e lt = absurd (omega (arith, lt))
same_default (x ∷ xs) zero d e lt = refl
same_default (x ∷ xs) (suc i) d e lt = same_default xs i d e (omega (arith, lt))

-- what is read at a place within is what stands there
pub read_there : {A : Type 0} (xs : List A) (i : ℕ) (d : A) → i < length xs → get_or xs i d ≡ get_or xs i (get_or xs i d)
read_there xs i d lt = same_default xs i d (get_or xs i d) lt

line_more : (lines : List Line) (places : List ℕ) (i x : ℕ) (l : Line) → i < length places → x ≡ get_or places i x → slice_get lines x ≡ Some l → lines_at lines (take (suc i) places) ≡ lines_at lines (take i places) ++ l ∷ []
line_more lines [] i x l lt here at = absurd (omega (arith, lt))
line_more lines (p ∷ ps) zero x l lt here at = ap (λ o. option_to_list o ++ []) (ap (slice_get lines) (sym here) ∙ at)
line_more lines (p ∷ ps) (suc i) x l lt here at = ap (λ w. option_to_list (slice_get lines p) ++ w) (line_more lines ps i x l (omega (arith, lt)) here at) ∙ sym (append_assoc (option_to_list (slice_get lines p)) (lines_at lines (take i ps)) (l ∷ []))

next : (n : ℕ) → n + 1 ≡ suc n
next n = omega arith

-- the jobs of these commands
abbrev jobs_at : Bool → List Line → List ℕ → List ℕ → List Placed
jobs_at during lines numbers places = map (placed_line numbers) (filter (is_when during) (lines_at lines places))

jobs_more : (during b : Bool) (lines : List Line) (numbers places : List ℕ) (i x : ℕ) (l : Line) → i < length places → x ≡ get_or places i x → slice_get lines x ≡ Some l → is_when during l ≡ b
    → jobs_at during lines numbers (take (i + 1) places) ≡ jobs_at during lines numbers (take i places) ++ map (placed_line numbers) (if b then l ∷ [] else [])
jobs_more during b lines numbers places i x l lt here at is =
    ap (λ n. jobs_at during lines numbers (take n places)) (next i)
    ∙ (ap (λ ls. map (placed_line numbers) (filter (is_when during) ls)) (line_more lines places i x l lt here at)
    ∙ (ap (map (placed_line numbers)) (filter-append (is_when during) (lines_at lines (take i places)) (l ∷ []))
    ∙ (map_append (placed_line numbers) (filter (is_when during) (lines_at lines (take i places))) (if is_when during l then l ∷ [] else [])
    ∙ ap (λ c. jobs_at during lines numbers (take i places) ++ map (placed_line numbers) (if c then l ∷ [] else [])) is)))

-- one more command is asked
pub asks_this : (during : Bool) (lines : List Line) (s t u v : SwitchNow) (places : List ℕ) (i x : ℕ) (l : Line) → i < length places → x ≡ get_or places i x → slice_get lines x ≡ Some l → is_when during l ≡ true
    → AsksOf during lines s (take i places) t → Asks t l v → u ≡ v → AsksOf during lines s (take (i + 1) places) u
asks_this during lines s t u v places i x l lt here at is a asks same =
    let numbers = works_numbers s t (jobs_at during lines (numbers_in s) (take i places)) a in
    let one : Works t (placed_line (numbers_in s) l ∷ []) v = subst (λ ns. Works t (placed_line ns l ∷ []) v) numbers asks in
    subst (λ w. AsksOf during lines s (take (i + 1) places) w) (sym same)
    (subst (λ js. Works s js v) (sym (jobs_more during true lines (numbers_in s) places i x l lt here at is)) (works_join s t v (jobs_at during lines (numbers_in s) (take i places)) (placed_line (numbers_in s) l ∷ []) a one))

-- one more isn't
pub asks_not : (during : Bool) (lines : List Line) (s t u : SwitchNow) (places : List ℕ) (i x : ℕ) (l : Line) → i < length places → x ≡ get_or places i x → slice_get lines x ≡ Some l → is_when during l ≡ false
    → AsksOf during lines s (take i places) t → u ≡ t → AsksOf during lines s (take (i + 1) places) u
asks_not during lines s t u places i x l lt here at is a same =
    subst (λ w. AsksOf during lines s (take (i + 1) places) w) (sym same)
    (subst (λ js. Works s js t) (sym (jobs_more during false lines (numbers_in s) places i x l lt here at is ∙ append_end (jobs_at during lines (numbers_in s) (take i places)))) a)

-- ---- the places of a round's commands

pub places_within : (lines cs : List Line) (places : List ℕ) → map (λ place. slice_get lines place) places ≡ map Some cs → Each (λ place. place < length lines) places
places_within lines cs [] e = tt
places_within lines [] (p ∷ ps) e = absurd (cc e)
places_within lines (c ∷ cs) (p ∷ ps) e = (there lines p c (cc e), places_within lines cs ps (cc e))
  where
    there : (lines : List Line) (n : ℕ) (l : Line) → slice_get lines n ≡ Some l → n < length lines
    there [] n l e = absurd (cc e)
    there (k ∷ ks) zero l e = omega arith
    there (k ∷ ks) (suc n) l e = omega (arith, there ks n l e)

pub lines_are : (lines cs : List Line) (places : List ℕ) → map (λ place. slice_get lines place) places ≡ map Some cs → lines_at lines places ≡ cs
lines_are lines [] [] e = refl
lines_are lines (c ∷ cs) [] e = absurd (cc e)
lines_are lines [] (p ∷ ps) e = absurd (cc e)
lines_are lines (c ∷ cs) (p ∷ ps) e =
    let first : slice_get lines p ≡ Some c = cc e in
    let rest = lines_are lines cs ps (cc e) in
    ap₂ (λ o w. option_to_list o ++ w) first rest

-- ---- packets

packet_more : (first i : ℕ) (packets : List Record) (r : Record) → slice_get packets i ≡ Some r → numbered first (take (suc i) packets) ≡ numbered first (take i packets) ++ (first + i, r) ∷ []
packet_more first i [] r at = absurd (cc at)
packet_more first zero (p ∷ ps) r at = let same : p ≡ r = cc at in let here : first ≡ first + 0 = omega arith in ap₂ (λ n q. (n, q) ∷ []) here same
packet_more first (suc i) (p ∷ ps) r at =
    let here : suc first + i ≡ first + suc i = omega arith in
    ap (λ w. (first, p) ∷ w) (packet_more (suc first) i ps r at ∙ ap (λ n. numbered (suc first) (take i ps) ++ (n, r) ∷ []) here)

-- more jobs, and what they handed on
hands_more : (s t u : SwitchNow) (jobs more : List Placed) (loose others : List Loose) → Hands s jobs loose t → Hands t more others u → Hands s (jobs ++ more) (loose ++ others) u
hands_more s t u jobs more loose others w v = record {
  workers = v.workers ∙ w.workers;
  locals = v.locals ∙ w.locals;
  ports = hands_join s.locals jobs more s.ports t.ports u.ports w.ports (subst (λ ms. HandsOn ms more t.ports u.ports) w.locals v.ports);
  loose_are = v.loose_are ∙ (ap (λ x. x ++ others) w.loose_are ∙ append_assoc s.loose loose others);
}

-- one more packet is forwarded
pub forwards_next : (s t u : SwitchNow) (first i : ℕ) (packets : List Record) (r : Record) → slice_get packets i ≡ Some r → ForwardsAll s (numbered first (take i packets)) t → Forwards t (first + i) r u → ForwardsAll s (numbered first (take (i + 1) packets)) u
forwards_next s t u first i packets r at a f =
    let before = numbered first (take i packets) in
    let n = first + i in
    let jobs = placed_packets s.workers false (macs_in s) [] before in
    let loose = loose_among (macs_in s) before in
    let macs : macs_in t ≡ macs_in s = hands_macs s t jobs loose a in
    let one : Hands t (placed_packet s.workers n r.moment [] (aim_of (macs_in s) r)) (loose_after n (aim_of (macs_in s) r)) u =
    subst (λ k. Hands t (placed_packet k n r.moment [] (aim_of (macs_in s) r)) (loose_after n (aim_of (macs_in s) r)) u) a.workers (subst (λ ms. Hands t (placed_packet t.workers n r.moment [] (aim_of ms r)) (loose_after n (aim_of ms r)) u) macs f) in
    let all : numbered first (take (i + 1) packets) ≡ before ++ (n, r) ∷ [] = ap (λ k. numbered first (take k packets)) (next i) ∙ packet_more first i packets r at in
    let jobs_are : placed_packets s.workers false (macs_in s) [] (before ++ (n, r) ∷ []) ≡ jobs ++ placed_packet s.workers n r.moment [] (aim_of (macs_in s) r) =
    flat_map-append (λ p. placed_packet s.workers p.0 p.1.moment [] (aim_of (macs_in s) p.1)) before ((n, r) ∷ []) ∙ ap (λ w. jobs ++ w) (append_end (placed_packet s.workers n r.moment [] (aim_of (macs_in s) r))) in
    let loose_are : loose_among (macs_in s) (before ++ (n, r) ∷ []) ≡ loose ++ loose_after n (aim_of (macs_in s) r) =
    flat_map-append (λ p. loose_after p.0 (aim_of (macs_in s) p.1)) before ((n, r) ∷ []) ∙ ap (λ w. loose ++ w) (append_end (loose_after n (aim_of (macs_in s) r))) in
    subst (λ w. ForwardsAll s w u) (sym all)
    (subst (λ js. Hands s js (loose_among (macs_in s) (before ++ (n, r) ∷ [])) u) (sym jobs_are)
    (subst (λ ls. Hands s (jobs ++ placed_packet s.workers n r.moment [] (aim_of (macs_in s) r)) ls u) (sym loose_are) (hands_more s t u jobs (placed_packet s.workers n r.moment [] (aim_of (macs_in s) r)) loose (loose_after n (aim_of (macs_in s) r)) a one)))
