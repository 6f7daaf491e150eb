-- Rounds of a trace are rounds of a longer one, and on longer histories.
use Rattle.std.proofs.Common.{◌≡◌, ◌<◌, ◌≤◌, ◌+◌, ◌-◌, inl, inr, ℕ, zero, suc, Bool, List, [], ◌∷◌, ◌++◌, length, map, take, drop, refl, ap, sym, ◌∙◌, subst, arith, length-take}
use Rattle.vsw_pcap.specs.declared.capture.Record.{Record}
use Rattle.vsw_promise.specs.Ports.{PortSeen, ports_of}
use Rattle.vsw_port.specs.declared.event.Event.{Event}
use Rattle.vsw_port.specs.Order.{numbered}
use Rattle.vsw_promise.specs.Jobs.{Setting, at_place, macs_of, loose_among, packets_between, placed_packets, before_jobs, during_jobs}
use Rattle.vsw_promise.specs.Rounds.{IsRound, IsPortRound, ArePortRounds, AreRoundsAt, AreRounds, AreChained, AllBegin, end_before}
use Rattle.vsw_promise.proofs.Exists.{ports_later, none_yet, no_counts}
use Rattle.vsw_hairpin.proofs.Existing.{rounds_go_on}
use Rattle.vsw_hairpin.proofs.Laws.{turns_hand_on}
use Rattle.vsw_report.specs.declared.round.PortRound.{PortRound}
use Rattle.vsw_report.specs.declared.round.Round.{Round}
use Rattle.vsw_crew.specs.Round.{TellsRound}
use Rattle.vsw_crew.specs.Switch.{SwitchNow}
use Rattle.vsw_replay.specs.Private.SoFar.{AreSoFar}
use Rattle.vsw_replay.proofs.Ordered.{Has, Ascends, ascends_lower}

-- ---- packets of a front of a trace

take_numbered : {A : Type 0} (k n : ℕ) (xs : List A) → take k (numbered n xs) ≡ numbered n (take k xs)
take_numbered zero n xs = refl
take_numbered (suc k) n [] = refl
take_numbered (suc k) n (x ∷ xs) = ap (λ w. (n, x) ∷ w) (take_numbered k (suc n) xs)

pub drop_numbered : {A : Type 0} (k n : ℕ) (xs : List A) → drop k (numbered n xs) ≡ numbered (n + k) (drop k xs)
drop_numbered zero n xs = ap (λ m. numbered m xs) (omega arith)
drop_numbered (suc k) n [] = refl
drop_numbered (suc k) n (x ∷ xs) = drop_numbered k (suc n) xs ∙ ap (λ m. numbered m (drop k xs)) (omega arith)

-- the next elements of a front are those of the whole
take_within : {A : Type 0} (size a n : ℕ) (xs : List A) → a + size ≤ n → take size (drop a (take n xs)) ≡ take size (drop a xs)
take_within size zero n xs le = less size n xs (omega (arith, le))
  where
    less : {A : Type 0} (size n : ℕ) (xs : List A) → size ≤ n → take size (take n xs) ≡ take size xs
    less zero n xs le = refl
    less (suc size) zero xs le = absurd (omega (arith, le))
    less (suc size) (suc n) [] le = refl
    less (suc size) (suc n) (x ∷ xs) le = ap (λ w. x ∷ w) (less size n xs (omega (arith, le)))
take_within size (suc a) zero xs le = absurd (omega (arith, le))
take_within size (suc a) (suc n) [] le = refl
take_within size (suc a) (suc n) (x ∷ xs) le = take_within size a n xs (omega (arith, le))

pub take_most : {A : Type 0} (k : ℕ) (xs : List A) → length xs ≤ k → take k xs ≡ xs
take_most zero [] le = refl
take_most zero (x ∷ xs) le = absurd (omega (arith, le))
take_most (suc k) [] le = refl
take_most (suc k) (x ∷ xs) le = ap (λ w. x ∷ w) (take_most k xs (omega (arith, le)))

pub drop_size : {A : Type 0} (k : ℕ) (xs : List A) → length (drop k xs) ≡ length xs - k
drop_size zero xs = omega arith
drop_size (suc k) [] = omega arith
drop_size (suc k) (x ∷ xs) = let e : length xs - k ≡ suc (length xs) - suc k = omega arith in drop_size k xs ∙ e

pub numbered_size : {A : Type 0} (n : ℕ) (xs : List A) → length (numbered n xs) ≡ length xs
numbered_size n [] = refl
numbered_size n (x ∷ xs) = ap suc (numbered_size (suc n) xs)

packets_within : (given all : List Record) (first a b : ℕ) → given ≡ take first all → a ≤ b → b ≤ first → packets_between given a b ≡ packets_between all a b
packets_within given all first a b e le high =
    ap (λ rs. packets_between rs a b) e ∙ ap (λ rs. take (b - a) (drop a rs)) (sym (take_numbered first 0 all)) ∙ take_within (b - a) a first (numbered 0 all) (omega (arith, le, high))

packets_last : (given all : List Record) (first a : ℕ) → given ≡ take first all → a ≤ first → packets_between given a (length given) ≡ packets_between all a first
packets_last given all first a e le =
    let size : length (drop a (numbered 0 given)) ≡ length given - a = drop_size a (numbered 0 given) ∙ ap (λ n. n - a) (numbered_size 0 given) in
    let few : length given ≤ first = omega (arith, ap length e, length-take first all) in
    let short = take_most (length given - a) (drop a (numbered 0 given)) (omega (arith, size)) in
    let long = take_most (first - a) (drop a (numbered 0 given)) (omega (arith, size, few)) in
    short ∙ sym long ∙ packets_within given all first a first e le (omega arith)

-- ---- a round, by its packets

ports_same : (s : Setting) (given all : List Record) (told : List PortRound) (a b c n : ℕ) (ps : List PortSeen) (hs : List (List Event)) (rs : List PortRound) → packets_between given a b ≡ packets_between all a c → ArePortRounds s given told a b n ps hs rs → ArePortRounds s all told a c n ps hs rs
ports_same s given all told a b c n [] [] [] e r = tt
ports_same s given all told a b c n (p ∷ ps) (h ∷ hs) (r ∷ rs) e q = (
  subst (λ w. IsPortRound s.workers p h (record { first = before_jobs s.commands a p.number; later = during_jobs s.commands a p.number ++ at_place n (placed_packets s.workers s.local (macs_of s.policy) told w) }) r) e q.0,
  ports_same s given all told a b c (suc n) ps hs rs e q.1,
)
ports_same s given all told a b c n [] [] (r ∷ rs) e q = absurd q
ports_same s given all told a b c n [] (h ∷ hs) rs e q = absurd q
ports_same s given all told a b c n (p ∷ ps) [] rs e q = absurd q
ports_same s given all told a b c n (p ∷ ps) (h ∷ hs) [] e q = absurd q

round_same : (s : Setting) (given all : List Record) (hs : List (List Event)) (a b c : ℕ) (r : Round) → packets_between given a b ≡ packets_between all a c → IsRound s given hs a b r → IsRound s all hs a c r
round_same s given all hs a b c r e q = record { first_is = q.first_is; loose = q.loose ∙ ap (loose_among (macs_of s.policy)) e; ports = ports_same s given all r.ports a b c 0 (ports_of s.policy) hs r.ports e q.ports }

rounds_later : (s : Setting) (records : List Record) (hs ks : List (List Event)) (cuts : List ℕ) (rounds : List Round) → AllBegin hs ks → AreRoundsAt s records hs cuts rounds → AreRoundsAt s records ks cuts rounds
rounds_later s records hs ks [] [] b a = tt
rounds_later s records hs ks (cut ∷ cuts) (r ∷ rs) b a = (
  record { first_is = a.0.first_is; loose = a.0.loose; ports = ports_later s records r.ports cut (end_before cuts (length records)) 0 (ports_of s.policy) hs ks r.ports b a.0.ports },
  rounds_later s records hs ks cuts rs b a.1,
)
rounds_later s records hs ks [] (r ∷ rs) b a = absurd a
rounds_later s records hs ks (cut ∷ cuts) [] b a = absurd a

-- each is no less than the one before it, and the last below a number
abbrev pub AreLow : ℕ → ℕ → List ℕ → Type 0
AreLow low high [] = low ≤ high
AreLow low high (n ∷ ns) = (low ≤ n) × AreLow n high ns

-- rounds of a front of a trace, and the rounds that follow
append_rounds : (s : Setting) (given all : List Record) (hs : List (List Event)) (first low : ℕ) (cs rest : List ℕ) (rounds more : List Round) → given ≡ take first all → AreLow low first cs → AreRoundsAt s given hs cs rounds → AreRoundsAt s all hs (first ∷ rest) more → AreRoundsAt s all hs (cs ++ first ∷ rest) (rounds ++ more)
append_rounds s given all hs first low [] rest [] more e l a b = b
append_rounds s given all hs first low (c ∷ []) rest (r ∷ []) more e l a b = (round_same s given all hs c (length given) first r (packets_last given all first c e l.1) a.0, b)
append_rounds s given all hs first low (c ∷ d ∷ cs) rest (r ∷ rs) more e l a b = (round_same s given all hs c d d r (packets_within given all first c d e l.1.0 (high d cs l.1.1)) a.0, append_rounds s given all hs first c (d ∷ cs) rest rs more e l.1 a.1 b)
  where
    high : (n : ℕ) (ns : List ℕ) → AreLow n first ns → n ≤ first
    high n [] l = l
    high n (m ∷ ns) l = omega (arith, l.0, high m ns l.1)
append_rounds s given all hs first low [] rest (r ∷ rs) more e l a b = absurd a
append_rounds s given all hs first low (c ∷ []) rest [] more e l a b = absurd a
append_rounds s given all hs first low (c ∷ []) rest (r ∷ q ∷ rs) more e l a b = absurd a.1
append_rounds s given all hs first low (c ∷ d ∷ cs) rest [] more e l a b = absurd a

-- ---- rounds so far

pub low_of : (low high : ℕ) (ms : List ℕ) → low ≤ high → Ascends low ms → ((n : ℕ) → Has n ms → n < high) → AreLow low high ms
low_of low high [] le a f = le
low_of low high (m ∷ ms) le a f = (a.0, low_of m high ms (omega (arith, f m (inl refl))) (ascends_lower m (suc m) ms (omega arith) a.1) (λ n h. f n (inr h)))

chain_append : (counts mid last : List ℕ) (rounds more : List Round) → AreChained counts rounds mid → AreChained mid more last → AreChained counts (rounds ++ more) last
chain_append counts mid last [] more a b = subst (λ w. AreChained w more last) a b
chain_append counts mid last (r ∷ rs) more a b = (a.0, chain_append (map (λ p. p.after) r.ports) mid last rs more a.1 b)

-- none yet
pub none_so_far : (s : Setting) → 0 < s.workers → s.workers ≤ 16 → AreSoFar s [] [] [] (map (λ p. []) (ports_of s.policy))
none_so_far s some few = record { some = some; few = few; right = none_yet (ports_of s.policy); are = tt; chained = no_counts (ports_of s.policy) }

-- one more was run
pub round_more : (s : Setting) (given all packets : List Record) (first : ℕ) (cs : List ℕ) (rounds : List Round) (hs : List (List Event)) (now : SwitchNow) (short : Bool) (old new : List ℕ) → given ≡ take first all → AreLow 0 first cs → packets_between all first (length all) ≡ numbered first packets → AreSoFar s given cs rounds hs
    → (r : TellsRound s hs first packets now short old new) → AreSoFar s all (cs ++ first ∷ []) (rounds ++ r.round ∷ []) r.histories
round_more s given all packets first cs rounds hs now short old new e low are so r = record {
  some = so.some;
  few = so.few;
  right = r.right;
  are = append_rounds s given all r.histories first 0 cs [] rounds (r.round ∷ []) e low (rounds_later s given hs r.histories cs rounds r.begin so.are) (r.is_round all (length all) are, tt);
  chained = chain_append (map (λ p. 0) (ports_of s.policy)) (map length hs) (map length r.histories) rounds (r.round ∷ []) so.chained (r.before, sym r.after);
}

-- the records are more, and no round
pub rounds_only : (s : Setting) (given all : List Record) (cs : List ℕ) (rounds : List Round) (hs : List (List Event)) → given ≡ all → AreSoFar s given cs rounds hs → AreSoFar s all cs rounds hs
rounds_only s given all cs rounds hs e so = subst (λ w. AreSoFar s w cs rounds hs) e so

-- some rounds follow
pub record RoundsFollow (s : Setting) (all : List Record) (cs : List ℕ) (rounds : List Round) : Type 0 where
  pub more : List Round
  pub histories : List (List Event)
  pub so : AreSoFar s all cs (rounds ++ more) histories

pub rounds_follow : (s : Setting) (given all : List Record) (first : ℕ) (cs rest : List ℕ) (rounds : List Round) (hs : List (List Event)) → given ≡ take first all → AreLow 0 first cs → AreSoFar s given cs rounds hs → RoundsFollow s all (cs ++ first ∷ rest) rounds
rounds_follow s given all first cs rest rounds hs e low so =
    let next = rounds_go_on turns_hand_on s all hs (first ∷ rest) so.some so.few so.right in
    let more = next.rounds in record {
      more = more;
      histories = next.histories;
      so = record {
        some = so.some;
        few = so.few;
        right = next.right;
        are = append_rounds s given all next.histories first 0 cs rest rounds more e low (rounds_later s given hs next.histories cs rounds next.begin so.are) next.are;
        chained = chain_append (map (λ p. 0) (ports_of s.policy)) (map length hs) (map length next.histories) rounds more so.chained next.chained;
      };
    }

pub rounds_of : (s : Setting) (records : List Record) (cs : List ℕ) (rounds : List Round) (hs : List (List Event)) → AreSoFar s records cs rounds hs → AreRounds s records cs rounds
rounds_of s records cs rounds hs so = record { histories = hs; right = so.right; are = so.are; chained = so.chained }
