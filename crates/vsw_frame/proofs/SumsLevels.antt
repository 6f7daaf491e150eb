-- The levels that are written, and what stays of the kept ones.
use Rattle.std.proofs.Common.{◌≡◌, ℕ, zero, suc, ◌+◌, ◌≤◌, List, [], ◌∷◌, ◌++◌, Bool, true, false, take, drop, length, refl, sym, ◌∙◌, ap, subst, arith, append_assoc, length-append, length-drop, length-take}
use Rattle.std.proofs.lemmas.List.{append-nil, drop-drop, take-append-drop}
use Rattle.vsw_base.specs.declared.header.Header.{Header}
use Rattle.vsw_base.specs.declared.header.Header.TheVariants.{Ether, Ip, Vxlan}
use Rattle.vsw_base.specs.Shape.{ipv4_kind}
use Rattle.vsw_base.specs.Frame.{Level, size_at}
use Rattle.vsw_header.specs.Ip.{pushed_ip_bytes}
use Rattle.vsw_header.specs.Vxlan.{udp_vxlan_bytes}
use Rattle.vsw_header.specs.Ether.{ether_bytes}
use Rattle.vsw_frame.specs.Bytes.{levels_changed}
use Rattle.vsw_frame.specs.Differ.{differ}
use Rattle.vsw_frame.specs.Kept.{udp_at, udp_kept}
use Rattle.vsw_frame.specs.Push.{pushed}
use Rattle.vsw_frame.specs.Ends.{lengths}
use Rattle.vsw_frame.specs.Layout.{AreLaid, IsAround}
use Rattle.vsw_frame.specs.RoundTrip.{levels_kept, levels_pushed}
use Rattle.vsw_frame.specs.Sums.{AreAsTheyWere, IsAsItWas, innermost, sum_kept}
use Rattle.vsw_frame.specs.Tiles.{Surrounds, TilesAt, outermost}

-- the last level
abbrev pub last_of : Level → List Level → Level
last_of d [] = d
last_of d (l ∷ ls) = last_of l ls

pub last-append : (d l : Level) (ls : List Level) → last_of d (ls ++ l ∷ []) ≡ l
last-append d l [] = refl
last-append d l (m ∷ ls) = last-append m l ls

pub innermost-append : (l : Level) (ls : List Level) → innermost (ls ++ l ∷ []) ≡ l.bytes
innermost-append l [] = refl
innermost-append l (m ∷ []) = refl
innermost-append l (m ∷ k ∷ ls) = innermost-append l (k ∷ ls)

surrounded : (l : Level) (ls : List Level) (inside payload : List ℕ) → 1 ≤ length ls → outermost ls ≡ inside → TilesAt ls payload → Surrounds l inside → TilesAt (l ∷ ls) payload
surrounded l [] inside payload h e t s = absurd (omega (arith, h))
surrounded l (m ∷ ls) inside payload h e t s = (subst (Surrounds l) (sym e) s, t)

pub kept_tile : (from to : List Header) (ls : List Level) (d : Level) (payload : List ℕ) → 1 ≤ length ls → Surrounds (last_of d (levels_kept from to ls)) payload → TilesAt (levels_kept from to ls) payload
kept_tile from to [] d payload h s = absurd (omega (arith, h))
kept_tile from to (l ∷ []) d payload h s = s
kept_tile from to (l ∷ m ∷ ls) d payload h s =
    let front = take (udp_at l.bytes) l.bytes in
    let udp = udp_kept (differ from to) (take 16 (drop (udp_at l.bytes) l.bytes)) in
    let inside = levels_changed from to (m ∷ ls) in
    ((front ++ udp, sym (append_assoc front udp (inside ++ (l.slack ++ l.trailer)))), kept_tile from to (m ∷ ls) d payload (omega arith) s)

pub kept_outermost : (from to : List Header) (ls : List Level) → 1 ≤ length ls → outermost (levels_kept from to ls) ≡ levels_changed from to ls
kept_outermost from to [] h = absurd (omega (arith, h))
kept_outermost from to (l ∷ ls) h = refl

pub pushed_outermost : (port : ℕ) (hs : List Header) (ls : List Level) (inside : List ℕ) → outermost ls ≡ inside → outermost (levels_pushed port hs inside ++ ls) ≡ pushed port hs inside
pushed_outermost port (Ether d s k ∷ Ip a b p f ∷ Vxlan v ∷ hs) ls inside e = refl
pushed_outermost port hs ls inside e = e

abbrev PushedTile : ℕ → List Header → List Level → List ℕ → List ℕ → Type 0
PushedTile port hs ls inside payload = TilesAt (levels_pushed port hs inside ++ ls) payload

pub pushed_tile : (port : ℕ) (hs : List Header) (ls : List Level) (inside payload : List ℕ) → 1 ≤ length ls → outermost ls ≡ inside → TilesAt ls payload → PushedTile port hs ls inside payload
pushed_tile port (Ether d s k ∷ Ip a b p f ∷ Vxlan v ∷ hs) ls inside payload h e t =
    let x = pushed port hs inside in
    let ether = ether_bytes d s ipv4_kind in
    let ip = pushed_ip_bytes a b (length x + 36) in
    let udp = udp_vxlan_bytes port (length x) v in
    let whole : ether ++ (ip ++ (udp ++ x)) ≡ (ether ++ (ip ++ udp)) ++ (x ++ []) =
    ap (λ (y : List ℕ). ether ++ y) (sym (append_assoc ip udp x)) ∙ sym (append_assoc ether (ip ++ udp) x) ∙ ap (λ (y : List ℕ). (ether ++ (ip ++ udp)) ++ y) (sym (append-nil x)) in
    surrounded (record { bytes = pushed port (Ether d s k ∷ Ip a b p f ∷ Vxlan v ∷ hs) inside; trailer = []; slack = [] }) (levels_pushed port hs inside ++ ls) x payload (omega (arith, h, length-append (levels_pushed port hs inside) ls)) (pushed_outermost port hs ls inside e) (pushed_tile port hs ls inside payload h e t) (ether ++ (ip ++ udp), whole)
pushed_tile port hs ls inside payload h e t = t

-- a kept level's bytes, by their places
regrouped : (a b s v r : List ℕ) → a ++ ((b ++ (s ++ v)) ++ r) ≡ (a ++ b) ++ (s ++ (v ++ r))
regrouped a b s v r =
    ap (λ (x : List ℕ). a ++ x) (append_assoc b (s ++ v) r ∙ ap (λ (x : List ℕ). b ++ x) (append_assoc s v r)) ∙ sym (append_assoc a b (s ++ (v ++ r)))

kept_parts : (c : Bool) (bytes : List ℕ) → udp_kept c bytes ≡ take 6 bytes ++ (sum_kept c (take 2 (drop 6 bytes)) ++ drop 8 bytes)
kept_parts true bytes = refl
kept_parts false bytes = sym (take-append-drop 6 bytes) ∙ ap (λ (x : List ℕ). take 6 bytes ++ x) (sym (take-append-drop 2 (drop 6 bytes)) ∙ ap (λ (x : List ℕ). take 2 (drop 6 bytes) ++ x) (drop-drop 2 6 bytes))

as_it_was : (c : Bool) (l : Level) (old new bytes : List ℕ) → IsAround l old → bytes ≡ take (udp_at l.bytes) l.bytes ++ (udp_kept c (take 16 (drop (udp_at l.bytes) l.bytes)) ++ (new ++ (l.slack ++ l.trailer))) → IsAsItWas c l (record { bytes = bytes; trailer = l.trailer; slack = l.slack }) old new
as_it_was c l old new bytes a e =
    let u = udp_at l.bytes in
    let head = take u l.bytes in
    let k = take 16 (drop u l.bytes) in
    let ends = l.slack ++ l.trailer in
    let n : length k ≡ 16 = omega (arith, length-take 16 (drop u l.bytes), length-drop u l.bytes, a.room) in
    let m : length head ≡ u = omega (arith, length-take u l.bytes, a.room) in
    let inside : drop (u + 16) l.bytes ≡ old ++ ends =
    sym (take-append-drop (length old) (drop (u + 16) l.bytes)) ∙ ap (λ (x : List ℕ). x ++ drop (length old) (drop (u + 16) l.bytes)) a.inside ∙ ap (λ (x : List ℕ). old ++ x) (drop-drop (length old) (u + 16) l.bytes ∙ ap (λ (i : ℕ). drop i l.bytes) (omega arith) ∙ a.behind) in
    let whole : l.bytes ≡ head ++ (k ++ (old ++ ends)) =
    sym (take-append-drop u l.bytes) ∙ ap (λ (x : List ℕ). head ++ x) (sym (take-append-drop 16 (drop u l.bytes)) ∙ ap (λ (x : List ℕ). k ++ x) (drop-drop 16 u l.bytes ∙ ap (λ (i : ℕ). drop i l.bytes) (omega arith) ∙ inside)) in
    record {
      front = head ++ take 6 k;
      sum = take 2 (drop 6 k);
      vxlan = drop 8 k;
      front_length = omega (arith, length-append head (take 6 k), m, length-take 6 k, n);
      sum_length = omega (arith, length-take 2 (drop 6 k), length-drop 6 k, n);
      vxlan_length = omega (arith, length-drop 8 k, n);
      was = whole ∙ ap (λ (x : List ℕ). head ++ (x ++ (old ++ ends))) (kept_parts false k) ∙ regrouped head (take 6 k) (take 2 (drop 6 k)) (drop 8 k) (old ++ ends);
      is = e ∙ ap (λ (x : List ℕ). head ++ (x ++ (new ++ ends))) (kept_parts c k) ∙ regrouped head (take 6 k) (sum_kept c (take 2 (drop 6 k))) (drop 8 k) (new ++ ends);
      slack = refl;
      trailer = refl;
    }

pub all_as_they_were : (hs from to : List Header) (ls : List Level) → AreLaid hs ls → AreAsTheyWere (differ from to) ls (levels_kept from to ls)
all_as_they_were hs from to [] a = absurd a
all_as_they_were hs from to (l ∷ []) a = tt
all_as_they_were hs from to (l ∷ m ∷ ls) a = (as_it_was (differ from to) l m.bytes (levels_changed from to (m ∷ ls)) (levels_changed from to (l ∷ m ∷ ls)) a.0 refl, all_as_they_were hs from to (m ∷ ls) a.1)

pub laid_drop : (hs : List Header) (k : ℕ) (ls : List Level) → k + 1 ≤ length ls → AreLaid hs ls → AreLaid hs (drop k ls)
laid_drop hs zero ls h a = a
laid_drop hs (suc k) [] h a = absurd a
laid_drop hs (suc k) (l ∷ []) h a = absurd (omega (arith, h))
laid_drop hs (suc k) (l ∷ m ∷ ls) h a = laid_drop hs k (m ∷ ls) (omega (arith, h)) a.1

pub size_drop : (k : ℕ) (ls : List Level) → size_at k ls ≡ length (outermost (drop k ls))
size_drop zero [] = refl
size_drop zero (l ∷ ls) = refl
size_drop (suc k) [] = refl
size_drop (suc k) (l ∷ ls) = size_drop k ls

sum_length : (c : Bool) (sum : List ℕ) → length sum ≡ 2 → length (sum_kept c sum) ≡ 2
sum_length true sum l = refl
sum_length false sum l = l

-- where a kept level's size stays, so does that of the frame in it
inner_size : (c : Bool) (l w : Level) (old new : List ℕ) → IsAsItWas c l w old new → length w.bytes ≡ length l.bytes → length new ≡ length old
inner_size c l w old new a e =
    let ends = l.slack ++ l.trailer in
    omega (
      arith,
      e,
      sum_length c a.sum a.sum_length,
      ap length a.was,
      length-append a.front (a.sum ++ (a.vxlan ++ (old ++ ends))),
      length-append a.sum (a.vxlan ++ (old ++ ends)),
      length-append a.vxlan (old ++ ends),
      length-append old ends,
      ap length a.is,
      length-append a.front (sum_kept c a.sum ++ (a.vxlan ++ (new ++ ends))),
      length-append (sum_kept c a.sum) (a.vxlan ++ (new ++ ends)),
      length-append a.vxlan (new ++ ends),
      length-append new ends,
    )

pub sizes_stay : (from to : List Header) (ls : List Level) → AreAsTheyWere (differ from to) ls (levels_kept from to ls) → length (levels_changed from to ls) ≡ length (outermost ls) → lengths (levels_kept from to ls) ≡ lengths ls
sizes_stay from to [] a e = refl
sizes_stay from to (l ∷ []) a e = ap (λ (n : ℕ). n ∷ []) e
sizes_stay from to (l ∷ m ∷ ls) a e =
    let w : Level = record { bytes = levels_changed from to (l ∷ m ∷ ls); trailer = l.trailer; slack = l.slack } in
    let n = inner_size (differ from to) l w m.bytes (levels_changed from to (m ∷ ls)) a.0 e in
    ap (λ (k : ℕ). k ∷ lengths (levels_kept from to (m ∷ ls))) e ∙ ap (λ (ks : List ℕ). length l.bytes ∷ ks) (sizes_stay from to (m ∷ ls) a.1 n)
