-- Kept levels are read around the changed inner frame.
use Rattle.std.proofs.Common.{◌≡◌, ℕ, zero, suc, ◌+◌, ◌-◌, ◌*◌, ◌≤◌, List, [], ◌∷◌, ◌++◌, take, drop, length, Some, Result, Ok, refl, sym, ◌∙◌, ap, subst, arith, length-append}
use Rattle.std.proofs.lemmas.List.{drop-drop}
use Rattle.std.proofs.Math.Seq.{drop-append_seam, take-append_seam}
use Rattle.vsw_base.specs.declared.fault.BadFrame.{BadFrame}
use Rattle.vsw_base.specs.declared.header.Header.{Header}
use Rattle.vsw_base.specs.declared.header.Header.TheVariants.{Vxlan}
use Rattle.vsw_base.specs.Fits.{AreFit}
use Rattle.vsw_base.specs.Shape.{encaps, inner}
use Rattle.vsw_base.specs.Frame.{Level, Parts, Opened, control_in, encap_parts, frame_in, level_of, opened_of, payload_in, plain_parts, ports, size_at, slack_in, within}
use Rattle.vsw_frame.specs.Bytes.{AreLike, encap_kept, levels_changed}
use Rattle.vsw_frame.specs.Change.{frame_changed}
use Rattle.vsw_frame.specs.Differ.{differ}
use Rattle.vsw_header.specs.Sum.{AreBytes}
use Rattle.vsw_frame.specs.RoundTrip.{levels_kept}
use Rattle.vsw_frame.specs.Sums.{innermost}
use Rattle.vsw_frame.proofs.Around.{TwoInFront, around, around_none, around_twice, encap_step, none_plain, two_in_front}
use Rattle.vsw_frame.proofs.Cases.{FrameCases, frame_cases}
use Rattle.vsw_frame.proofs.KeptEncap.{encap_kept_read}
use Rattle.vsw_frame.proofs.RewrittenFrame.{inner_read}
use Rattle.vsw_header.proofs.Bytes.{bytes_dropped, bytes_taken}
use Rattle.vsw_frame.proofs.Tiles.{inner_ends, opened_ends, vxlan_follows}

abbrev pub written_level : Opened → List ℕ → Level
written_level o bytes = record { bytes = bytes; trailer = o.trailer; slack = slack_in o.end }

-- without its first k levels a frame is read, where the inner frame `last` is changed, as the changed frame is, with the
-- other levels around it
pub record KeptRead (k : ℕ) (bytes : List ℕ) (p : Parts) (from to : List Header) (last : List ℕ) (o : Opened) (outer : List Level) : Type 0 where
  pub opened : opened_of last ≡ Ok o
  pub stack : o.front ++ ports o.end ≡ from
  pub control : control_in o.end ≡ p.control
  pub payload : payload_in o.end ≡ p.payload
  pub levels : levels_kept from to (drop k p.levels) ≡ outer ++ written_level o (frame_changed from to last) ∷ []
  pub read : (m : ℕ) → frame_in (encaps p.stack - k + m) (levels_changed from to (drop k p.levels)) ≡ around (take (3 * (encaps p.stack - k)) (drop (3 * k) p.stack)) outer (frame_in m (frame_changed from to last))
  pub there : length (levels_changed from to (drop k p.levels)) ≡ size_at k p.levels
  pub short : size_at k p.levels ≤ length bytes
  pub inmost : innermost p.levels ≡ last
  pub are_bytes : AreBytes bytes → AreBytes last

abbrev HasKept : ℕ → List ℕ → Parts → List Header → List Header → Type 0
HasKept k bytes p from to = (last : List ℕ) × (o : Opened) × (outer : List Level) × KeptRead k bytes p from to last o outer

pub record IsKept (bytes : List ℕ) (p : Parts) : Type 0 where
  pub whole : size_at 0 p.levels ≡ length bytes
  pub some : 1 ≤ length p.levels
  pub kept : (k : ℕ) (from to : List Header) → k ≤ encaps p.stack → from ≡ inner p.stack → AreLike from to → AreFit to → HasKept k bytes p from to

plain_kept : (bytes : List ℕ) (o : Opened) (k : ℕ) (from to : List Header) → opened_of bytes ≡ Ok o → k ≤ encaps (o.front ++ ports o.end) → from ≡ inner (o.front ++ ports o.end) → AreLike from to → AreFit to → HasKept k bytes (plain_parts bytes o) from to
plain_kept bytes o (suc k) from to h l e like fit = absurd (omega (arith, l, none_plain bytes o h))
plain_kept bytes o zero from to h l e like fit =
    let none = none_plain bytes o h in
    let hs = o.front ++ ports o.end in
    let all : from ≡ hs = e ∙ ap (λ (n : ℕ). drop (3 * n) hs) none in
    let n = inner_read bytes o to h (subst (λ (x : List Header). AreLike x to) all like) fit in
    let new = frame_changed from to bytes in (
      bytes,
      o,
      [],
      record {
        opened = h;
        stack = sym all;
        control = refl;
        payload = refl;
        levels = refl;
        read = λ m.
            ap (λ (i : ℕ). frame_in i new) (omega (arith, none)) ∙ sym (around_none (frame_in m new)) ∙ ap (λ (i : ℕ). around (take (3 * (i - 0)) hs) [] (frame_in m new)) (sym none);
        there = ap (λ (x : List Header). length (frame_changed x to bytes)) all ∙ n.1.there;
        short = omega arith;
        inmost = refl;
        are_bytes = λ are. are;
      },
    )

-- a level in front of others
level_more : (from to : List Header) (l : Level) (ls : List Level) → 1 ≤ length ls → levels_changed from to (l ∷ ls) ≡ encap_kept (differ from to) l (levels_changed from to ls)
level_more from to l [] h = absurd (omega (arith, h))
level_more from to l (m ∷ ls) h = refl

inner_short : (bytes : List ℕ) (o : Opened) (v : ℕ) (inside : List ℕ) → opened_of bytes ≡ Ok o → within o.end ≡ Some (v, inside) → length inside ≤ length bytes
inner_short bytes o v inside h w =
    let ends = slack_in o.end ++ o.trailer in
    let f = inner_ends bytes (payload_in o.end) inside ends (opened_ends bytes o h) (vxlan_follows o.end v inside w) in
    omega (arith, ap length f.1, length-append f.0 (inside ++ ends), length-append inside ends)

pub inner_bytes : (bytes : List ℕ) (o : Opened) (v : ℕ) (inside : List ℕ) → opened_of bytes ≡ Ok o → within o.end ≡ Some (v, inside) → AreBytes bytes → AreBytes inside
inner_bytes bytes o v inside h w are =
    let ends = slack_in o.end ++ o.trailer in
    let f = inner_ends bytes (payload_in o.end) inside ends (opened_ends bytes o h) (vxlan_follows o.end v inside w) in
    let cut : take (length inside) (drop (length f.0) bytes) ≡ inside = ap (λ (x : List ℕ). take (length inside) (drop (length f.0) x)) f.1 ∙ ap (take (length inside)) (drop-append_seam f.0 (inside ++ ends)) ∙ take-append_seam inside ends in
    subst AreBytes cut (bytes_taken (length inside) (drop (length f.0) bytes) (bytes_dropped (length f.0) bytes are))

innermost_more : (l : Level) (ls : List Level) → 1 ≤ length ls → innermost (l ∷ ls) ≡ innermost ls
innermost_more l [] h = absurd (omega (arith, h))
innermost_more l (m ∷ ls) h = refl

inner_of : (o : Opened) (v : ℕ) (hs : List Header) → TwoInFront o v → inner (o.front ++ Vxlan v ∷ hs) ≡ inner hs
inner_of o v hs two =
    let all = o.front ++ Vxlan v ∷ hs in
    ap (λ (n : ℕ). drop n all) (omega (arith, two.count hs)) ∙ sym (drop-drop (3 * encaps hs) 3 all) ∙ ap (drop (3 * encaps hs)) (two.behind hs)

levels_same : (q o : Opened) (bytes : List ℕ) → q.trailer ≡ o.trailer → slack_in q.end ≡ slack_in o.end → level_of bytes q ∷ [] ≡ written_level o bytes ∷ []
levels_same q o bytes t s = ap (λ (x : List ℕ). record { bytes = bytes; trailer = x; slack = slack_in q.end } ∷ []) t ∙ ap (λ (x : List ℕ). record { bytes = bytes; trailer = o.trailer; slack = x } ∷ []) s

-- one more level in front
front_kept : (bytes : List ℕ) (o : Opened) (v : ℕ) (inside : List ℕ) (p : Parts) (from to : List Header) → opened_of bytes ≡ Ok o → within o.end ≡ Some (v, inside) → size_at 0 p.levels ≡ length inside → 1 ≤ length p.levels → HasKept 0 inside p from to → HasKept 0 bytes (encap_parts bytes o v p) from to
front_kept bytes o v inside p from to h w whole some ih =
    let last = ih.0 in
    let a = ih.3 in
    let outer = ih.2 in
    let two = two_in_front bytes o v inside h w in
    let c = differ from to in
    let l = level_of bytes o in
    let new = levels_changed from to p.levels in
    let other = levels_changed from to (l ∷ p.levels) in
    let e : other ≡ encap_kept c l new = level_more from to l p.levels some in
    let kept = encap_kept_read c bytes o v inside new h w (a.there ∙ whole) in
    let q = kept.0 in
    let n = kept.1 in
    let opened : opened_of other ≡ Ok q = ap opened_of e ∙ n.opened in
    let stack = o.front ++ Vxlan v ∷ p.stack in (
      last,
      ih.1,
      written_level o other ∷ outer,
      record {
        opened = a.opened;
        stack = a.stack;
        control = a.control;
        payload = a.payload;
        levels = ap (λ (ls : List Level). written_level o other ∷ ls) a.levels;
        read = λ m.
            let r = frame_in m (frame_changed from to last) in
            let k = encaps p.stack - 0 + m in
            let hs = take (3 * (encaps p.stack - 0)) p.stack in
            ap (λ (i : ℕ). frame_in i other) (omega (arith, two.count p.stack))
            ∙ encap_step k other q v new opened n.inside
            ∙ ap (λ (r : Result Parts BadFrame). around (q.front ++ Vxlan v ∷ []) (level_of other q ∷ []) r) (a.read m)
            ∙ around_twice (q.front ++ Vxlan v ∷ []) hs (level_of other q ∷ []) outer r
            ∙ ap (λ (x : List Header). around ((x ++ Vxlan v ∷ []) ++ hs) (level_of other q ∷ outer) r) n.front
            ∙ ap (λ (ls : List Level). around ((o.front ++ Vxlan v ∷ []) ++ hs) (ls ++ outer) r) (levels_same q o other n.trailer n.slack)
            ∙ ap (λ (x : List Header). around x (written_level o other ∷ outer) r) (sym (two.before p.stack (3 * (encaps p.stack - 0))) ∙ ap (λ (i : ℕ). take i stack) (omega (arith, two.count p.stack)));
        there = ap length e ∙ n.there;
        short = omega arith;
        inmost = innermost_more l p.levels some ∙ a.inmost;
        are_bytes = λ are. a.are_bytes (inner_bytes bytes o v inside h w are);
      },
    )

-- a level that is dropped
dropped_kept : (k : ℕ) (bytes : List ℕ) (o : Opened) (v : ℕ) (inside : List ℕ) (p : Parts) (from to : List Header) → opened_of bytes ≡ Ok o → within o.end ≡ Some (v, inside) → 1 ≤ length p.levels → HasKept k inside p from to → HasKept (suc k) bytes (encap_parts bytes o v p) from to
dropped_kept k bytes o v inside p from to h w some ih =
    let last = ih.0 in
    let a = ih.3 in
    let outer = ih.2 in
    let two = two_in_front bytes o v inside h w in
    let stack = o.front ++ Vxlan v ∷ p.stack in
    let count : encaps stack - suc k ≡ encaps p.stack - k = omega (arith, two.count p.stack) in
    let behind : drop (3 * suc k) stack ≡ drop (3 * k) p.stack = ap (λ (i : ℕ). drop i stack) (omega arith) ∙ sym (drop-drop (3 * k) 3 stack) ∙ ap (drop (3 * k)) (two.behind p.stack) in
    let bytes' = levels_changed from to (drop k p.levels) in (
      last,
      ih.1,
      outer,
      record {
        opened = a.opened;
        stack = a.stack;
        control = a.control;
        payload = a.payload;
        levels = a.levels;
        read = λ m.
            let r = frame_in m (frame_changed from to last) in
            ap (λ (i : ℕ). frame_in (i + m) bytes') count ∙ a.read m ∙ ap (λ (hs : List Header). around (take (3 * (encaps p.stack - k)) hs) outer r) (sym behind) ∙ ap (λ (i : ℕ). around (take (3 * i) (drop (3 * suc k) stack)) outer r) (sym count);
        there = a.there;
        short = omega (arith, a.short, inner_short bytes o v inside h w);
        inmost = innermost_more (level_of bytes o) p.levels some ∙ a.inmost;
        are_bytes = λ are. a.are_bytes (inner_bytes bytes o v inside h w are);
      },
    )

encap_kept_at : (k : ℕ) (bytes : List ℕ) (o : Opened) (v : ℕ) (inside : List ℕ) (p : Parts) (from to : List Header) → opened_of bytes ≡ Ok o → within o.end ≡ Some (v, inside) → IsKept inside p → k ≤ encaps (o.front ++ Vxlan v ∷ p.stack) → from ≡ inner (o.front ++ Vxlan v ∷ p.stack) → AreLike from to → AreFit to → HasKept k bytes (encap_parts bytes o v p) from to
encap_kept_at zero bytes o v inside p from to h w ih l e like fit =
    front_kept bytes o v inside p from to h w ih.whole ih.some (ih.kept 0 from to (omega arith) (e ∙ inner_of o v p.stack (two_in_front bytes o v inside h w)) like fit)
encap_kept_at (suc k) bytes o v inside p from to h w ih l e like fit =
    let two = two_in_front bytes o v inside h w in
    dropped_kept k bytes o v inside p from to h w ih.some (ih.kept k from to (omega (arith, l, two.count p.stack)) (e ∙ inner_of o v p.stack two) like fit)

pub levels_read : (n : ℕ) (bytes : List ℕ) (p : Parts) → frame_in n bytes ≡ Ok p → IsKept bytes p
levels_read n bytes p h =
    let c : FrameCases IsKept = record {
      plain = λ bytes o q. record { whole = refl; some = omega arith; kept = λ k from to l e like fit. plain_kept bytes o k from to q l e like fit };
      encap = λ bytes o v inside p q w ih. record { whole = refl; some = omega arith; kept = λ k from to l e like fit. encap_kept_at k bytes o v inside p from to q w ih l e like fit };
    } in
    frame_cases IsKept n bytes p c h
