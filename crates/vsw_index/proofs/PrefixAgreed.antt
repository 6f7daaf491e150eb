-- The chain of spans answers as the list of items does.
use Rattle.std.proofs.Common.{◌≡◌, ◌≤◌, ◌<◌, ◌+◌, ◌-◌, ◌*◌, ◌/◌, ◌^◌, ◌==◌, ◌&&◌, zero, ℕ, Bool, true, false, cond, leb, List, [], ◌∷◌, Option, Some, None, map, filter, refl, sym, ap, subst, ◌∙◌, inl, inr, arith}
use Rattle.std.specs.Prelude.{if◌then◌else◌}
use Rattle.std.specs.Option.{MatchOption}
use Rattle.std.specs.List.{filter_map, cons_option}
use Rattle.std.specs.List.Sorted.{IsPermutation}
use Rattle.std.proofs.lemmas.Bool.{cases_order, le-leb, lt-leb, eq-eqb, ne_eqb, and_left, and_right, and_from}
use Rattle.std.proofs.lemmas.Nat.{pow_pos}
use Rattle.std.proofs.Math.Nat.{div-lt_iff_lt-mul, le-div_iff_mul-le, div-mul-le_self}
use Rattle.vsw_index.specs.declared.placed_prefix.PlacedPrefix.{PlacedPrefix}
use Rattle.vsw_index.specs.declared.span.Span.{Span}
use Rattle.vsw_index.specs.declared.chain.Node.{Node}
use Rattle.vsw_index.specs.Least.{lesser, least, least_by}
use Rattle.vsw_index.specs.PrefixLeast.{holds, counts, least_of, Answers}
use Rattle.vsw_index.specs.Span.{span_of}
use Rattle.vsw_index.specs.Chain.{span_counts, Agrees}
use Rattle.vsw_index.proofs.Least as least
use Rattle.vsw_index.proofs.Least.{least_by-IsPermutation}

-- the addresses that agree with a prefix are those between its ends
between : (a v d : ℕ) → zero < d → (leb (v / d * d) a && leb a ((v / d + 1) * d - 1)) ≡ (a / d == v / d)
between a v d some =
    elim (cases_order (a / d) (v / d)) [
      | inl same ↦
          let low : v / d * d ≤ a = let l : a / d * d ≤ a = div-mul-le_self a d in subst (λ (q : ℕ). q * d ≤ a) same l in
          let next : a / d < v / d + 1 = omega arith in
          let high : a < (v / d + 1) * d = (div-lt_iff_lt-mul some).0 next in
          and_from (leb (v / d * d) a) (leb a ((v / d + 1) * d - 1)) (le-leb (v / d * d) a low) (le-leb a ((v / d + 1) * d - 1) (omega arith)) ∙ sym (eq-eqb (a / d) (v / d) same)
      | inr other ↦ elim other [
        | inl less ↦
            let low : a < v / d * d = (div-lt_iff_lt-mul some).0 less in
            and_left (leb (v / d * d) a) (leb a ((v / d + 1) * d - 1)) (lt-leb (v / d * d) a low) ∙ sym (ne_eqb (a / d) (v / d) (λ e. omega arith))
        | inr more ↦
            let over : v / d + 1 ≤ a / d = omega arith in
            let high : (v / d + 1) * d ≤ a = (le-div_iff_mul-le some).0 over in
            let first : (v / d + 1) * d ≡ v / d * d + d = omega arith in
            and_right (leb (v / d * d) a) (leb a ((v / d + 1) * d - 1)) (lt-leb a ((v / d + 1) * d - 1) (omega arith)) ∙ sym (ne_eqb (a / d) (v / d) (λ e. omega arith))
      ]
    ]

-- an item counts where its span does, and one without a span never
item_counts : (a f : ℕ) (p : PlacedPrefix) → MatchOption (span_of p) (counts a f p ≡ false) (λ (s : Span). (span_counts a f s ≡ counts a f p) × (s.place ≡ p.place))
item_counts a f p = by (leb p.prefix.bits 32)
  where
    by : (b : Bool) → MatchOption (if b then Some (record { low = p.prefix.value / 2 ^ (32 - p.prefix.bits) * 2 ^ (32 - p.prefix.bits); high = (p.prefix.value / 2 ^ (32 - p.prefix.bits) + 1) * 2 ^ (32 - p.prefix.bits) - 1; place = p.place }) else None) ((b && (a / 2 ^ (32 - p.prefix.bits) == p.prefix.value / 2 ^ (32 - p.prefix.bits)) && leb f p.place) ≡ false) (λ (s : Span). (span_counts a f s ≡ (b && (a / 2 ^ (32 - p.prefix.bits) == p.prefix.value / 2 ^ (32 - p.prefix.bits)) && leb f p.place)) × (s.place ≡ p.place))
    by true = (ap (λ (t : Bool). t && leb f p.place) (between a p.prefix.value (2 ^ (32 - p.prefix.bits)) (pow_pos (32 - p.prefix.bits))), refl)
    by false = refl

-- the least place by a test, of what the items are made of
least_by-map : {X Y : Type 0} (t : X → Bool) (p : X → ℕ) (f : Y → X) (ys : List Y) → least_by t p (map f ys) ≡ least_by (λ y. t (f y)) (λ y. p (f y)) ys
least_by-map t p f [] = refl
least_by-map {X} {Y} t p f (y ∷ ys) = by (t (f y)) (least_by-map t p f ys)
  where
    by : (b : Bool) → least_by t p (map f ys) ≡ least_by (λ (y : Y). t (f y)) (λ (y : Y). p (f y)) ys → least (map p (cond b (f y ∷ filter t (map f ys)) (filter t (map f ys)))) ≡ least (map (λ (y : Y). p (f y)) (cond b (y ∷ filter (λ (y : Y). t (f y)) ys) (filter (λ (y : Y). t (f y)) ys)))
    by true e = ap (lesser (p (f y))) e
    by false e = e

least_by-filter_map : {X Y : Type 0} (t : X → Bool) (p : X → ℕ) (s : Y → Bool) (q : Y → ℕ) (h : Y → Option X) → ((y : Y) → MatchOption (h y) (s y ≡ false) (λ (x : X). (t x ≡ s y) × (p x ≡ q y))) → (ys : List Y) → least_by t p (filter_map h ys) ≡ least_by s q ys
least_by-filter_map t p s q h agree [] = refl
least_by-filter_map {X} {Y} t p s q h agree (y ∷ ys) = by (h y) (agree y) (least_by-filter_map t p s q h agree ys)
  where
    same : (x : X) (b : Bool) → p x ≡ q y → least_by t p (filter_map h ys) ≡ least_by s q ys → least (map p (cond b (x ∷ filter t (filter_map h ys)) (filter t (filter_map h ys)))) ≡ least (map q (cond b (y ∷ filter s ys) (filter s ys)))
    same x true at e = ap (λ (n : ℕ). lesser n (least_by t p (filter_map h ys))) at ∙ ap (lesser (q y)) e
    same x false at e = e

    by : (o : Option X) → MatchOption o (s y ≡ false) (λ (x : X). (t x ≡ s y) × (p x ≡ q y)) → least_by t p (filter_map h ys) ≡ least_by s q ys → least (map p (filter t (cons_option o (filter_map h ys)))) ≡ least (map q (cond (s y) (y ∷ filter s ys) (filter s ys)))
    by None none e = rw none e
    by (Some x) is e = rw is.0 (same x (s y) is.1 e)

pub agrees : (items : List PlacedPrefix) (nodes : List Node) (sorted : List Span) → map (λ (n : Node). n.span) nodes ≡ sorted → IsPermutation (filter_map span_of items) sorted → Agrees items nodes
agrees items nodes sorted same moves a f =
    sym (least_by-map (span_counts a f) (λ (s : Span). s.place) (λ (n : Node). n.span) nodes)
    ∙ ap (least_by (span_counts a f) (λ (s : Span). s.place)) same
    ∙ least_by-IsPermutation (span_counts a f) (λ (s : Span). s.place) (filter_map span_of items) sorted moves
    ∙ least_by-filter_map (span_counts a f) (λ (s : Span). s.place) (counts a f) (λ (p : PlacedPrefix). p.place) span_of (item_counts a f) items

-- the least place, in the words of the list
pub answers : (items : List PlacedPrefix) (a f : ℕ) → Answers items a f (least_of items a f)
answers items a f = least.answers (holds a) (λ (p : PlacedPrefix). p.place) items f
