-- The lines of some bytes, put together again.
use Rattle.std.proofs.Common.{◌≡◌, ◌≢◌, inl, inr, ℕ, suc, List, [], ◌∷◌, ◌++◌, Bool, true, false, refl, ap, arith, if◌then◌else◌}
use Rattle.std.specs.Prelude.{All}
use Rattle.std.proofs.lemmas.Bool.Decides.{nat_tests}
use Rattle.std.proofs.lemmas.List.Elements.{All-nil, All-cons}
use Rattle.vsw_commandfile.specs.Lines.{is_feed, in_front, lines_of}
use Rattle.vsw_commandfile.specs.Good.{AreLines, EachIsCut}

abbrev IsOther : ℕ → Type 0
IsOther b = b ≢ 10

abbrev HasNone : List ℕ → Type 0
HasNone l = All IsOther l

never : (bs : List ℕ) → [] ≡ bs ++ 10 ∷ [] → ⊥
never [] h = cc
never (b ∷ bs) h = cc

-- a byte in front of the first line, which is no line feed
front : (b : ℕ) (bs : List ℕ) (ls : List (List ℕ)) → b ≢ 10 → AreLines bs ls → AreLines (b ∷ bs) (in_front b ls)
front b bs [] other h = record {
  no_feeds = All-cons HasNone (b ∷ []) [] (All-cons IsOther b [] other (All-nil IsOther)) (All-nil HasNone);
  whole = elim h.whole [
    | inl e ↦ inr (ap (λ (xs : List ℕ). b ∷ (xs ++ 10 ∷ [])) e)
    | inr e ↦ absurd (never bs e)
  ];
}
front b bs (l ∷ ls) other h = record {
  no_feeds = All-cons HasNone (b ∷ l) ls (All-cons IsOther b l other (h.no_feeds 0 l (omega arith))) (λ i d within. h.no_feeds (suc i) d (omega (arith, within)));
  whole = elim h.whole [
    | inl e ↦ inl (ap (λ (xs : List ℕ). b ∷ xs) e)
    | inr e ↦ inr (ap (λ (xs : List ℕ). b ∷ xs) e)
  ];
}

by-test : (b : ℕ) (bs : List ℕ) (ls : List (List ℕ)) → AreLines bs ls → (t : Bool) → is_feed b ≡ t → AreLines (b ∷ bs) (if t then [] ∷ ls else in_front b ls)
by-test b bs ls h true e =
    let same : 10 ≡ b = grind (arith, nat_tests, e) in
    record {
      no_feeds = All-cons HasNone [] ls (All-nil IsOther) h.no_feeds;
      whole = elim h.whole [
        | inl f ↦ inl (cc (same, f))
        | inr f ↦ inr (cc (same, f))
      ];
    }
by-test b bs ls h false e =
    let other : b ≢ 10 = λ same. grind (arith, nat_tests, e) in
    front b bs ls other h

pub each_is_cut : EachIsCut
unfolding lines_of
each_is_cut [] = record { no_feeds = All-nil HasNone; whole = inl refl }
each_is_cut (b ∷ bs) = by-test b bs (lines_of bs) (each_is_cut bs) (is_feed b) refl
