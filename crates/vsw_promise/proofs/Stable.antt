-- A stable sort leaves the entries of one packet in order.
use Rattle.std.proofs.Common.{◌≡◌, ◌==◌, ℕ, Bool, List, filter, sym, ◌∙◌, ap, arith}
use Rattle.std.proofs.lemmas.Bool.Decides.{nat_tests}
use Rattle.std.proofs.lemmas.Fn.{always_returns_same}
use Rattle.std.specs.Fn.{Called, ComputesKey}
use Rattle.std.specs.List.Sorted.{IsStableByKey, ties}
use Rattle.std.specs.Ordering.{is_lt, nat_cmp}
use Rattle.vsw_promise.specs.declared.schedule.Entry.{Entry}
use denote.Param.Members.{Mut}
use denote.Ref.{Bor}

alike : (n m : ℕ) → ties (λ x y. is_lt (nat_cmp x y)) n m ≡ (m == n)
alike n m = grind (arith, nat_tests)

pub stable : {F : Type 0} {g : Mut F (Bor Entry × Unit {0}) ℕ} {f : F} (xs ys : List Entry)
    → ((key : Entry → ℕ) → ComputesKey g key f → IsStableByKey key nat_cmp xs ys)
    → ((a : Bor Entry × Unit {0}) (r : ℕ) (f' : F) → Called g f a r f' → (r ≡ a.0.now.at) × (f' ≡ f))
    → (n : ℕ) → filter (λ (e : Entry). e.at == n) ys ≡ filter (λ (e : Entry). e.at == n) xs
stable {g = g} {f = f} xs ys same calls n =
    let key = λ (e : Entry). e.at in
    let first : Entry = record { at = n; place = 0 } in
    let tests : (es : List Entry) → filter (ties (λ x y. is_lt (nat_cmp (key x) (key y))) first) es ≡ filter (λ (e : Entry). e.at == n) es =
    λ es. ap (λ (p : Entry → Bool). filter p es) (λ j e. alike n e.at j) in
    sym (tests ys) ∙ same key (always_returns_same g (λ a r. r ≡ key a.0.now) f calls) first ∙ tests xs
