-- What the actors of a machine have seen, as it is held.
use Rattle.std.proofs.Common.{◌≡◌, ℕ, zero, suc, ◌<◌, ◌≤◌, Bool, true, false, max, if◌then◌else◌, nat_lt, List, [], ◌∷◌, ◌++◌, length, take, refl, ap, sym, ◌∙◌, subst, arith, set, get_or, length-append}
use Rattle.std.proofs.lemmas.List.{take-append-le, length-take-le, get_or_past}
use Rattle.std.proofs.Math.Seq.{take-length}
use Rattle.std.proofs.lemmas.Bool.{ltb-true, ltb-false}
use Rattle.vsw_stamps.specs.declared.scan.Sight.{Sight}
use Rattle.vsw_stamps.specs.Machine.{Actor, no_actor, living, longer}
use Rattle.vsw_stamps.specs.Store.{actor_of, actors_of, AllWithinFirst}

pub within_more : (n : ℕ) (ss : List Sight) (s : Sight) → AllWithinFirst n ss → s.count ≤ n → AllWithinFirst n (ss ++ s ∷ [])
within_more n [] s h le = (le, tt)
within_more n (x ∷ xs) s h le = (h.0, within_more n xs s h.1 le)

pub within_set : (n : ℕ) (ss : List Sight) (i : ℕ) (s : Sight) → AllWithinFirst n ss → s.count ≤ n → AllWithinFirst n (set ss i s)
within_set n [] i s h le = tt
within_set n (x ∷ xs) zero s h le = (le, h.1)
within_set n (x ∷ xs) (suc i) s h le = (h.0, within_set n xs i s h.1 le)

within_get : (n : ℕ) (ss : List Sight) (i : ℕ) (d : Sight) → i < length ss → AllWithinFirst n ss → (get_or ss i d).count ≤ n
within_get n [] i d lt h = absurd (omega (arith, lt))
within_get n (x ∷ xs) zero d lt h = h.0
within_get n (x ∷ xs) (suc i) d lt h = within_get n xs i d (omega (arith, lt)) h.1

module _ {E : Type 0} where
  pub within_more_entries : (h : List E) (e : E) (ss : List Sight) → AllWithinFirst (length h) ss → AllWithinFirst (length (h ++ e ∷ [])) ss
  within_more_entries h e [] w = tt
  within_more_entries h e (s ∷ ss) w = (omega (arith, w.0, length-append h (e ∷ [])), within_more_entries h e ss w.1)

  -- a front stays when the history grows
  pub actors_later : (h : List E) (e : E) (ss : List Sight) → AllWithinFirst (length h) ss → actors_of (h ++ e ∷ []) ss ≡ actors_of h ss
  actors_later h e [] w = refl
  actors_later h e (s ∷ ss) w =
      let one : actor_of (h ++ e ∷ []) s ≡ actor_of h s = ap (λ (f : List E). record { live = s.live; front = f }) (take-append-le s.count h (e ∷ []) w.0) in
      let rest = actors_later h e ss w.1 in
      λ i. one i ∷ rest i

  pub actors_more : (h : List E) (ss : List Sight) (s : Sight) → actors_of h (ss ++ s ∷ []) ≡ actors_of h ss ++ actor_of h s ∷ []
  actors_more h [] s = refl
  actors_more h (x ∷ xs) s = ap (λ (xs : List (Actor E)). actor_of h x ∷ xs) (actors_more h xs s)

  actors_set : (h : List E) (ss : List Sight) (i : ℕ) (s : Sight) → actors_of h (set ss i s) ≡ set (actors_of h ss) i (actor_of h s)
  actors_set h [] i s = refl
  actors_set h (x ∷ xs) zero s = refl
  actors_set h (x ∷ xs) (suc i) s = ap (λ (xs : List (Actor E)). actor_of h x ∷ xs) (actors_set h xs i s)

  actors_get : (h : List E) (ss : List Sight) (i : ℕ) (d : Sight) → i < length ss → get_or (actors_of h ss) i no_actor ≡ actor_of h (get_or ss i d)
  actors_get h [] i d lt = absurd (omega (arith, lt))
  actors_get h (x ∷ xs) zero d lt = refl
  actors_get h (x ∷ xs) (suc i) d lt = actors_get h xs i d (omega (arith, lt))

  pub actors_length : (h : List E) (ss : List Sight) → length (actors_of h ss) ≡ length ss
  actors_length h [] = refl
  actors_length h (x ∷ xs) = ap suc (actors_length h xs)

  pub none_there : (h : List E) (ss : List Sight) (a : ℕ) → length ss ≤ a → false ≡ (get_or (actors_of h ss) a no_actor).live
  none_there h ss a le = sym (ap (λ (x : Actor E). x.live) (get_or_past (actors_of h ss) a no_actor (omega (arith, le, actors_length h ss))))

  pub lives : (h : List E) (ss : List Sight) (a : ℕ) (s : Sight) (b : Bool) → a < length ss → s ≡ get_or ss a s → s.live ≡ b → b ≡ (get_or (actors_of h ss) a no_actor).live
  lives h ss a s b lt is live = sym live ∙ (ap (λ (x : Sight). x.live) is ∙ sym (ap (λ (x : Actor E). x.live) (actors_get h ss a s lt)))

  -- a live actor that was found
  pub found : (h : List E) (ss : List Sight) (a : ℕ) (s : Sight) → AllWithinFirst (length h) ss → a < length ss → s ≡ get_or ss a s → s.live ≡ true
      → (s.live ≡ true) × (s.count ≤ length h) × (actor_of h s ≡ get_or (actors_of h ss) a no_actor) × (a < length (actors_of h ss))
  found h ss a s w lt is live = (
    live,
    subst (λ (x : Sight). x.count ≤ length h) (sym is) (within_get (length h) ss a s lt w),
    ap (λ (x : Sight). actor_of h x) is ∙ sym (actors_get h ss a s lt),
    omega (arith, lt, actors_length h ss),
  )

  -- the longer of two beginnings of one list
  longer_of : (h : List E) (c d : ℕ) (b : Bool) → c ≤ length h → d ≤ length h → nat_lt c d ≡ b → take (max c d) h ≡ longer (take c h) (take d h)
  longer_of h c d true le le' is =
      let e : max c d ≡ d = omega (arith, ltb-true c d is) in
      let t : nat_lt (length (take c h)) (length (take d h)) ≡ true = ap (λ (n : ℕ). nat_lt n (length (take d h))) (length-take-le c h le) ∙ (ap (λ (n : ℕ). nat_lt c n) (length-take-le d h le') ∙ is) in
      ap (λ (n : ℕ). take n h) e ∙ sym (ap (λ (b : Bool). if b then take d h else take c h) t)
  longer_of h c d false le le' is =
      let e : max c d ≡ c = omega (arith, ltb-false c d is) in
      let t : nat_lt (length (take c h)) (length (take d h)) ≡ false = ap (λ (n : ℕ). nat_lt n (length (take d h))) (length-take-le c h le) ∙ (ap (λ (n : ℕ). nat_lt c n) (length-take-le d h le') ∙ is) in
      ap (λ (n : ℕ). take n h) e ∙ sym (ap (λ (b : Bool). if b then take d h else take c h) t)

  -- two actors are joined
  pub joined : (h : List E) (ss : List Sight) (a b : ℕ) (one two : Sight) (c : ℕ) → one.count ≤ length h → two.count ≤ length h → c ≡ max one.count two.count
      → actor_of h one ≡ get_or (actors_of h ss) a no_actor → actor_of h two ≡ get_or (actors_of h ss) b no_actor
      → actors_of h (set (set ss a (record { live = true; count = c })) b (record { live = false; count = two.count }))
      ≡ set (set (actors_of h ss) a (living (longer (get_or (actors_of h ss) a no_actor).front (get_or (actors_of h ss) b no_actor).front))) b (record { live = false; front = (get_or (actors_of h ss) b no_actor).front })
  joined h ss a b one two c le le' is first second =
      let s : Sight = record { live = true; count = c } in
      let t : Sight = record { live = false; count = two.count } in
      let f : take one.count h ≡ (get_or (actors_of h ss) a no_actor).front = ap (λ (x : Actor E). x.front) first in
      let g : take two.count h ≡ (get_or (actors_of h ss) b no_actor).front = ap (λ (x : Actor E). x.front) second in
      let front : take c h ≡ longer (take one.count h) (take two.count h) = ap (λ (n : ℕ). take n h) is ∙ longer_of h one.count two.count (nat_lt one.count two.count) le le' refl in
      let front' : take c h ≡ longer (get_or (actors_of h ss) a no_actor).front (get_or (actors_of h ss) b no_actor).front = front ∙ (λ i. longer (f i) (g i)) in
      let outer : actors_of h (set (set ss a s) b t) ≡ set (set (actors_of h ss) a (actor_of h s)) b (actor_of h t) = actors_set h (set ss a s) b t ∙ ap (λ (xs : List (Actor E)). set xs b (actor_of h t)) (actors_set h ss a s) in
      outer ∙ (λ i. set (set (actors_of h ss) a (living (front' i))) b (record { live = false; front = g i }))

  -- an actor has seen all
  pub all_seen : (h : List E) (ss : List Sight) (a n : ℕ) → n ≡ length h → actors_of h (set ss a (record { live = true; count = n })) ≡ set (actors_of h ss) a (living h)
  all_seen h ss a n is = actors_set h ss a (record { live = true; count = n }) ∙ ap (λ (f : List E). set (actors_of h ss) a (living f)) (ap (λ (m : ℕ). take m h) is ∙ take-length h)
