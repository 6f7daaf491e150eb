-- Callers by their numbers, and what a call leaves of them.
use Rattle.std.proofs.Common.{◌≡◌, ◌≢◌, ◌≤◌, ◌<◌, ◌+◌, ◌-◌, ◌++◌, ℕ, zero, suc, Bool, List, [], ◌∷◌, length, get_or, refl, sym, ap, subst, ◌∙◌, arith, length-set}
use Rattle.std.specs.List.{slice_set}
use mathlib.Core.List.{IsPrefix}
use Rattle.vsw_flows.specs.Flows.{IsOf, Looking}
use Rattle.vsw_port.specs.declared.event.Event.{Event}
use Rattle.vsw_table.proofs.Fronts.{prefix_trans}
use Rattle.vsw_sole.specs.declared.caller.Caller.{Caller}
use Rattle.vsw_flows.specs.Flows.{Writing}
use Rattle.vsw_sole.specs.Callers.{HasCalled, IsCaller, IsSole, Numbered, Refills, one_if}

-- what holds of each with its number holds at a place
pub numbered_at : (P : ℕ → Caller → Type 0) (n k : ℕ) (cs : List Caller) (c : Caller) → k < length cs → c ≡ get_or cs k c → Numbered P n cs → P (n + k) c
numbered_at P n k [] c lt here all = absurd (omega (arith, lt))
numbered_at P n zero (d ∷ cs) c lt here all = subst (λ m. P m c) (omega arith) (subst (P n) (sym here) all.0)
numbered_at P n (suc k) (d ∷ cs) c lt here all = subst (λ m. P m c) (omega arith) (numbered_at P (suc n) k cs c (omega (arith, lt)) here all.1)

-- each has something else
pub numbered_map : (P Q : ℕ → Caller → Type 0) (n : ℕ) → ((m : ℕ) → n ≤ m → (c : Caller) → P m c → Q m c) → (cs : List Caller) → Numbered P n cs → Numbered Q n cs
numbered_map P Q n f [] all = tt
numbered_map P Q n f (c ∷ cs) all = (f n (omega arith) c all.0, numbered_map P Q (suc n) (λ m le. f m (omega (arith, le))) cs all.1)

-- one is another, and the others have something else
pub numbered_set : (P Q : ℕ → Caller → Type 0) (n k : ℕ) → ((m : ℕ) → m ≢ n + k → (c : Caller) → P m c → Q m c) → (cs : List Caller) (d : Caller) → Q (n + k) d → Numbered P n cs → Numbered Q n (slice_set cs k d)
numbered_set P Q n k f [] d new all = tt
numbered_set P Q n zero f (c ∷ cs) d new all = (subst (λ m. Q m d) (omega arith) new, numbered_map P Q (suc n) (λ m le. f m (λ e. omega (arith, le, e))) cs all.1)
numbered_set P Q n (suc k) f (c ∷ cs) d new all =
    (f n (λ e. omega (arith, e)) c all.0, numbered_set P Q (suc n) k (λ m other. f m (λ e. other (omega (arith, e)))) cs d (subst (λ m. Q m d) (omega arith) new) all.1)

prefix_more : {A : Type 0} (xs ys zs : List A) → IsPrefix xs ys → IsPrefix xs (ys ++ zs)
prefix_more xs ys zs p = prefix_trans xs ys (ys ++ zs) p (zs, refl)

-- a caller that didn't call stands at the longer history
waits : (l : Looking) (h es : List Event) (room less m : ℕ) (c : Caller) → less ≤ room → IsCaller l h room m c → IsCaller l (h ++ es) less m c
waits l h es room less m c le is = record { told = is.told; number_is = is.number_is; front = prefix_more c.pass.view.front h es is.front; may = omega (arith, le, is.may) }

-- and so does the one that called
called : (l : Looking) (h : List Event) (room m : ℕ) (entry : Bool) (g : List Event) (c d : Caller) → IsCaller l h room m c → HasCalled l g entry c d → IsCaller l g (room - one_if entry) m d
called l h room m entry g c d is has = record { told = has.told; number_is = has.number_is ∙ is.number_is; front = ([], append_end d.pass.view.front ∙ has.front); may = omega (arith, is.may, has.permits) }
  where
    append_end : (xs : List Event) → xs ++ [] ≡ xs
    append_end [] = refl
    append_end (x ∷ xs) = ap (λ w. x ∷ w) (append_end xs)

-- all callers after a call of one of them
pub callers_called : (l : Looking) (h es g : List Event) (room k : ℕ) (entry : Bool) (cs : List Caller) (c d : Caller) → g ≡ h ++ es → k < length cs → c ≡ get_or cs k c → HasCalled l g entry c d
    → Numbered (IsCaller l h room) 0 cs → Numbered (IsCaller l g (room - one_if entry)) 0 (slice_set cs k d)
callers_called l h es g room k entry cs c d is lt here has all =
    let new : IsCaller l g (room - one_if entry) (0 + k) d = called l h room (0 + k) entry g c d (numbered_at (IsCaller l h room) 0 k cs c lt here all) has in
    numbered_set (IsCaller l h room) (IsCaller l g (room - one_if entry)) 0 k (λ m other e stands. subst (λ f. IsCaller l f (room - one_if entry) m e) (sym is) (waits l h es room (room - one_if entry) m e (omega arith) stands)) cs d new all

-- a caller that got more permits
refilled : (l : Looking) (h : List Event) (room m : ℕ) (c d : Caller) → IsCaller l h room m c → Refills l h c d → IsCaller l h room m d
refilled l h room m c d is more = record { told = more.told; number_is = more.number_is ∙ is.number_is; front = more.front; may = omega (arith, is.may, more.permits) }

pub callers_refilled : (l : Looking) (h : List Event) (room k : ℕ) (cs : List Caller) (c d : Caller) → k < length cs → c ≡ get_or cs k c → Refills l h c d → Numbered (IsCaller l h room) 0 cs → Numbered (IsCaller l h room) 0 (slice_set cs k d)
callers_refilled l h room k cs c d lt here more all =
    numbered_set (IsCaller l h room) (IsCaller l h room) 0 k (λ m other e stands. stands) cs d (refilled l h room (0 + k) c d (numbered_at (IsCaller l h room) 0 k cs c lt here all) more) all

-- what a caller's number stands at
pub caller_at : (l : Looking) (h : List Event) (room k : ℕ) (cs : List Caller) (c : Caller) → k < length cs → c ≡ get_or cs k c → Numbered (IsCaller l h room) 0 cs → IsCaller l h room k c
caller_at l h room k cs c lt here all = subst (λ m. IsCaller l h room m c) (omega arith) (numbered_at (IsCaller l h room) 0 k cs c lt here all)

-- a port after a call of one caller
pub sole_called : (l : Looking) (v w : Writing) (es : List Event) (controllers : List ℕ) (cs : List Caller) (workers room k : ℕ) (entry : Bool) (c d : Caller) → IsSole l v controllers cs workers room → IsOf l w → w.view.history ≡ v.view.history ++ es
    → k < length cs → c ≡ get_or cs k c → HasCalled l w.view.history entry c d → IsSole l w controllers (slice_set cs k d) workers (room - one_if entry)
sole_called l v w es controllers cs workers room k entry c d is of grown lt here has = record {
  core = of;
  callers_are = callers_called l v.view.history es w.view.history room k entry cs c d grown lt here has is.callers_are;
  controllers_are = is.controllers_are;
  many = length-set cs k d ∙ is.many;
  few = is.few;
}

-- a caller of a number below this one may make at least so many entries
abbrev pub Filled : ℕ → ℕ → ℕ → Caller → Type 0
Filled least to n c = n < to → least ≤ c.permits

pub none_filled : (least n : ℕ) (cs : List Caller) → Numbered (Filled least 0) n cs
none_filled least n [] = tt
none_filled least n (c ∷ cs) = (λ lt. absurd (omega (arith, lt)), none_filled least (suc n) cs)

-- one more may
pub one_filled : (least to : ℕ) (cs : List Caller) (d : Caller) → least ≤ d.permits → Numbered (Filled least to) 0 cs → Numbered (Filled least (to + 1)) 0 (slice_set cs to d)
one_filled least to cs d may all = numbered_set (Filled least to) (Filled least (to + 1)) 0 to (λ m other c old lt. old (by m other lt)) cs d (λ lt. may) all
  where
    by : (m : ℕ) → m ≢ 0 + to → m < to + 1 → m < to
    by m other lt = omega (arith, lt, other)

-- where all may, there is so much room
pub all_filled : (l : Looking) (h : List Event) (room least to n : ℕ) (cs : List Caller) → n + length cs ≤ to → Numbered (IsCaller l h room) n cs → Numbered (Filled least to) n cs → Numbered (IsCaller l h least) n cs
all_filled l h room least to n [] le all filled = tt
all_filled l h room least to n (c ∷ cs) le all filled =
    (record { told = all.0.told; number_is = all.0.number_is; front = all.0.front; may = filled.0 (omega (arith, le)) }, all_filled l h room least to (suc n) cs (omega (arith, le)) all.1 filled.1)

-- less room than there is
pub less_room : (l : Looking) (h : List Event) (room less n : ℕ) (cs : List Caller) → less ≤ room → Numbered (IsCaller l h room) n cs → Numbered (IsCaller l h less) n cs
less_room l h room less n cs le all = numbered_map (IsCaller l h room) (IsCaller l h less) n (λ m low c is. record { told = is.told; number_is = is.number_is; front = is.front; may = omega (arith, le, is.may) }) cs all
