-- The first element that passes a test, where it is changed, where it is placed, and where it stands last.
use Rattle.std.proofs.Common.{◌≡◌, ℕ, ◌||◌, Bool, true, false, List, [], ◌∷◌, ◌++◌, Some, None, refl, ap}
use Rattle.std.specs.List.{find, list_any}
use Rattle.vsw_policy.specs.Groups.{changed}
use Rattle.vsw_policy.specs.Layer.{LayerSeen}
use Rattle.vsw_policy.specs.Layers.{is_before}
use Rattle.vsw_policy.specs.Obey.{placed}
use Rattle.vsw_policy.specs.Sound.{Each}

or-false : (a b : Bool) → a || b ≡ false → (a ≡ false) × (b ≡ false)
or-false true b h = absurd (cc)
or-false false b h = (refl, h)

or-true : (a : Bool) → a || true ≡ true
or-true true = refl
or-true false = refl

pub none-any : {A : Type 0} (p : A → Bool) (xs : List A) → Each (λ x. p x ≡ false) xs → list_any p xs ≡ false
none-any p [] h = refl
none-any p (x ∷ xs) h = let ih = none-any p xs h.1 in rw h.0 ih

-- ---- where it is changed

pub found : {A : Type 0} (p : A → Bool) (xs : List A) → list_any p xs ≡ true → (x : A) × (find p xs ≡ Some x)
found p [] h = absurd (cc)
found {A} p (x ∷ xs) h = by (p x) refl (found p xs)
  where
    by : (b : Bool) → p x ≡ b → (list_any p xs ≡ true → (y : A) × (find p xs ≡ Some y)) → (y : A) × (find p (x ∷ xs) ≡ Some y)
    by true e ih = (x, rw e refl)
    by false e ih = let t = ih (rw e at h) in (t.0, rw e t.1)

pub find-changed : {A : Type 0} (p : A → Bool) (f : A → A) → ((x : A) → p (f x) ≡ p x) → (xs : List A) (x : A) → find p xs ≡ Some x → find p (changed p f xs) ≡ Some (f x)
find-changed p f k [] x h = absurd (cc)
find-changed p f k (y ∷ ys) x h = by (p y) refl (find-changed p f k ys x)
  where
    by : (b : Bool) → p y ≡ b → (find p ys ≡ Some x → find p (changed p f ys) ≡ Some (f x)) → find p (changed p f (y ∷ ys)) ≡ Some (f x)
    by true e ih = let i : Some y ≡ Some x = rw e at h in rw e (rw (k y) (rw e (ap (λ o. elim o [ None ↦ Some (f x) | Some z ↦ Some (f z) ]) i)))
    by false e ih = rw e (rw e (ih (rw e at h)))

pub any-changed : {A : Type 0} (p : A → Bool) (f : A → A) → ((x : A) → p (f x) ≡ p x) → (xs : List A) → list_any p (changed p f xs) ≡ list_any p xs
any-changed p f k [] = refl
any-changed p f k (x ∷ xs) = by (p x) refl (any-changed p f k xs)
  where
    by : (b : Bool) → p x ≡ b → list_any p (changed p f xs) ≡ list_any p xs → list_any p (changed p f (x ∷ xs)) ≡ list_any p (x ∷ xs)
    by true e ih = rw e (rw (k x) (rw e refl))
    by false e ih = rw e (rw e ih)

pub twice-changed : {A : Type 0} (p : A → Bool) (f g : A → A) → ((x : A) → p (f x) ≡ p x) → (xs : List A) → changed p g (changed p f xs) ≡ changed p (λ x. g (f x)) xs
twice-changed p f g k [] = refl
twice-changed p f g k (x ∷ xs) = by (p x) refl (twice-changed p f g k xs)
  where
    by : (b : Bool) → p x ≡ b → changed p g (changed p f xs) ≡ changed p (λ y. g (f y)) xs → changed p g (changed p f (x ∷ xs)) ≡ changed p (λ y. g (f y)) (x ∷ xs)
    by true e ih = rw e (rw (k x) (rw e refl))
    by false e ih = rw e (rw e (ap (λ ys. x ∷ ys) ih))

pub changed-same : {A : Type 0} (p : A → Bool) (f : A → A) → ((x : A) → f x ≡ x) → (xs : List A) → changed p f xs ≡ xs
changed-same p f k [] = refl
changed-same p f k (x ∷ xs) = by (p x) refl (changed-same p f k xs)
  where
    by : (b : Bool) → p x ≡ b → changed p f xs ≡ xs → changed p f (x ∷ xs) ≡ x ∷ xs
    by true e ih = rw e (ap (λ y. y ∷ xs) (k x))
    by false e ih = rw e (ap (λ ys. x ∷ ys) ih)

-- ---- where it is placed

pub any-placed : (cs : List ℕ) (p : LayerSeen → Bool) (l : LayerSeen) (ls : List LayerSeen) → p l ≡ true → list_any p (placed cs l ls) ≡ true
any-placed cs p l [] own = rw own refl
any-placed cs p l (m ∷ ms) own = by (is_before cs l m) refl (any-placed cs p l ms own)
  where
    by : (b : Bool) → is_before cs l m ≡ b → list_any p (placed cs l ms) ≡ true → list_any p (placed cs l (m ∷ ms)) ≡ true
    by true e ih = rw e (rw own refl)
    by false e ih = rw e (rw ih (or-true (p m)))

pub find-placed : (cs : List ℕ) (p : LayerSeen → Bool) (l : LayerSeen) (ls : List LayerSeen) → p l ≡ true → list_any p ls ≡ false → find p (placed cs l ls) ≡ Some l
find-placed cs p l [] own none = rw own refl
find-placed cs p l (m ∷ ms) own none =
    let t = or-false (p m) (list_any p ms) none in
    by (is_before cs l m) refl t.0 (find-placed cs p l ms own t.1)
  where
    by : (b : Bool) → is_before cs l m ≡ b → p m ≡ false → find p (placed cs l ms) ≡ Some l → find p (placed cs l (m ∷ ms)) ≡ Some l
    by true e i ih = rw e (rw own refl)
    by false e i ih = rw e (rw i ih)

pub changed-placed : (cs : List ℕ) (p : LayerSeen → Bool) (f : LayerSeen → LayerSeen) (l : LayerSeen) → ((m : LayerSeen) → is_before cs (f l) m ≡ is_before cs l m) → p l ≡ true → (ls : List LayerSeen) → list_any p ls ≡ false → changed p f (placed cs l ls) ≡ placed cs (f l) ls
changed-placed cs p f l k own [] none = rw own refl
changed-placed cs p f l k own (m ∷ ms) none =
    let t = or-false (p m) (list_any p ms) none in
    by (is_before cs l m) refl (is_before cs (f l) m) refl (k m) t.0 (changed-placed cs p f l k own ms t.1)
  where
    by : (b : Bool) → is_before cs l m ≡ b → (d : Bool) → is_before cs (f l) m ≡ d → is_before cs (f l) m ≡ is_before cs l m → p m ≡ false → changed p f (placed cs l ms) ≡ placed cs (f l) ms → changed p f (placed cs l (m ∷ ms)) ≡ placed cs (f l) (m ∷ ms)
    by true e true j same i ih = rw (e, j) (rw own refl)
    by true e false j same i ih = absurd (cc)
    by false e true j same i ih = absurd (cc)
    by false e false j same i ih = rw (e, j) (rw i (ap (λ ys. m ∷ ys) ih))

-- ---- where it stands last

pub any-last : {A : Type 0} (p : A → Bool) (xs : List A) (y : A) → p y ≡ true → list_any p (xs ++ y ∷ []) ≡ true
any-last p [] y own = rw own refl
any-last p (x ∷ xs) y own = let ih = any-last p xs y own in rw ih (or-true (p x))

pub find-last : {A : Type 0} (p : A → Bool) (xs : List A) (y : A) → p y ≡ true → list_any p xs ≡ false → find p (xs ++ y ∷ []) ≡ Some y
find-last p [] y own none = rw own refl
find-last p (x ∷ xs) y own none =
    let t = or-false (p x) (list_any p xs) none in
    let ih = find-last p xs y own t.1 in
    rw t.0 ih

pub changed-last : {A : Type 0} (p : A → Bool) (f : A → A) (xs : List A) (y : A) → p y ≡ true → list_any p xs ≡ false → changed p f (xs ++ y ∷ []) ≡ xs ++ f y ∷ []
changed-last p f [] y own none = rw own refl
changed-last p f (x ∷ xs) y own none =
    let t = or-false (p x) (list_any p xs) none in
    let ih = changed-last p f xs y own t.1 in
    rw t.0 (ap (λ ys. x ∷ ys) ih)
