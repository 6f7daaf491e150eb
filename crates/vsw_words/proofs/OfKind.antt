-- The act that three words are of, and what it does.
use Rattle.std.proofs.Common.{◌≡◌, ℕ, ◌-◌, ◌%◌, ◌<◌, ◌≤◌, ◌==◌, List, [], ◌∷◌, refl, sym, ◌∙◌, ap, subst, arith, length, drop, get_or, Bool, true, false, Option, Some, None, is_some, zero, suc}
use Rattle.std.specs.Prelude.{if◌then◌else◌}
use Rattle.std.proofs.lemmas.Grind.{common_steps}
use Rattle.vsw_base.specs.declared.header.Header.{Header}
use Rattle.vsw_words.specs.Private.Acts.{push_at, stay_at}
use Rattle.vsw_transpose.specs.declared.act.Change.TheVariants as of
use Rattle.vsw_transpose.specs.declared.act.Act.{Act}
use Rattle.vsw_transpose.specs.declared.act.Act.TheVariants.{Push, Pop, Modify, Ignore}
use Rattle.vsw_transpose.specs.Apply.{apply}
use Rattle.vsw_words.specs.Reading.{ether_by, ether_change, ip6, ip_by, ip_change, or_none, ports_change, read_act, read_acts, vxlan_by, with_act}
use Rattle.vsw_words.proofs.Acts.{told_at}
use Rattle.vsw_words.proofs.Taken.{parted, told_long}

some_is : (y x : Act) → ◌≡◌ {A = Option Act} (Some y) (Some x) → y ≡ x
some_is y x e = grind (arith, common_steps)

none_is : (x : Act) → ◌≡◌ {A = Option Act} None (Some x) → ⊥
none_is x e = grind (arith, common_steps)

is_number : (m n : ℕ) → (m == n) ≡ true → m ≡ n
is_number m n t = grind (arith, common_steps)

-- one test of the kind
test : (P : Act → Type 0) (m n : ℕ) (y x : Act) (o : Option Act) → (if m == n then Some y else o) ≡ Some x → (m ≡ n → P y) → (o ≡ Some x → P x) → P x
test P m n y x o e here others = by (m == n) refl e
  where
    by : (t : Bool) → (m == n) ≡ t → (if t then Some y else o) ≡ Some x → P x
    by true f e = subst P (some_is y x e) (here (is_number m n f))
    by false f e = others e

-- what holds of the act of each kind
pub record Kinds (P : Act → Type 0) (h a b : ℕ) : Type 0 where
  pub one : h % 16 ≡ 1 → P (Push (ether_by h a b))
  pub two : h % 16 ≡ 2 → P (Push (ip_by h a b))
  pub three : h % 16 ≡ 3 → P (Push (vxlan_by h))
  pub four : h % 16 ≡ 4 → P Pop
  pub five : h % 16 ≡ 5 → P (Modify (ether_change h a b))
  pub six : h % 16 ≡ 6 → P (Modify (ip_change h a b))
  pub seven : h % 16 ≡ 7 → P (Modify (ports_change h a b))
  pub eight : h % 16 ≡ 8 → P Ignore
  pub nine : h % 16 ≡ 9 → P (Modify (of.Six (Some (ip6 a b)) None))
  pub ten : h % 16 ≡ 10 → P (Modify (of.Six None (Some (ip6 a b))))

pub by_kind : (P : Act → Type 0) (h a b : ℕ) (x : Act) → Kinds P h a b → read_act h a b ≡ Some x → P x
by_kind P h a b x k r =
    test P (h % 16) 1 _ x _ (told_at h h a b x refl r) k.one (λ e.
    test P (h % 16) 2 _ x _ e k.two (λ e.
    test P (h % 16) 3 _ x _ e k.three (λ e.
    test P (h % 16) 4 _ x _ e k.four (λ e.
    test P (h % 16) 5 _ x _ e k.five (λ e.
    test P (h % 16) 6 _ x _ e k.six (λ e.
    test P (h % 16) 7 _ x _ e k.seven (λ e.
    test P (h % 16) 8 _ x _ e k.eight (λ e.
    test P (h % 16) 9 _ x _ e k.nine (λ e.
    test P (h % 16) 10 _ x None e k.ten (λ e. absurd (none_is x e)))))))))))

-- words of a kind below 4 push
pub pushes_at : (h a b : ℕ) (x : Act) → h % 16 < 4 → read_act h a b ≡ Some x → x ≡ Push (push_at (h % 16) h a b)
pushes_at h a b x l = by_kind (λ y. y ≡ Push (push_at (h % 16) h a b)) h a b x (record {
  one = λ e. ap (λ (k : ℕ). Push (push_at k h a b)) (sym e);
  two = λ e. ap (λ (k : ℕ). Push (push_at k h a b)) (sym e);
  three = λ e. ap (λ (k : ℕ). Push (push_at k h a b)) (sym e);
  four = λ e. absurd (omega (arith, l, e));
  five = λ e. absurd (omega (arith, l, e));
  six = λ e. absurd (omega (arith, l, e));
  seven = λ e. absurd (omega (arith, l, e));
  eight = λ e. absurd (omega (arith, l, e));
  nine = λ e. absurd (omega (arith, l, e));
  ten = λ e. absurd (omega (arith, l, e));
})

-- those of kind 4 pop
pub pops_at : (h a b : ℕ) (x : Act) → h % 16 ≡ 4 → read_act h a b ≡ Some x → x ≡ Pop
pops_at h a b x l = by_kind (λ y. y ≡ Pop) h a b x (record {
  one = λ e. absurd (omega (arith, l, e));
  two = λ e. absurd (omega (arith, l, e));
  three = λ e. absurd (omega (arith, l, e));
  four = λ e. refl;
  five = λ e. absurd (omega (arith, l, e));
  six = λ e. absurd (omega (arith, l, e));
  seven = λ e. absurd (omega (arith, l, e));
  eight = λ e. absurd (omega (arith, l, e));
  nine = λ e. absurd (omega (arith, l, e));
  ten = λ e. absurd (omega (arith, l, e));
})

-- those of kind 8 leave the header
pub ignores_at : (h a b : ℕ) (x : Act) → h % 16 ≡ 8 → read_act h a b ≡ Some x → x ≡ Ignore
ignores_at h a b x l = by_kind (λ y. y ≡ Ignore) h a b x (record {
  one = λ e. absurd (omega (arith, l, e));
  two = λ e. absurd (omega (arith, l, e));
  three = λ e. absurd (omega (arith, l, e));
  four = λ e. absurd (omega (arith, l, e));
  five = λ e. absurd (omega (arith, l, e));
  six = λ e. absurd (omega (arith, l, e));
  seven = λ e. absurd (omega (arith, l, e));
  eight = λ e. refl;
  nine = λ e. absurd (omega (arith, l, e));
  ten = λ e. absurd (omega (arith, l, e));
})

-- the act is done at a header, and this is what it makes of it
abbrev pub Stays : ℕ → ℕ → ℕ → Act → Type 0
Stays h a b x = (g : Header) (xs : List Act) (hs : List Header) → apply (x ∷ xs) (g ∷ hs) ≡ stay_at (h % 16) h a b g ∷ apply xs hs

stays_by : (h a b kind : ℕ) (x : Act) → h % 16 ≡ kind → ((g : Header) (xs : List Act) (hs : List Header) → apply (x ∷ xs) (g ∷ hs) ≡ stay_at kind h a b g ∷ apply xs hs) → Stays h a b x
stays_by h a b kind x e made g xs hs = made g xs hs ∙ ap (λ (k : ℕ). stay_at k h a b g ∷ apply xs hs) (sym e)

-- those above 4 leave a header
pub stays_at : (h a b : ℕ) (x : Act) → 4 < h % 16 → read_act h a b ≡ Some x → Stays h a b x
stays_at h a b x l = by_kind (Stays h a b) h a b x (record {
  one = λ e. absurd (omega (arith, l, e));
  two = λ e. absurd (omega (arith, l, e));
  three = λ e. absurd (omega (arith, l, e));
  four = λ e. absurd (omega (arith, l, e));
  five = λ e. stays_by h a b 5 (Modify (ether_change h a b)) e (λ g xs hs. refl);
  six = λ e. stays_by h a b 6 (Modify (ip_change h a b)) e (λ g xs hs. refl);
  seven = λ e. stays_by h a b 7 (Modify (ports_change h a b)) e (λ g xs hs. refl);
  eight = λ e. stays_by h a b 8 Ignore e (λ g xs hs. refl);
  nine = λ e. stays_by h a b 9 (Modify (of.Six (Some (ip6 a b)) None)) e (λ g xs hs. refl);
  ten = λ e. stays_by h a b 10 (Modify (of.Six None (Some (ip6 a b)))) e (λ g xs hs. refl);
})

-- an act that pushes nothing does nothing without a header
abbrev pub NeedsHeader : Act → Type 0
NeedsHeader x = (xs : List Act) → apply (x ∷ xs) [] ≡ []

pub needs_at : (h a b : ℕ) (x : Act) → 4 ≤ h % 16 → read_act h a b ≡ Some x → NeedsHeader x
needs_at h a b x l = by_kind NeedsHeader h a b x (record {
  one = λ e. absurd (omega (arith, l, e));
  two = λ e. absurd (omega (arith, l, e));
  three = λ e. absurd (omega (arith, l, e));
  four = λ e xs. refl;
  five = λ e xs. refl;
  six = λ e xs. refl;
  seven = λ e xs. refl;
  eight = λ e xs. refl;
  nine = λ e xs. refl;
  ten = λ e xs. refl;
})

-- the first act of a row, and the others
abbrev pub Takes : ℕ → ℕ → List ℕ → List ℕ → ℕ × ℕ × ℕ → Type 0
Takes count fewer ws rest w = (x : Act) × (read_act w.0 w.1 w.2 ≡ Some x) × (is_some (read_acts fewer rest) ≡ true) × (or_none (read_acts count ws) ≡ x ∷ or_none (read_acts fewer rest))

parts : (o : Option Act) (p : Option (List Act)) → is_some (with_act o p) ≡ true → (x : Act) × (o ≡ Some x) × (is_some p ≡ true) × (or_none (with_act o p) ≡ x ∷ or_none p)
parts None p t = absurd (grind (arith, common_steps))
parts (Some x) None t = absurd (grind (arith, common_steps))
parts (Some x) (Some xs) t = (x, refl, refl, refl)

-- the words of one act and the others, of so many acts in all
abbrev pub Words : ℕ → List ℕ → List ℕ → ℕ × ℕ × ℕ → Type 0
Words count ws rest w = (0 < count) × (3 ≤ length ws) × (w ≡ (get_or ws 0 0, get_or ws 1 0, get_or ws 2 0)) × (rest ≡ drop 3 ws) × (is_some (read_acts count ws) ≡ true)

pub words_of : (count : ℕ) (ws rest : List ℕ) (w : ℕ × ℕ × ℕ) → 0 < count → w ≡ (get_or ws 0 0, get_or ws 1 0, get_or ws 2 0) → rest ≡ drop 3 ws → is_some (read_acts count ws) ≡ true → Words count ws rest w
words_of count ws rest w some e cut told = (some, told_long count ws some told, e, cut, told)

pub taken : (count : ℕ) (ws rest : List ℕ) (w : ℕ × ℕ × ℕ) → Words count ws rest w → Takes count (count - 1) ws rest w
taken zero ws rest w k = absurd (omega (arith, k.0))
taken (suc n) ws rest w k =
    let whole : ws ≡ w.0 ∷ w.1 ∷ w.2 ∷ rest = parted ws rest w k.1 k.2 k.3 in
    let less : n ≡ suc n - 1 = omega arith in
    let here : Takes (suc n) n (w.0 ∷ w.1 ∷ w.2 ∷ rest) rest w = parts (read_act w.0 w.1 w.2) (read_acts n rest) (ap (λ (vs : List ℕ). is_some (read_acts (suc n) vs)) (sym whole) ∙ k.4) in
    subst (λ (vs : List ℕ). Takes (suc n) (suc n - 1) vs rest w) (sym whole) (subst (λ (m : ℕ). Takes (suc n) m (w.0 ∷ w.1 ∷ w.2 ∷ rest) rest w) less here)
