-- A row is looked for from the middle.
use Rattle.std.proofs.Common.{◌≡◌, ◌<◌, ℕ, zero, suc, List, [], ◌∷◌, ◌++◌, get_or, length, arith, true, false, true≢false, refl, ap, sym, ◌∙◌, subst}
use Rattle.std.specs.Prelude.{IfNone, IfSome, None, Option, Some}
use Rattle.std.proofs.lemmas.List.{append_assoc}
use Rattle.vsw_offload.proofs.Sorted.{less_not_self, less_trans, rise_behind, rise_split, rise_tail}
use Rattle.vsw_offload.specs.Private.Finding.{HasNone, HasOne}
use Rattle.vsw_offload.specs.Rows.{Rise, is_before, is_less, key_of}
use Rattle.vsw_policy.specs.Sound.{Each}

pub front_rises : (rows front : List (List ℕ)) (r : List ℕ) (back : List (List ℕ)) → rows ≡ front ++ r ∷ back → Rise rows → Rise front
front_rises rows front r back is rise = (rise_split front r back (subst Rise is rise)).0

pub back_rises : (rows front : List (List ℕ)) (r : List ℕ) (back : List (List ℕ)) → rows ≡ front ++ r ∷ back → Rise rows → Rise back
back_rises rows front r back is rise = rise_tail r back (rise_split front r back (subst Rise is rise)).1

pub one_here : (rows front : List (List ℕ)) (r : List ℕ) (back : List (List ℕ)) → rows ≡ front ++ r ∷ back → HasOne rows r
one_here rows front r back is = record { front = front; back = back; is = is }

pub one_behind : (rows front : List (List ℕ)) (r : List ℕ) (back : List (List ℕ)) (w : List ℕ) → rows ≡ front ++ r ∷ back → HasOne back w → HasOne rows w
one_behind rows front r back w is one = record {
  front = front ++ r ∷ one.front;
  back = one.back;
  is = is ∙ (ap (λ (xs : List (List ℕ)). front ++ r ∷ xs) one.is ∙ sym (append_assoc front (r ∷ one.front) (w ∷ one.back)));
}

pub one_ahead : (rows front : List (List ℕ)) (r : List ℕ) (back : List (List ℕ)) (w : List ℕ) → rows ≡ front ++ r ∷ back → HasOne front w → HasOne rows w
one_ahead rows front r back w is one = record {
  front = one.front;
  back = one.back ++ r ∷ back;
  is = is ∙ (ap (λ (xs : List (List ℕ)). xs ++ r ∷ back) one.is ∙ append_assoc one.front (w ∷ one.back) (r ∷ back));
}

join : (front : List (List ℕ)) (r : List ℕ) (back : List (List ℕ)) (key : List ℕ) → HasNone front key → (key_of r ≡ key → ⊥) → HasNone back key → HasNone (front ++ r ∷ back) key
join [] r back key a h b = (h, b)
join (f ∷ fs) r back key a h b = (a.0, join fs r back key a.1 h b)

pub never : (a b : List ℕ) → is_less a b ≡ true → a ≡ b → ⊥
never a b less same = true≢false (sym less ∙ (ap (λ x. is_less x b) same ∙ less_not_self b))

lesser : (r key : List ℕ) (fs : List (List ℕ)) → is_less (key_of r) key ≡ true → Each (λ f. is_before f r ≡ true) fs → HasNone fs key
lesser r key [] h e = tt
lesser r key (f ∷ fs) h e = (never (key_of f) key (less_trans (key_of f) (key_of r) key e.0 h), lesser r key fs h e.1)

greater : (r key : List ℕ) (bs : List (List ℕ)) → is_less (key_of r) key ≡ false → Each (λ b. is_before r b ≡ true) bs → HasNone bs key
greater r key [] h e = tt
greater r key (b ∷ bs) h e = ((λ same. true≢false (sym e.0 ∙ (ap (is_less (key_of r)) same ∙ h))), greater r key bs h e.1)

pub none_behind : (rows front : List (List ℕ)) (r : List ℕ) (back : List (List ℕ)) (key : List ℕ) → rows ≡ front ++ r ∷ back → Rise rows → is_less (key_of r) key ≡ true → HasNone back key → HasNone rows key
none_behind rows front r back key is rise less none =
    let s = rise_split front r back (subst Rise is rise) in
    subst (λ rs. HasNone rs key) (sym is) (join front r back key (lesser r key front less s.2) (never (key_of r) key less) none)

pub none_ahead : (rows front : List (List ℕ)) (r : List ℕ) (back : List (List ℕ)) (key : List ℕ) → rows ≡ front ++ r ∷ back → Rise rows → is_less (key_of r) key ≡ false → (key_of r ≡ key → false ≡ true) → HasNone front key → HasNone rows key
none_ahead rows front r back key is rise less other none =
    let s = rise_split front r back (subst Rise is rise) in
    subst (λ rs. HasNone rs key) (sym is) (join front r back key none (λ same. true≢false (sym (other same))) (greater r key back less (rise_behind r back s.1)))

pub some_on : {X : Type 0} (r : Option X) (P Q : X → Type 0) → ((x : X) → P x → Q x) → IfSome r P → IfSome r Q
some_on (Some x) P Q f h = f x h
some_on None P Q f h = tt

pub none_on : {X : Type 0} (r : Option X) (A B : Type 0) → (A → B) → IfNone r A → IfNone r B
none_on (Some x) A B f h = tt
none_on None A B f h = f h

-- the row at a place is among the rows
pub one_there : (rows : List (List ℕ)) (place : ℕ) → place < length rows → HasOne rows (get_or rows place [])
one_there [] place below = absurd (grind (arith, below))
one_there (f ∷ fs) zero below = record { front = []; back = fs; is = refl }
one_there (f ∷ fs) (suc k) below =
    let one = one_there fs k (omega (arith, below)) in record { front = f ∷ one.front; back = one.back; is = ap (λ (xs : List (List ℕ)). f ∷ xs) one.is }
