-- What one thing more adds to what went through a ring.
use Rattle.std.proofs.Common.{◌≡◌, Bool, true, false, List, [], ◌∷◌, ◌++◌, refl, ◌∙◌, ap, subst}
use mathlib.Core.List.{IsPrefix}
use Rattle.rtrb.specs.Ring.{received}
use Rattle.vsw_rings.specs.Items.{Follows, has_end, items_in}
use Rattle.vsw_rings.specs.Rings.{Takes, is_at_end}
use Rattle.vsw_rings.specs.declared.drain.Drain.{Drain}
use Rattle.vsw_rings.specs.declared.taken.Taken.{Taken}
use Rattle.vsw_rings.specs.declared.taken.Taken.TheVariants.{Item, End}

module _ {T : Type 0} where
  -- an item behind others
  pub item_more : (all : List (Taken T)) (x : T) → has_end all ≡ false → items_in (all ++ Item x ∷ []) ≡ items_in all ++ x ∷ []
  item_more [] x o = refl
  item_more (Item y ∷ all) x o = ap (λ xs. y ∷ xs) (item_more all x o)
  item_more (End ∷ all) x o = absurd (cc o)

  pub item_open : (all : List (Taken T)) (x : T) → has_end all ≡ false → has_end (all ++ Item x ∷ []) ≡ false
  item_open [] x o = refl
  item_open (Item y ∷ all) x o = item_open all x o
  item_open (End ∷ all) x o = absurd (cc o)

  -- the end behind items
  pub end_keeps : (all : List (Taken T)) → items_in (all ++ End ∷ []) ≡ items_in all
  end_keeps [] = refl
  end_keeps (Item y ∷ all) = ap (λ xs. y ∷ xs) (end_keeps all)
  end_keeps (End ∷ all) = refl

  pub end_ends : (all : List (Taken T)) → has_end (all ++ End ∷ []) ≡ true
  end_ends [] = refl
  end_ends (Item y ∷ all) = end_ends all
  end_ends (End ∷ all) = refl

  -- the items of a front are a front of the items, and all once the end is in it
  pub front_items : (front behind : List (Taken T)) → IsPrefix (items_in front) (items_in (front ++ behind))
  front_items [] behind = (items_in behind, refl)
  front_items (Item x ∷ front) behind = let more = front_items front behind in (more.0, ap (λ xs. x ∷ xs) more.1)
  front_items (End ∷ front) behind = ([], refl)

  pub whole_items : (front behind : List (Taken T)) → has_end front ≡ true → (items_in front ≡ items_in (front ++ behind)) × (has_end (front ++ behind) ≡ true)
  whole_items [] behind e = absurd (cc e)
  whole_items (Item x ∷ front) behind e = let more = whole_items front behind e in (ap (λ xs. x ∷ xs) more.0, more.1)
  whole_items (End ∷ front) behind e = (refl, refl)

module _ {T P : Type 0} where
  -- what came next was taken
  pub takes : (fits : List T → T → Type 0) (all : List (Taken T)) (x : Taken T) (before after : Drain T P) → all ≡ received before.ring → received after.ring ≡ all ++ x ∷ []
      → is_at_end before ≡ false → Follows fits all x → Takes fits before x after
  takes fits all (Item x) before after was now o f = (
    ap items_in (now ∙ ap (λ w. w ++ Item x ∷ []) was) ∙ item_more (received before.ring) x o,
    ap has_end (now ∙ ap (λ w. w ++ Item x ∷ []) was) ∙ item_open (received before.ring) x o,
    subst (λ w. fits (items_in w) x) was f,
  )
  takes fits all End before after was now o f = (
    ap items_in (now ∙ ap (λ w. w ++ End ∷ []) was) ∙ end_keeps (received before.ring),
    ap has_end (now ∙ ap (λ w. w ++ End ∷ []) was) ∙ end_ends (received before.ring),
  )
