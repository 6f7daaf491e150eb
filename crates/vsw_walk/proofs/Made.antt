-- The actions that make a packet's stack, one after another.
use Rattle.std.proofs.Common.{◌≡◌, ◌∙◌, ℕ, List, [], ◌∷◌, ◌++◌, true, refl, sym, ap, subst}
use Rattle.std.proofs.lemmas.List.{append-nil}
use Rattle.vsw_base.specs.declared.header.Header.{Header}
use Rattle.vsw_base.specs.Shape.{encaps}
use Rattle.vsw_rule.specs.Edit.{edited, kept_after}
use Rattle.vsw_rule.specs.declared.rule.Action.{Action}
use Rattle.vsw_rule.specs.declared.rule.Action.TheVariants.{Allow, Drop, Edit}
use Rattle.vsw_rule.specs.Match.{can_do}
use Rattle.vsw_walk.specs.Made.{CanMake, Leads, editing, left_by, made_by}
use Rattle.vsw_walk.specs.Walk.{Told}

pub can_last : (a : Action) (es : List Action) (hs : List Header) → CanMake es hs → can_do a (made_by es hs) ≡ true → CanMake (es ++ a ∷ []) hs
can_last a [] hs c t = (t, tt)
can_last a (b ∷ es) hs c t = (c.0, can_last a es (edited b hs) c.1 t)

pub can_before : (a : Action) (es : List Action) (hs : List Header) → CanMake (es ++ a ∷ []) hs → CanMake es hs × (can_do a (made_by es hs) ≡ true)
can_before a [] hs c = (tt, c.0)
can_before a (b ∷ es) hs c = let r = can_before a es (edited b hs) c.1 in ((c.0, r.0), r.1)

pub made_last : (a : Action) (es : List Action) (hs : List Header) → made_by (es ++ a ∷ []) hs ≡ edited a (made_by es hs)
made_last a [] hs = refl
made_last a (b ∷ es) hs = made_last a es (edited b hs)

pub left_last : (a : Action) (es : List Action) (hs : List Header) (kept : ℕ) → left_by (es ++ a ∷ []) hs kept ≡ kept_after a (made_by es hs) (left_by es hs kept)
left_last a [] hs kept = refl
left_last a (b ∷ es) hs kept = left_last a es (edited b hs) (kept_after b hs kept)

-- an action that edits nothing leaves all as it is
same : (first : List Header) (told gone : Told) (kept left : ℕ) → Leads first told kept → gone.stack ≡ told.stack → gone.edits ≡ told.edits ++ [] → left ≡ kept → Leads first gone left
same first told gone kept left m stack edits counted =
    let all : gone.edits ≡ told.edits = edits ∙ append-nil told.edits in
    rw all (record { can = m.can; made = stack ∙ m.made; left = counted ∙ m.left })

-- one action more
pub leads_on : (a : Action) (first : List Header) (told gone : Told) (kept left : ℕ) → Leads first told kept → can_do a told.stack ≡ true
    → gone.stack ≡ edited a told.stack → gone.edits ≡ told.edits ++ editing a → left ≡ kept_after a told.stack kept → Leads first gone left
leads_on Allow first told gone kept left m can stack edits counted = same first told gone kept left m stack edits counted
leads_on Drop first told gone kept left m can stack edits counted = same first told gone kept left m stack edits counted
leads_on (Edit decap set encap) first told gone kept left m can stack edits counted =
    let a : Action = Edit decap set encap in
    let es : List Action = told.edits in
    let t : can_do a (made_by es first) ≡ true = ap (can_do a) (sym m.made) ∙ can in
    let made : gone.stack ≡ made_by (es ++ a ∷ []) first = stack ∙ ap (edited a) m.made ∙ sym (made_last a es first) in
    let counts : left ≡ left_by (es ++ a ∷ []) first (encaps first) =
    counted ∙ ap (λ (hs : List Header). kept_after a hs kept) m.made ∙ ap (kept_after a (made_by es first)) m.left ∙ sym (left_last a es first (encaps first)) in
    let P : List Action → Type 0 = λ fs. CanMake fs first × (gone.stack ≡ made_by fs first) × (left ≡ left_by fs first (encaps first)) in
    let all = subst P (sym edits) (can_last a es first m.can t, made, counts) in
    record { can = all.0; made = all.1; left = all.2 }
