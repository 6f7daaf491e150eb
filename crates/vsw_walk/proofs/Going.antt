-- A packet meets a layer, and goes on from there.
use Rattle.std.proofs.Common.{Bool, ◌≡◌, ◌∙◌, ℕ, List, [], ◌∷◌, ◌++◌, Option, None, true, false, refl, sym, ap, subst}
use Rattle.std.proofs.lemmas.List.{append-nil}
use Rattle.vsw_base.specs.declared.flow.Outer.{Outer}
use Rattle.vsw_base.specs.declared.flow.Set.{Set}
use Rattle.vsw_base.specs.declared.header.Header.{Header}
use Rattle.vsw_rule.specs.Edit.{edited, kept_after}
use Rattle.vsw_rule.specs.declared.rule.Action.{Action}
use Rattle.vsw_rule.specs.declared.rule.Action.TheVariants.{Edit}
use Rattle.vsw_rule.specs.Match.{can_do}
use Rattle.vsw_walk.specs.Wanted.{nothing}
use Rattle.vsw_walk.proofs.Turned.{stack_stays}
use Rattle.vsw_walk.specs.Going.{GoesOn}
use Rattle.vsw_walk.specs.Made.{Leads}
use Rattle.vsw_walk.specs.Walk.{Told}
use Rattle.vsw_walk.proofs.Made.{leads_on}

-- what leads to a stack leads there whatever else is told
alike : (first : List Header) (told gone : Told) (kept : ℕ) → gone.stack ≡ told.stack → gone.edits ≡ told.edits → Leads first told kept → Leads first gone kept
alike first told gone kept s e m = rw e (record { can = m.can; made = s ∙ m.made; left = m.left })

-- an edit that is told last
pub edits_on : (decap : Bool) (set : Set) (encap : Option Outer) (told gone seen : Told) (kept left : ℕ) → seen ≡ told → can_do (Edit decap set encap) told.stack ≡ true
    → gone.stack ≡ edited (Edit decap set encap) seen.stack → gone.edits ≡ seen.edits ++ Edit decap set encap ∷ [] → gone.changes ≡ seen.changes → gone.looked ≡ seen.looked
    → gone.due ≡ seen.due → left ≡ kept_after (Edit decap set encap) seen.stack kept → GoesOn (Edit decap set encap) [] told gone kept left
edits_on decap set encap told gone seen kept left is can stack edits changes looked due counted =
    let a : Action = Edit decap set encap in
    let t : can_do a seen.stack ≡ true = ap (λ (s : Told). can_do a s.stack) is ∙ can in
    let all : GoesOn a [] seen gone kept left = record {
      stack = stack;
      counted = counted;
      changes = changes ∙ sym (append-nil seen.changes);
      looked = looked;
      due = due;
      leads = λ first m. leads_on a first seen gone kept left m t stack edits counted;
    } in
    subst (λ (s : Told). GoesOn a [] s gone kept left) is all

-- an action that leaves the stack and what is kept of it
pub stays_on : (a : Action) (told : Told) (kept : ℕ) → told.stack ≡ edited a told.stack → kept ≡ kept_after a told.stack kept → GoesOn a [] told told kept kept
stays_on a told kept stack counted = record { stack = stack; counted = counted; changes = sym (append-nil told.changes); looked = refl; due = refl; leads = λ first m. m }

pub writes_nothing : (set : Set) (told : Told) (kept : ℕ) → set ≡ nothing → GoesOn (Edit false set None) [] told told kept kept
writes_nothing set told kept e =
    let P : Set → Type 0 = λ s. GoesOn (Edit false s None) [] told told kept kept in
    subst P (sym e) (stays_on (Edit false nothing None) told kept (sym (stack_stays told.stack)) refl)
