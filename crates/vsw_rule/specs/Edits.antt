-- What the acts of an edit are and do.
use Rattle.std.specs.Prelude.{◌≡◌, List, Bool, true, Option}
use Rattle.vsw_base.specs.declared.flow.Set.{Set}
use Rattle.vsw_base.specs.declared.flow.Outer.{Outer}
use Rattle.vsw_base.specs.declared.header.Header.{Header}
use Rattle.vsw_base.specs.Shape.{is_stack, encaps}
use Rattle.vsw_rule.specs.declared.rule.Action.TheVariants.{Edit}
use Rattle.vsw_transpose.specs.declared.act.Act.{Act}
use Rattle.vsw_transpose.specs.Apply.{apply}
use Rattle.vsw_transpose.specs.Form.{is_form}
use Rattle.vsw_transpose.specs.Fits.{fits, kept, alike}
use Rattle.vsw_rule.specs.Edit.{edited, kept_after}

-- the acts are a transposition that fits the stack, does the edit on each stack with headers of the same kinds, and keeps what the
-- edit keeps
pub record Edits (decap : Bool) (set : Set) (encap : Option Outer) (xs : List Act) (hs : List Header) : Type 0 where
  pub form : is_form xs ≡ true
  pub fit : fits xs hs ≡ true
  pub does : apply xs hs ≡ edited (Edit decap set encap) hs
  pub does_alike : (ks : List Header) → is_stack ks ≡ true → alike ks hs → apply xs ks ≡ edited (Edit decap set encap) ks
  pub left : kept xs ≡ kept_after (Edit decap set encap) hs (encaps hs)
