-- What is found once of a packet's headers, for all conditions.
use Rattle.std.specs.Prelude.{◌≡◌, ℕ, List}
use Rattle.vsw_base.specs.declared.header.Header.{Header}
use Rattle.vsw_base.specs.Shape as shape
use Rattle.vsw_rule.specs.Field.{first_encap}

-- the inner headers, those of the first encapsulation, and the number of encapsulations are those of these headers
pub record IsOf (hs inner first : List Header) (encaps : ℕ) : Type 0 where
  pub inner_is : inner ≡ shape.inner hs
  pub first_is : first ≡ first_encap hs
  pub count : encaps ≡ shape.encaps hs
