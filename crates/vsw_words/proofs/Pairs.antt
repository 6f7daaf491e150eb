-- Both addresses of IPv6, told by two acts of a row.
use Rattle.std.proofs.Common.{◌≡◌, ℕ, ◌%◌, ◌==◌, ◌&&◌, arith, refl, Bool, true, false, Option, Some, None, is_some}
use Rattle.std.specs.Prelude.{if◌then◌else◌}
use Rattle.std.proofs.lemmas.Grind.{common_steps}
use Rattle.vsw_transpose.specs.declared.act.Change.TheVariants as of
use Rattle.vsw_transpose.specs.declared.act.Act.TheVariants.{Modify}
use Rattle.vsw_words.specs.Reading.{both_of, ip6, src_of}

pub pair_none : (h a b : ℕ) (o : Option ℕ) → ((h % 16 == 9) && is_some o) ≡ false → both_of (src_of h a b) o ≡ None
pair_none h a b = by (h % 16 == 9)
  where
    by : (t : Bool) (o : Option ℕ) → (t && is_some o) ≡ false → both_of (if t then Some (ip6 a b) else None) o ≡ None
    by true None e = refl
    by true (Some d) e = absurd (grind (arith, common_steps))
    by false o e = refl

pub pair_some : (h a b : ℕ) (o : Option ℕ) → ((h % 16 == 9) && is_some o) ≡ true → both_of (src_of h a b) o ≡ Some (Modify (of.Six (Some (ip6 a b)) o))
pair_some h a b = by (h % 16 == 9)
  where
    by : (t : Bool) (o : Option ℕ) → (t && is_some o) ≡ true → both_of (if t then Some (ip6 a b) else None) o ≡ Some (Modify (of.Six (Some (ip6 a b)) o))
    by true None e = absurd (grind (arith, common_steps))
    by true (Some d) e = refl
    by false o e = absurd (grind (arith, common_steps))
