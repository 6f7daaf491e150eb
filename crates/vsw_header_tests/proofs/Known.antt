-- The definition of a frame computes on frames that were read by hand.
use Rattle.std.proofs.Common.{refl}
use Rattle.vsw_base.specs.Frame.{frame_in}
use Rattle.vsw_base.specs.Spelling.{cut_at, small_of}
use Rattle.vsw_base.specs.Spelling6.{group_of, colons_at, eight_of, prefix6_of}
use Rattle.vsw_base.specs.Vectors.{ReadsPlain, ReadsEncapsulated, ReadsFaults, ReadsSix, ReadsSixFaults, SpellsSix}

pub reads_plain : ReadsPlain
unfolding frame_in
reads_plain = refl

pub reads_encapsulated : ReadsEncapsulated
unfolding frame_in
reads_encapsulated = refl

pub reads_faults : ReadsFaults
unfolding frame_in
reads_faults = (refl, refl, refl, refl, refl, refl, refl, refl, refl)

pub reads_six : ReadsSix
unfolding frame_in
reads_six = refl

pub reads_six_faults : ReadsSixFaults
unfolding frame_in
reads_six_faults = (refl, refl, refl, refl)

pub spells_six : SpellsSix
unfolding cut_at small_of group_of colons_at eight_of prefix6_of
spells_six = (refl, refl, refl, refl, refl, refl, refl, refl, refl, refl, refl, refl, refl)
