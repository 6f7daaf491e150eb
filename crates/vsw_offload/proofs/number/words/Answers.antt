use Rattle.std.proofs.Common.{◌≡◌, length, subst, sym}
use Rattle.std.specs.List.{flat_map}
use Rattle.byteorder.specs.Endian.{little_bytes}
use Rattle.vsw_offload.proofs.Numbers.{words_are, words_back, words_below}
use Rattle.vsw_offload.specs.Rows.{AreWords}
use Rattle.vsw_offload.proofs.number.words.Goals as goal

pub returns-clause-words : goal.returns-clause-words
returns-clause-words c = words_are (length c.args.out.now) c.read_u64_into.new.dst c.args.bytes.now c.read_u64_into.auto.dst c.read_u64_into.ensures

pub returns-clause-back : goal.returns-clause-back
returns-clause-back c = subst (λ ws. flat_map (little_bytes 8) ws ≡ c.args.bytes.now) (sym (returns-clause-words c)) (words_back (length c.args.out.now) c.args.bytes.now c.requires.long c.are_bytes.ensures)

pub returns-clause-below : goal.returns-clause-below
returns-clause-below c = subst AreWords (sym (returns-clause-words c)) (words_below (length c.args.out.now) c.args.bytes.now c.are_bytes.ensures)
