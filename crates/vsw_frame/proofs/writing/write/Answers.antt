use Rattle.std.proofs.Common.{List, sym, subst}
use Rattle.vsw_base.specs.declared.header.Header.{Header}
use Rattle.vsw_frame.specs.Bytes.{AreLike}
use Rattle.vsw_frame.proofs.Edits.{like_stand}
use Rattle.vsw_frame.proofs.writing.write.Goals as goal

pub change_levels-requires-clause-stand : goal.change_levels-requires-clause-stand
change_levels-requires-clause-stand c =
    let from : List Header = c.args.from.now in
    let alike : AreLike from c.inner.result.now = subst (AreLike from) (sym c.inner.ensures) c.requires.alike in
    like_stand from c.inner.result.now c.args.levels.now alike c.requires.stand
