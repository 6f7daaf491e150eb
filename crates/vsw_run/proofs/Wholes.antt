-- A run that ended well read each of its files to the end.
use Rattle.std.proofs.Common.{inl, inr, [], ◌∷◌, sym, subst}
use Rattle.vsw_policy.specs.Sound.{Each}
use Rattle.vsw_run.specs.declared.ending.Ending.TheVariants.{Done}
use Rattle.vsw_run.specs.ByTrace.{EndsSo}
use Rattle.vsw_run.specs.Files.{IsReadOf, IsWhole, InTurn, Reaches}
use Rattle.vsw_run.specs.IsRun.{Ends}
use Rattle.vsw_run.specs.Law.{DoneReadsAll}

pub done_reads_all : DoneReadsAll
done_reads_all local q old new run = by run.ends
  where
    by : Ends local q old new run.files Done → Each IsWhole run.files
    by (inl e) = absurd e.0
    by (inr e) =
        let o = e.opened in
        let ends : EndsSo e.setting (IsReadOf old new e.file) old new Done = e.ends in
        let turn : InTurn q (o.policy ∷ o.commands ∷ e.file ∷ []) = subst (InTurn q) o.all run.opens.in_turn in
        subst (Each IsWhole) (sym o.all) (turn.2.whole, (turn.3.whole, (subst (Reaches old new e.file) ends.tells.read ends.reads.reaches, tt)))
