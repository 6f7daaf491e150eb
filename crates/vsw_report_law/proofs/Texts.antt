-- The text of a run's rounds is read back, and so it fixes them.
use Rattle.std.proofs.Common.{◌≡◌, refl, subst}
use Rattle.vsw_promise.specs.Rounds.{AreRounds}
use Rattle.vsw_report.proofs.RoundsBack.{one_report}
use Rattle.vsw_run.proofs.Ordered.{rounds_are_told}
use Rattle.vsw_report_law.proofs.Histories.{one_history}
use Rattle.vsw_report_law.proofs.Proper.{rounds_are_proper}
use Rattle.vsw_report_law.specs.Law.{OneText, ReportIsRead, TextFixesHistories}

pub one_text : OneText
one_text s t records packets cs ds rounds others given same are cut run other e =
    one_report rounds others (rounds_are_proper s records cs rounds given are run) (rounds_are_proper t packets ds others same cut other) e

pub report_is_read : ReportIsRead
report_is_read s records cs rounds given are run = record {
  text = refl;
  proper = rounds_are_proper s records cs rounds given are run;
  told = rounds_are_told s records cs rounds given.served run;
}

pub text_fixes_histories : TextFixesHistories
text_fixes_histories s records cs rounds others given are run other e =
    subst (λ w. (o : AreRounds s records cs w) → run.histories ≡ o.histories) (one_text s s records records cs cs rounds others given given are are run other e) (λ o. one_history s records cs rounds given.served run o) other
