use Rattle.std.specs.Prelude.{codes}
use Rattle.vsw_run.specs.Complaint.{place_text, rows_text}
use Rattle.vsw_run.specs.declared.ending.RowsFault.{RowsFault}
use Rattle.vsw_run.specs.declared.ending.RowsFault.TheVariants as variant
use Rattle.vsw_app.proofs.Speaking.{speaks_of, speaks_is, three}
use Rattle.vsw_app.proofs.complaint.say_rows.Goals as goal

pub returns-in-Bad : goal.returns-in-Bad
returns-in-Bad g c = speaks_of RowsFault rows_text _ _ c.args.why.now (variant.Bad c.in-Bad.why) _ c.in-Bad.is (speaks_is _ _ _ _ _ (three (codes "vsw: refused rows ") (place_text c.in-Bad.why) (codes "\n")) c.say_bad_rows.ensures)

pub returns-in-RowsLimit : goal.returns-in-RowsLimit
returns-in-RowsLimit g c = speaks_of RowsFault rows_text _ _ c.args.why.now variant.RowsLimit _ c.in-RowsLimit.is c.say.ensures
