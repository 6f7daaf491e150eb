use Rattle.std.proofs.Common.{◌++◌, ◌∙◌}
use Rattle.std.specs.Prelude.{codes}
use Rattle.vsw_config.specs.Path.{path_text, kind_name}
use Rattle.vsw_app.proofs.Speaking.{speaks_then, speaks_part, speaks_is, four}
use Rattle.vsw_app.proofs.complaint.say_fault.Goals as goal

pub returns-in-Ok : goal.returns-in-Ok
returns-in-Ok g c = speaks_is _ _ _ _ _ (four (kind_name c.args.kind) (codes " ") (path_text c.args.path.now) (codes "\n")) (speaks_then (g.H.Host.outside c.args.host.now) (g.H.Host.outside c.say.new.host) (g.H.Host.outside c.say_where.new.host) (kind_name c.args.kind) (codes " " ++ (path_text c.args.path.now ++ codes "\n")) c.say_where.result c.in-Ok.field-0 (speaks_is _ _ _ _ _ (c.as_bytes.ensures.value ∙ c.name.ensures) c.in-Ok.ensures) c.say_where.ensures)

pub returns-in-Err : goal.returns-in-Err
returns-in-Err g c = speaks_is _ _ _ _ _ (four (kind_name c.args.kind) (codes " ") (path_text c.args.path.now) (codes "\n")) (speaks_part (g.H.Host.outside c.args.host.now) (g.H.Host.outside c.say.new.host) (kind_name c.args.kind) (codes " " ++ (path_text c.args.path.now ++ codes "\n")) c.in-Err.failed c.in-Err.failed (speaks_is _ _ _ _ _ (c.as_bytes.ensures.value ∙ c.name.ensures) c.in-Err.ensures))
