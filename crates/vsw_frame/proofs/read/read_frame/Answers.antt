use Rattle.std.proofs.Common.{◌≡◌, ◌∙◌, List, Ok, ap, sym}
use Rattle.vsw_base.specs.declared.header.Header.{Header}
use Rattle.vsw_frame.specs.Frame.{parts}
use Rattle.vsw_frame.specs.Seen.{added, found_parts}
use Rattle.vsw_frame.proofs.Added.{added_first}
use Rattle.vsw_frame.proofs.Tiles.{frame_tiles}
use Rattle.vsw_frame.proofs.read.read_frame.Goals as goal

pub returns-in-Ok-clause-tiles : goal.returns-in-Ok-clause-tiles
returns-in-Ok-clause-tiles c =
    let all : added c.clear.new.self c.find.new.headers ≡ c.find.new.headers = added_first c.clear.new.self c.find.new.headers c.clear.ensures in
    frame_tiles 2 c.args.bytes.now (parts c.framed.result) (sym (ap Ok c.framed.ensures.same ∙ ap (λ (hs : List Header). Ok (found_parts hs c.in-Ok.found)) (sym all) ∙ c.in-Ok.ensures.parts))
