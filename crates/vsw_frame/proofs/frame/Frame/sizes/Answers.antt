use Rattle.vsw_base.specs.Frame.{sizes_of}
use Rattle.vsw_frame.specs.declared.frame.Levels.{Levels}
use Rattle.vsw_frame.specs.Levels.{levels_of}
use Rattle.vsw_frame.proofs.Opens.{known, Known, sizes_same}
use Rattle.vsw_frame.proofs.frame.Frame.sizes.Goals as goal

pub returns : goal.returns
returns c =
    let f = c.args.self.now in
    let l : Levels = record { first = f.first; second = f.second; third = f.third } in
    let k : Known f.stack.now f.sizes l = known f.stack.now f.control f.sizes l f.payload.now f.read in
    sizes_same f.sizes (sizes_of (levels_of l)) k.whole k.one k.two
