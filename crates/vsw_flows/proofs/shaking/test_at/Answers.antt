use Rattle.std.proofs.Common.{[], ◌∷◌, map}
use Rattle.vsw_policy.specs.Layer.{seen}
use Rattle.vsw_flows.proofs.Shaken.{past, tries_none, tries_then}
use Rattle.vsw_flows.proofs.shaking.test_at.Goals as goal

pub returns-clause-thins : goal.returns-clause-thins
returns-clause-thins c =
    let ls = map seen c.args.layers.now in
    let w = c.args.change.now in
    let k = c.at-leaners.result in
    let v = c.args.writer.now in
    let l = c.args.leaning.now in
    let a = tries_then ls w [] k.first v v c.test.new.writer l l c.test.new.leaning (tries_none ls w v l) c.test.ensures.thins c.test.ensures.tested in
    let b = tries_then ls w (k.first ∷ []) k.second v c.test.new.writer c.test-2.new.writer l c.test.new.leaning c.test-2.new.leaning a c.test-2.ensures.thins c.test-2.ensures.tested in
    let d = tries_then ls w (k.second ∷ k.first ∷ []) k.third v c.test-2.new.writer c.test-3.new.writer l c.test-2.new.leaning c.test-3.new.leaning b c.test-3.ensures.thins c.test-3.ensures.tested in
    let e = tries_then ls w (k.third ∷ k.second ∷ k.first ∷ []) k.fourth v c.test-3.new.writer c.test-4.new.writer l c.test-3.new.leaning c.test-4.new.leaning d c.test-4.ensures.thins c.test-4.ensures.tested in
    e.thins

pub returns-clause-past : goal.returns-clause-past
returns-clause-past c =
    let ls = map seen c.args.layers.now in
    let w = c.args.change.now in
    let k = c.at-leaners.result in
    let v = c.args.writer.now in
    let l = c.args.leaning.now in
    let a = tries_then ls w [] k.first v v c.test.new.writer l l c.test.new.leaning (tries_none ls w v l) c.test.ensures.thins c.test.ensures.tested in
    let b = tries_then ls w (k.first ∷ []) k.second v c.test.new.writer c.test-2.new.writer l c.test.new.leaning c.test-2.new.leaning a c.test-2.ensures.thins c.test-2.ensures.tested in
    let d = tries_then ls w (k.second ∷ k.first ∷ []) k.third v c.test-2.new.writer c.test-3.new.writer l c.test-2.new.leaning c.test-3.new.leaning b c.test-3.ensures.thins c.test-3.ensures.tested in
    let e = tries_then ls w (k.third ∷ k.second ∷ k.first ∷ []) k.fourth v c.test-3.new.writer c.test-4.new.writer l c.test-3.new.leaning c.test-4.new.leaning d c.test-4.ensures.thins c.test-4.ensures.tested in
    past ls w c.args.spot k v c.test-4.new.writer l c.test-4.new.leaning c.at-leaners.ensures e
